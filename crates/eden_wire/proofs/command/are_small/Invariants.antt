use Rattle.std.proofs.Common.{take}
use Rattle.std.specs.Prelude.{All}
use Rattle.eden_wire.specs.internal.Steps.{IsSmallObject}
use Rattle.eden_wire.proofs.command.are_small.Given as goal

abbrev pub invariant-loop-object : goal.invariant-loop-object
invariant-loop-object l = All IsSmallObject (take l.object-index l.objects)
