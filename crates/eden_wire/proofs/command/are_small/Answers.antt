use Rattle.std.proofs.Common.{arith, rules, subst}
use Rattle.std.specs.Prelude.{All}
use Rattle.std.proofs.lemmas.List.{take_all}
use Rattle.std.proofs.lemmas.List.Elements.{All-more}
use Rattle.eden_wire.specs.internal.Steps.{IsSmallObject}
use Rattle.eden_wire.proofs.command.are_small.Goals as goal

pub loop-object-preserved : goal.loop-object-preserved
loop-object-preserved c =
    All-more IsSmallObject c.args.objects.now c.loop-object.object-index c.object-item.result (omega arith) c.loop-object.invariant
    (subst IsSmallObject c.object-item.is (omega (arith, c.len.ensures, c.if-len-gt-LIMIT.false)))

pub returns : goal.returns
returns c = (λ t. subst (All IsSmallObject) (take_all c.loop-object.object-index c.args.objects.now (omega arith)) c.loop-object.invariant, λ all. search rules)
