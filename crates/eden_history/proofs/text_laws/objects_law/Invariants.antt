use Rattle.std.proofs.Common.{drop}
use Rattle.eden_history.specs.Spellable.{AreObjects}
use Rattle.eden_history.proofs.text_laws.objects_law.Given as goal

abbrev pub invariant-loop-object : goal.invariant-loop-object
invariant-loop-object l = AreObjects (drop l.object-index l.objects) → AreObjects l.objects
