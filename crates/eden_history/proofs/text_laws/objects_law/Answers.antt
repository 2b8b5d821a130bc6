use Rattle.std.proofs.Common.{◌≡◌, ℕ, suc, ◌+◌, ◌<◌, List, ◌∷◌, length, get_or, drop, sym, ap, subst, ◌∙◌, arith, add-one, drop-cons}
use Rattle.std.proofs.Math.ListN.{drop_of_length-le}
use Rattle.eden_ids.specs.Texts.{AreBytes}
use Rattle.eden_objects.specs.declared.import.Object.{Object}
use Rattle.eden_history.specs.Spellable.{AreObjects}
use Rattle.eden_history.proofs.text_laws.objects_law.Goals as goal

one_more : (objects : List Object) (i : ℕ) (object : Object) → i < length objects → object ≡ get_or objects i object → AreBytes object.payload
    → (AreObjects (drop i objects) → AreObjects objects) → AreObjects (drop (i + 1) objects) → AreObjects objects
one_more objects i object within is bytes before rest =
    let parts : drop i objects ≡ object ∷ drop (suc i) objects = drop-cons objects i object within ∙ ap (λ o. o ∷ drop (suc i) objects) (sym is) in
    let later : AreObjects (drop (suc i) objects) = subst (λ n. AreObjects (drop n objects)) (add-one i) rest in
    before (subst AreObjects (sym parts) (bytes, later))

pub loop-object-init : goal.loop-object-init
loop-object-init c = λ all. all

pub loop-object-preserved : goal.loop-object-preserved
loop-object-preserved c =
    one_more c.args.objects.now c.loop-object.object-index c.object-item.result (omega arith) c.object-item.is
    (subst AreBytes c.as_slice.ensures c.bytes_law.ensures) c.loop-object.invariant

pub returns : goal.returns
returns c = c.loop-object.invariant (subst AreObjects (sym (drop_of_length-le c.args.objects.now (omega arith))) tt)
