use Rattle.std.proofs.Common.{◌≡◌, ℕ, suc, ◌+◌, ◌<◌, List, ◌∷◌, length, get_or, drop, sym, ap, subst, ◌∙◌, arith, add-one, drop-cons}
use Rattle.std.specs.Global.{Vec}
use Rattle.std.specs.List.{AllByRecursion}
use Rattle.std.proofs.Math.ListN.{drop_of_length-le}
use Rattle.eden_ids.specs.Texts.{AreBytes}
use Rattle.eden_globs.specs.Filters.{lists}
use Rattle.eden_messages.proofs.text_laws.patterns_law.Goals as goal

abbrev AllBytes : List (Vec ℕ) → Type 0
AllBytes patterns = AllByRecursion AreBytes (lists patterns)

one_more : (patterns : List (Vec ℕ)) (i : ℕ) (p : Vec ℕ) → i < length patterns → p ≡ get_or patterns i p → AreBytes p.items → (AllBytes (drop i patterns) → AllBytes patterns)
    → AllBytes (drop (i + 1) patterns) → AllBytes patterns
one_more patterns i p within is bytes before rest =
    let parts : drop i patterns ≡ p ∷ drop (suc i) patterns = drop-cons patterns i p within ∙ ap (λ q. q ∷ drop (suc i) patterns) (sym is) in
    let later : AllBytes (drop (suc i) patterns) = subst (λ n. AllBytes (drop n patterns)) (add-one i) rest in
    before (subst AllBytes (sym parts) (bytes, later))

pub loop-pattern-init : goal.loop-pattern-init
loop-pattern-init c = λ all. all

pub loop-pattern-preserved : goal.loop-pattern-preserved
loop-pattern-preserved c =
    one_more c.args.patterns.now c.loop-pattern.pattern-index c.pattern-item.result (omega arith) c.pattern-item.is
    (subst AreBytes c.as_slice.ensures.value c.bytes_law.ensures) c.loop-pattern.invariant

pub returns : goal.returns
returns c =
    c.loop-pattern.invariant (subst AllBytes (sym (drop_of_length-le c.args.patterns.now (omega arith))) tt)
