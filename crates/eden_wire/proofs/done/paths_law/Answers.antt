use Rattle.std.proofs.Common.{◌≡◌, ℕ, suc, ◌+◌, ◌<◌, List, ◌∷◌, length, get_or, drop, sym, ap, subst, ◌∙◌, arith, add-one, drop-cons}
use Rattle.std.specs.List.{AllByRecursion}
use Rattle.std.proofs.Math.ListN.{drop_of_length-le}
use Rattle.eden_ids.specs.Texts.{IsPathText}
use Rattle.eden_wire.proofs.done.paths_law.Goals as goal

one_more : (paths : List (List ℕ)) (i : ℕ) (p : List ℕ) → i < length paths → p ≡ get_or paths i p → IsPathText p
    → (AllByRecursion IsPathText (drop i paths) → AllByRecursion IsPathText paths) → AllByRecursion IsPathText (drop (i + 1) paths) → AllByRecursion IsPathText paths
one_more paths i p within is text before rest =
    let parts : drop i paths ≡ p ∷ drop (suc i) paths = drop-cons paths i p within ∙ ap (λ q. q ∷ drop (suc i) paths) (sym is) in
    let later : AllByRecursion IsPathText (drop (suc i) paths) = subst (λ n. AllByRecursion IsPathText (drop n paths)) (add-one i) rest in
    before (subst (AllByRecursion IsPathText) (sym parts) (text, later))

pub loop-path-init : goal.loop-path-init
loop-path-init c = λ all. all

pub loop-path-preserved : goal.loop-path-preserved
loop-path-preserved c =
    one_more c.args.paths.now c.loop-path.path-index c.path-item.result (omega arith) c.path-item.is c.path_law.ensures c.loop-path.invariant

pub returns : goal.returns
returns c = c.loop-path.invariant (subst (AllByRecursion IsPathText) (sym (drop_of_length-le c.args.paths.now (omega arith))) tt)
