-- Each step of a head word keeps its rule.
use Rattle.std.proofs.Common.{◌≡◌, ℕ, zero, suc, ◌≤◌, max, List, [], ◌∷◌, get_or, set, sym, ◌∙◌, refl, subst, arith, length-set, get_or-set_same, le_refl, le_trans}
use mathlib.Core.Option.{none, some, some-injective, some-ne-none}
use lib.ListN.{get_elem?}
use Rattle.std.specs.List.{All}
use Rattle.std.proofs.Math.Nat.{le-max_left}
use Rattle.std.proofs.lemmas.List.Elements.{All-nil, All-cons, All-head, All-tail, All-append, All-set}
use Rattle.atomic_table.specs.Table.{State, Me, step, keeps, stepped, Allows, Splits, Joins}
use Rattle.eden_shared.specs.internal.HeadSteps.{IsAbove, Loads, Raises}

-- what holds of all holds of the one at a place
all_at : {X : Type 0} (P : X → Type 0) (xs : List X) (place : ℕ) (x : X) → get_elem? xs place ≡ some x → All P xs → P x
all_at P [] place x at all = absurd (some-ne-none x (sym at))
all_at P (y ∷ ys) zero x at all = subst P (some-injective y x at) (All-head P y ys all)
all_at P (y ∷ ys) (suc place) x at all = all_at P ys place x at (All-tail P y ys all)

-- the word becomes a number that is not below it, and a seat has seen no more than that
rises : (s : State (Unit {0}) ℕ) (id : ℕ) (me : Me (Unit {0}) ℕ) (number seen : ℕ) → IsAbove s → get_or s.words 0 0 ≤ number → seen ≤ number
    → IsAbove (stepped s 0 number id me.1 seen keeps)
rises s id me number seen above risen within =
    let one = above.0 in
    let is : get_or (set s.words 0 number) 0 0 ≡ number = get_or-set_same s.words 0 number 0 (omega arith) in (
      length-set s.words 0 number ∙ one,
      subst (λ word. All (λ seen. seen ≤ word) (set s.views id seen)) (sym is)
          (All-set (λ seen. seen ≤ number) s.views id seen within (λ k d there. le_trans (above.1 k d there) risen)),
    )

-- a new seat has seen what one seat has
pub forks : (id seen : ℕ) → Splits IsAbove id seen seen seen
forks id seen s above at =
    let IsSeen : ℕ → Type 0 = λ number. number ≤ get_or s.words 0 0 in
    let within = all_at IsSeen s.views id seen at above.1 in
    (above.0, All-append IsSeen (set s.views id seen) (seen ∷ []) (All-set IsSeen s.views id seen within above.1) (All-cons IsSeen seen [] within (All-nil IsSeen)))

-- one seat stays as it was, and another has seen nothing any more
pub joins : (id seen spent was : ℕ) → Joins IsAbove id seen spent was seen 0
joins id seen spent was s above at _ _ =
    let IsSeen : ℕ → Type 0 = λ number. number ≤ get_or s.words 0 0 in
    (above.0, All-set IsSeen (set s.views id seen) spent 0 (omega arith) (All-set IsSeen s.views id seen (all_at IsSeen s.views id seen at above.1) above.1))

-- the word stays, and a seat has seen it
pub loads : (slots id : ℕ) (me : Me (Unit {0}) ℕ) → Allows IsAbove slots id me 0 (λ found. found) (Loads (step slots 0 0 0 none) me)
loads slots id me s above _ at _ =
    let found = get_or s.words 0 0 in (
      found,
      keeps,
      tt,
      rises s id me found found above (le_refl found) (le_refl found),
      (all_at (λ seen. seen ≤ found) s.views id me.0 at above.1, refl, refl),
    )

-- the word becomes the greater of itself and a ticket, and a seat has seen that ticket
pub raises : (slots id ticket : ℕ) (me : Me (Unit {0}) ℕ) → Allows IsAbove slots id me 0 (λ found. max found ticket) (Raises (step slots 0 ticket 0 none) me)
raises slots id ticket me s above _ at _ =
    let found = get_or s.words 0 0 in
    let within = all_at (λ seen. seen ≤ found) s.views id me.0 at above.1 in (
      max me.0 ticket,
      keeps,
      tt,
      rises s id me (max found ticket) (max me.0 ticket) above (le-max_left found ticket) (omega arith),
      (refl, refl),
    )
