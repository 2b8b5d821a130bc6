-- The marks of the dirty paths, one after another.
use Rattle.std.proofs.Common.{◌≡◌, ℕ, Bool, true, false, cond, List, [], ◌∷◌, ◌++◌, map, length, refl, sym, ap, ◌∙◌, arith, append_assoc, append-nil}
use Rattle.std.specs.Prelude.{filter, if◌then◌else◌}
use Rattle.eden_history.specs.declared.mark.Marked.{Marked}

module _ (test : List ℕ → Bool) (mark : List ℕ → Marked) where
  abbrev pub marks_of : List (List ℕ) → List Marked
  marks_of ps = map mark (filter test ps)

  -- one path more
  pub one_marked : (done next : List Marked) (p : List ℕ) (left ps : List (List ℕ)) (all : List Marked) → ps ≡ p ∷ left → next ≡ done ++ (if test p then mark p ∷ [] else [])
      → done ++ marks_of ps ≡ all → next ++ marks_of left ≡ all
  one_marked done next p left ps all first more so_far =
      ap (λ ms. ms ++ marks_of left) more
      ∙ append_assoc done (if test p then mark p ∷ [] else []) (marks_of left)
      ∙ ap (λ ms. done ++ ms) (by (test p))
      ∙ ap (λ qs. done ++ marks_of qs) (sym first)
      ∙ so_far
    where
      by : (b : Bool) → (if b then mark p ∷ [] else []) ++ marks_of left ≡ map mark (cond b (p ∷ filter test left) (filter test left))
      by true = refl
      by false = refl

  -- and none
  pub none_marked : (done : List Marked) (ps : List (List ℕ)) (all : List Marked) → length ps ≡ 0 → done ++ marks_of ps ≡ all → done ≡ all
  none_marked done [] all none so_far = sym (append-nil done) ∙ so_far
  none_marked done (p ∷ ps) all none so_far = absurd (omega (arith, none))
