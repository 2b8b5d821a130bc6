-- A name that is noted is among the names.
use Rattle.std.proofs.Common.{◌≡◌, ◌∙◌, refl, sym, ap, ℕ, Bool, true, false, cond, ◌||◌, List}
use Rattle.std.specs.Borrow.{Bor}
use Rattle.std.specs.Ordering.{nat_cmp}
use Rattle.std.specs.Cmp.Lexicographic.{slice_cmp, texts_ties}
use Rattle.std.specs.BTreeSet.{BTreeSet, Updates, contains}
use Rattle.std.specs.BTreeMap.{is_at}
use Rattle.eden_ids.specs.Sameness.{same_bytes}
use Rattle.eden_git.specs.Trees.{Entry}
use Rattle.eden_objects.specs.internal.Earlier.{has_name}

or_first : (t x : Bool) → cond t true x ≡ (t || x)
or_first true x = refl
or_first false x = refl

pub noted : (old new : BTreeSet (Bor (List ℕ))) (name : Bor (List ℕ)) (earlier : List Entry)
    → Updates (λ a b. slice_cmp nat_cmp a.now b.now) old new name true
    → ((n : Bor (List ℕ)) → contains (λ a b. slice_cmp nat_cmp a.now b.now) old n ≡ has_name n.now earlier)
    → (n : Bor (List ℕ)) → contains (λ a b. slice_cmp nat_cmp a.now b.now) new n ≡ (same_bytes name.now n.now || has_name n.now earlier)
noted old new name earlier updates names n =
    updates.0 n ∙ ap (cond (is_at (λ b. slice_cmp nat_cmp name.now b.now) n) true) (names n)
    ∙ ap (λ t. cond t true (has_name n.now earlier)) (sym (texts_ties name.now n.now))
    ∙ or_first (same_bytes name.now n.now) (has_name n.now earlier)
