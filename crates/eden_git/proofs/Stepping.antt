-- The entries of a tree are given one after another.
use Rattle.std.proofs.Common.{◌≡◌, ℕ, zero, suc, ◌+◌, ◌<◌, List, [], ◌∷◌, drop, length, Option, Some, None, sym, ap, ◌∙◌, arith}
use Rattle.std.proofs.lemmas.Option.{get_or_from_slice_get, slice_get_within}
use Rattle.std.proofs.Math.Seq.{drop-cons}
use Rattle.std.specs.Iterator.{YieldsFirstBy}
use Rattle.std.specs.List.{slice_get}
use Rattle.eden_git.specs.declared.entry.RawEntry.{RawEntry}
use Rattle.eden_git.specs.Entries.{option_plain, plain}
use Rattle.eden_git.specs.Trees.{Entry}

-- from a row on, the entry at the row comes first
next_row : (es : List Entry) (row : ℕ) (e : Entry) → Some e ≡ slice_get es row → drop row es ≡ e ∷ drop (row + 1) es
next_row es row e at =
    let next : suc row ≡ row + 1 = omega arith in
    drop-cons es row e (slice_get_within es row e (sym at))
    ∙ ap (λ (f : Entry). f ∷ drop (suc row) es) (get_or_from_slice_get es row e e (sym at)) ∙ ap (λ n. e ∷ drop n es) next

some_row : (es : List Entry) (row : ℕ) → row < length es → slice_get es row ≡ None → ⊥
some_row [] row within none = absurd (omega (arith, within))
some_row (e ∷ es) zero within none = cc none
some_row (e ∷ es) (suc row) within none = some_row es row (omega (arith, within)) none

pub gives_row : (es : List Entry) (row : ℕ) (given : Option RawEntry) → row < length es → option_plain given ≡ slice_get es row
    → YieldsFirstBy plain (λ left. left) (drop row es) given (drop (row + 1) es)
gives_row es row None within is = absurd (some_row es row within (sym is))
gives_row es row (Some entry) within is = next_row es row (plain entry) is
