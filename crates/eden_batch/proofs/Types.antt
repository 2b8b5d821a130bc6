-- The types of objects, as fields of a header.
use Rattle.std.proofs.Common.{◌≡◌, ◌≢◌, ℕ, ◌<◌, inl, inr, List, [], ◌++◌, length, get_or, drop, refl, sym, ap, ◌∙◌, arith}
use Rattle.std.proofs.lemmas.Bool.{cases_lt}
use Rattle.std.proofs.lemmas.List.{append-nil, nil_from_length}
use Rattle.eden_git.specs.declared.object_type.ObjectType.{ObjectType}
use Rattle.eden_git.specs.declared.object_type.ObjectType.TheVariants.{Blob, Tree, Commit}
use Rattle.eden_batch.specs.internal.Fields.{type_field}

-- what begins a type's name, and is not begun by it, is not all of it
pub part_of_type : (bytes field : List ℕ) → field ≡ bytes ++ drop (length bytes) field → ((rest : List ℕ) → bytes ≢ field ++ rest) → 0 < length (drop (length bytes) field)
part_of_type bytes field starts other =
    let more = drop (length bytes) field in
    elim (cases_lt 0 (length more)) [
      | inl l ↦ l
      | inr g ↦
          let all : field ≡ bytes = starts ∙ ap (λ l. bytes ++ l) (nil_from_length more (omega arith)) ∙ append-nil bytes in
          absurd (other [] (sym all ∙ sym (append-nil field)))
    ]

-- a type is read in one way
pub type_split : (object_type other : ObjectType) (a b : List ℕ) → type_field object_type ++ a ≡ type_field other ++ b → (object_type ≡ other) × (a ≡ b)
type_split Blob Blob a b e = (refl, ap (drop 5) e)
type_split Tree Tree a b e = (refl, ap (drop 5) e)
type_split Commit Commit a b e = (refl, ap (drop 7) e)
type_split object_type other a b e = absurd (omega (arith, ap (λ l. get_or l 0 0) e))
