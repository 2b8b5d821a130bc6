-- How the lines of a stream are cut.
use Rattle.std.proofs.Common.{◌≡◌, ℕ, ◌<◌, inl, inr, Bool, true, false, cond, List, [], ◌∷◌, ◌++◌, length, map, refl, sym, ap, ◌∙◌, arith, append_assoc, append-nil, length-append}
use Rattle.std.specs.List.{All, slice_split, onto_first}
use Rattle.std.specs.Str.Lines.{lines, lines_of_parts, strip_carriage_return}
use Rattle.std.proofs.Math.Dec.{eqb}
use Rattle.std.proofs.lemmas.Bool.{ne_eqb}
use Rattle.std.proofs.lemmas.List.Splits.{slice_split-cons_yes, slice_split-cons_no, slice_split_none, slice_split_at, length-slice_split}
use Rattle.eden_stream.specs.Lines.{HasNoBreak, IsWholeLines}

parts-cons : (x : List ℕ) (parts : List (List ℕ)) → 0 < length parts → lines_of_parts (x ∷ parts) ≡ strip_carriage_return x ∷ lines_of_parts parts
parts-cons x [] l = absurd (omega arith)
parts-cons x (y ∷ more) l = refl

parts-append : (xs ys : List (List ℕ)) → 0 < length ys → lines_of_parts (xs ++ ys) ≡ map strip_carriage_return xs ++ lines_of_parts ys
parts-append [] ys l = refl
parts-append (x ∷ xs) ys l =
    parts-cons x (xs ++ ys) (omega (arith, length-append xs ys)) ∙ ap (λ parts. strip_carriage_return x ∷ parts) (parts-append xs ys l)

onto_first-append : (x : ℕ) (xs ys : List (List ℕ)) → 0 < length xs → onto_first x (xs ++ ys) ≡ onto_first x xs ++ ys
onto_first-append x [] ys l = absurd (omega arith)
onto_first-append x (part ∷ parts) ys l = refl

abbrev ends : ℕ → Bool
ends byte = eqb byte 10

split-cons : (x : ℕ) (xs tail : List ℕ) (b : Bool) → ends x ≡ b → slice_split ends (xs ++ 10 ∷ tail) ≡ slice_split ends xs ++ slice_split ends tail
    → slice_split ends ((x ∷ xs) ++ 10 ∷ tail) ≡ slice_split ends (x ∷ xs) ++ slice_split ends tail
split-cons x xs tail true e h =
    slice_split-cons_yes ends x (xs ++ 10 ∷ tail) e ∙ ap (λ parts. [] ∷ parts) h ∙ ap (λ parts. parts ++ slice_split ends tail) (sym (slice_split-cons_yes ends x xs e))
split-cons x xs tail false e h =
    slice_split-cons_no ends x (xs ++ 10 ∷ tail) e ∙ ap (onto_first x) h
    ∙ onto_first-append x (slice_split ends xs) (slice_split ends tail) (omega (arith, length-slice_split ends xs))
    ∙ ap (λ parts. parts ++ slice_split ends tail) (sym (slice_split-cons_no ends x xs e))

split-append : (front tail : List ℕ) → slice_split ends (front ++ 10 ∷ tail) ≡ slice_split ends front ++ slice_split ends tail
split-append [] tail = refl
split-append (x ∷ xs) tail = split-cons x xs tail (ends x) refl (split-append xs tail)

lines-after : (front tail : List ℕ) → lines (front ++ 10 ∷ tail) ≡ map strip_carriage_return (slice_split ends front) ++ lines tail
lines-after front tail =
    ap lines_of_parts (split-append front tail) ∙ parts-append (slice_split ends front) (slice_split ends tail) (omega (arith, length-slice_split ends tail))

-- whole lines are cut as they are, whatever follows them
pub lines-append : (whole tail : List ℕ) → IsWholeLines whole → lines (whole ++ tail) ≡ lines whole ++ lines tail
lines-append whole tail (inl e) = ap (λ bytes. lines (bytes ++ tail)) e ∙ ap (λ bytes. lines bytes ++ lines tail) (sym e)
lines-append whole tail (inr w) =
    let front = w.0 in
    let alone : lines whole ≡ map strip_carriage_return (slice_split ends front) =
    ap lines w.1 ∙ lines-after front [] ∙ append-nil (map strip_carriage_return (slice_split ends front)) in
    ap (λ bytes. lines (bytes ++ tail)) w.1 ∙ ap lines (append_assoc front (10 ∷ []) tail) ∙ lines-after front tail ∙ ap (λ done. done ++ lines tail) (sym alone)

unbroken : (line : List ℕ) → HasNoBreak line → All (λ byte. ends byte ≡ false) line
unbroken line h k d l = ne_eqb _ 10 (h k d l)

-- one line, with its end
pub lines-line : (line rest : List ℕ) → HasNoBreak line → lines (line ++ 10 ∷ rest) ≡ strip_carriage_return line ∷ lines rest
lines-line line rest h =
    ap lines_of_parts (slice_split_at ends line 10 rest (unbroken line h) refl) ∙ parts-cons line (slice_split ends rest) (omega (arith, length-slice_split ends rest))

-- the last line, without its end
pub lines-last : (line : List ℕ) → HasNoBreak line → 0 < length line → lines line ≡ line ∷ []
lines-last line h some =
    ap lines_of_parts (slice_split_none ends line (unbroken line h)) ∙ ap (λ t. cond t [] (line ∷ [])) (ne_eqb (length line) 0 (λ z. omega arith))

-- whole lines, and one more
pub whole-line : (whole line : List ℕ) → IsWholeLines (whole ++ (line ++ 10 ∷ []))
whole-line whole line = inr (whole ++ line, sym (append_assoc whole line (10 ∷ [])))
