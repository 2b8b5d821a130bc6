-- What is known of a filter's patterns where they are written.
use Rattle.std.proofs.Common.{◌≡◌, ℕ, suc, ◌+◌, ◌<◌, ◌≤◌, List, [], ◌∷◌, ◌++◌, length, get_or, take, None, All, refl, sym, ap, subst, ◌∙◌, add-one, arith}
use Rattle.std.proofs.Math.Seq.{take-suc}
use Rattle.std.proofs.lemmas.List.{length-append}
use Rattle.std.specs.Global.{Vec}
use Rattle.std.specs.List.{AllByRecursion, flat_map}
use Rattle.std.proofs.lemmas.List.Elements.{All-from_recursion, All-get_or}
use Rattle.eden_globs.specs.Filters.{lists, filter_fault}
use Rattle.eden_messages.specs.Spells.{text_bytes}
use Rattle.eden_messages.proofs.Spelling.{IsText, filter_fits}

lists_len : (patterns : List (Vec ℕ)) → length (lists patterns) ≡ length patterns
lists_len [] = refl
lists_len (p ∷ ps) = ap suc (lists_len ps)

pub patterns_few : (patterns : List (Vec ℕ)) (filter : List (List ℕ)) → lists patterns ≡ filter → filter_fault filter ≡ None → length patterns ≤ 32
patterns_few patterns filter same is =
    let few = (filter_fits filter is).few in
    omega (arith, few, ap length same, lists_len patterns)

short : (patterns : List (Vec ℕ)) → AllByRecursion (IsText 256) (lists patterns) → AllByRecursion (λ v. length v.items ≤ 256) patterns
short [] is = tt
short (p ∷ ps) is = (is.0.few, short ps is.1)

pub patterns_short : (patterns : List (Vec ℕ)) (filter : List (List ℕ)) → lists patterns ≡ filter → filter_fault filter ≡ None → All (λ v. length v.items ≤ 256) patterns
patterns_short patterns filter same is =
    let texts = (filter_fits filter is).texts in
    All-from_recursion (λ v. length v.items ≤ 256) patterns (short patterns (rw same texts))

-- the patterns up to a place and the one there, as they are written
pub patterns_front : (i : ℕ) (patterns : List (Vec ℕ)) (p : Vec ℕ) → i < length patterns → p ≡ get_or patterns i p
    → length (flat_map text_bytes (lists (take (i + 1) patterns))) ≡ length (flat_map text_bytes (lists (take i patterns))) + (2 + length p.items)
patterns_front i patterns p within is =
    ap (λ ps. length (flat_map text_bytes (lists ps))) (ap (λ n. take n patterns) (add-one i) ∙ take-suc patterns i p within ∙ ap (λ x. take i patterns ++ x ∷ []) (sym is))
    ∙ last_counted (take i patterns)
  where
    last_counted : (ps : List (Vec ℕ)) → length (flat_map text_bytes (lists (ps ++ p ∷ []))) ≡ length (flat_map text_bytes (lists ps)) + (2 + length p.items)
    last_counted [] = simp length-append (omega arith)
    last_counted (q ∷ qs) = let more = last_counted qs in simp length-append (omega (arith, more))

pub pattern_short : (i : ℕ) (patterns : List (Vec ℕ)) (filter : List (List ℕ)) (p : Vec ℕ) → lists patterns ≡ filter → filter_fault filter ≡ None
    → i < length patterns → p ≡ get_or patterns i p → length p.items ≤ 256
pattern_short i patterns filter p same is within at =
    subst (λ v. length v.items ≤ 256) (sym at) (All-get_or (λ v. length v.items ≤ 256) patterns i p within (patterns_short patterns filter same is))
