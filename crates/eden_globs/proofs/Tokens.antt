-- What tokens match, beside the bytes that they stand for.
use Rattle.std.proofs.Common.{◌≡◌, ◌≢◌, ℕ, suc, ◌+◌, ◌-◌, ◌<◌, ◌≤◌, Bool, true, false, cond, ◌&&◌, ◌||◌, nat_eq, nat_lt, List, [], ◌∷◌, ◌++◌, drop, length, map, codes, refl, sym, ap, ◌∙◌, arith, append_assoc}
use Rattle.std.proofs.lemmas.Bool.{ltb-true, ltb-false}
use Rattle.std.proofs.lemmas.List.{append-nil, drop_all, drop_more}
use Rattle.std.proofs.Math.Bool.{and-false, or-false}
use Rattle.std.specs.List.{ends_with, slice_index_or, starts_with}
use Rattle.std.specs.Cmp.Lexicographic.{bytes_decides}
use Rattle.eden_ids.specs.Sameness.{same_bytes}
use Rattle.eden_globs.specs.Filters.{first_then, is_any_names, is_none_left, name_matches, some_rest}
use Rattle.eden_globs.specs.internal.Compiled.{AreTokensOf, StandsFor, tokens_match}
use Rattle.eden_globs.proofs.Stretches.{first_alike, some_alike, some_empty}
use Rattle.eden_globs.specs.declared.pattern.Token.{Token}
use Rattle.eden_globs.specs.declared.pattern.Token.TheVariants.{Run, Any, Byte}

-- ---- a byte of a part

chosen : (byte : ℕ) (text name : List ℕ) (a b c : Bool) → nat_eq byte 92 ≡ a → nat_eq byte 42 ≡ b → nat_eq byte 63 ≡ c
    → name_matches false (byte ∷ text) name
    ≡ cond a (name_matches true text name) (cond b (some_rest (name_matches false text) name) (cond c (first_then (λ d. true) (name_matches false text) name) (first_then (λ d. nat_eq byte d) (name_matches false text) name)))
chosen byte text name a b c x y z = rw (← x, ← y, ← z) refl

other_byte : (a b : ℕ) → a ≢ b → nat_eq a b ≡ false
other_byte a b apart = grind (arith, apart)

pub escape_first : (text name : List ℕ) → name_matches true text name ≡ name_matches false (92 ∷ text) name
escape_first text name = refl

pub escaped_stands : (byte : ℕ) → StandsFor (Byte byte) true byte
escaped_stands byte tokens text is name = first_alike (λ d. nat_eq byte d) (tokens_match tokens) (name_matches false text) is name

pub run_stands : StandsFor Run false 42
run_stands tokens text is name = some_alike (tokens_match tokens) (name_matches false text) is name

pub any_stands : StandsFor Any false 63
any_stands tokens text is name = first_alike (λ d. true) (tokens_match tokens) (name_matches false text) is name

pub byte_stands : (byte : ℕ) → byte ≢ 92 → byte ≢ 42 → byte ≢ 63 → StandsFor (Byte byte) false byte
byte_stands byte a b c tokens text is name =
    first_alike (λ d. nat_eq byte d) (tokens_match tokens) (name_matches false text) is name
    ∙ sym (chosen byte text name false false false (other_byte byte 92 a) (other_byte byte 42 b) (other_byte byte 63 c))

-- ---- tokens, one after another

pub token_next : (text : List ℕ) (done : List Token) (token : Token) (i : ℕ) (escaped : Bool) → i < length text → StandsFor token escaped (slice_index_or text i 0)
    → ((rest : List Token) → AreTokensOf rest escaped (drop i text) → AreTokensOf (done ++ rest) false text)
    → (rest : List Token) → AreTokensOf rest false (drop (i + 1) text) → AreTokensOf ((done ++ token ∷ []) ++ rest) false text
token_next text done token i escaped within stands so rest is name =
    ap (λ ts. tokens_match ts name) (append_assoc done (token ∷ []) rest)
    ∙ so (token ∷ rest) (λ n. stands rest (drop (i + 1) text) is n ∙ sym (ap (λ t. name_matches escaped t n) (drop_more text i 0 within))) name

pub escape_next : (text : List ℕ) (done : List Token) (i : ℕ) (escaped : Bool) → i < length text → escaped ≡ false → slice_index_or text i 0 ≡ 92
    → ((rest : List Token) → AreTokensOf rest escaped (drop i text) → AreTokensOf (done ++ rest) false text)
    → (rest : List Token) → AreTokensOf rest true (drop (i + 1) text) → AreTokensOf (done ++ rest) false text
escape_next text done i escaped within plain backslash so rest is name =
    so rest (λ n. is n ∙ escape_first (drop (i + 1) text) n ∙ ap (λ b. name_matches false (b ∷ drop (i + 1) text) n) (sym backslash)
    ∙ sym (ap (λ t. name_matches false t n) (drop_more text i 0 within)) ∙ ap (λ e. name_matches e (drop i text) n) (sym plain)) name

none_stands : (escaped : Bool) → AreTokensOf [] escaped []
none_stands true name = refl
none_stands false name = refl

pub tokens_whole : (text : List ℕ) (done : List Token) (escaped : Bool) (i : ℕ) → length text ≤ i
    → ((rest : List Token) → AreTokensOf rest escaped (drop i text) → AreTokensOf (done ++ rest) false text) → AreTokensOf done false text
tokens_whole text done escaped i over so name =
    ap (λ ts. tokens_match ts name) (sym (append-nil done))
    ∙ so [] (λ n. none_stands escaped n ∙ sym (ap (λ t. name_matches escaped t n) (drop_all i text over))) name

-- ---- the plainest parts

pub bytes_match : (bytes name : List ℕ) → same_bytes bytes name ≡ tokens_match (map Byte bytes) name
bytes_match [] [] = refl
bytes_match [] (n ∷ name) = refl
bytes_match (b ∷ bytes) [] = refl
bytes_match (b ∷ bytes) (n ∷ name) = ap (λ t. nat_eq b n && t) (bytes_match bytes name)

pub beginning_match : (bytes name : List ℕ) → starts_with nat_eq name bytes ≡ tokens_match (map Byte bytes ++ Run ∷ []) name
beginning_match [] [] = refl
beginning_match [] (n ∷ name) = sym (some_empty (n ∷ name))
beginning_match (b ∷ bytes) [] = refl
beginning_match (b ∷ bytes) (n ∷ name) = ap (λ t. nat_eq b n && t) (beginning_match bytes name)

unlike : (xs ys : List ℕ) → length xs ≢ length ys → same_bytes xs ys ≡ false
unlike [] [] apart = absurd (apart refl)
unlike [] (y ∷ ys) apart = refl
unlike (x ∷ xs) [] apart = refl
unlike (x ∷ xs) (y ∷ ys) apart = ap (λ t. nat_eq x y && t) (unlike xs ys (λ e. apart (ap suc e))) ∙ and-false (nat_eq x y)

none_longer : (bytes name : List ℕ) → length name < length bytes → some_rest (same_bytes bytes) name ≡ false
none_longer bytes [] short = unlike bytes [] (λ e. absurd (omega (arith, short, e)))
none_longer bytes (n ∷ name) short =
    ap (λ t. t || some_rest (same_bytes bytes) name) (unlike bytes (n ∷ name) (λ e. absurd (omega (arith, short, e)))) ∙ none_longer bytes name (omega (arith, short))

pub ending_some : (bytes name : List ℕ) → ends_with nat_eq name bytes ≡ some_rest (same_bytes bytes) name
ending_some bytes [] = ap (same_bytes bytes) (drop_all (0 - length bytes) [] (omega arith))
ending_some bytes (n ∷ name) =
    elim (nat_lt (length name) (length bytes)) as (λ t. nat_lt (length name) (length bytes) ≡ t → ends_with nat_eq (n ∷ name) bytes ≡ some_rest (same_bytes bytes) (n ∷ name)) [
      | true ↦ λ e.
          let short : length name < length bytes = ltb-true (length name) (length bytes) e in
          let none : suc (length name) - length bytes ≡ 0 = omega (arith, short) in
          ap (λ k. same_bytes bytes (drop k (n ∷ name))) none ∙ sym (or-false (same_bytes bytes (n ∷ name))) ∙ ap (λ t. same_bytes bytes (n ∷ name) || t) (sym (none_longer bytes name short))
      | false ↦ λ e.
          let long : length bytes ≤ length name = ltb-false (length name) (length bytes) e in
          let more : suc (length name) - length bytes ≡ suc (length name - length bytes) = omega (arith, long) in
          ap (λ k. same_bytes bytes (drop k (n ∷ name))) more ∙ ending_some bytes name
          ∙ ap (λ t. t || some_rest (same_bytes bytes) name) (sym (unlike bytes (n ∷ name) (λ same. absurd (omega (arith, long, same)))))
    ] refl

pub ending_match : (bytes name : List ℕ) → ends_with nat_eq name bytes ≡ tokens_match (Run ∷ map Byte bytes) name
ending_match bytes name = ending_some bytes name ∙ some_alike (same_bytes bytes) (tokens_match (map Byte bytes)) (bytes_match bytes) name

-- the part that stands for any number of names matches each
pub each_matches : (text : List ℕ) → is_any_names text ≡ true → (name : List ℕ) → true ≡ name_matches false text name
each_matches text is name = all_rests name ∙ ap (λ t. name_matches false t name) (sym ((bytes_decides text (codes "**")).0 is))
  where
    all_rests : (name : List ℕ) → true ≡ name_matches false (codes "**") name
    all_rests [] = refl
    all_rests (n ∷ name) = ap (λ t. t || some_rest (some_rest is_none_left) name) (sym (some_empty (n ∷ name)))
