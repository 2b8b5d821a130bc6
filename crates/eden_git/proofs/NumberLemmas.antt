-- A word is a number exactly if it is a decimal text.
use Rattle.std.proofs.Common.{◌≡◌, ℕ, List, Bool, true, false, refl, sym, ◌∙◌, ap, arith, ◌<◌, ◌^◌, cond, subst, ◌&&◌}
use Rattle.std.specs.Prelude.{Option, Some, None, decimal, nat_eq, nat_lt}
use Rattle.std.specs.Cmp.Lexicographic.{pointwise, bytes_decides, same_text, other_text}
use Rattle.std.specs.Str.Parse.{digits_value, ParsesUnsigned}
use Rattle.std.proofs.lemmas.Fmt.{decimal_is_IsNumeral, parse-decimal, IsAscii-decimal}
use Rattle.std.proofs.lemmas.Bool.{ltb-true}
use Rattle.std.specs.Prelude.{Result, Ok}
use Rattle.std.specs.Str.{IsUtf8}
use Rattle.std.proofs.lemmas.Str.{IsUtf8-from_ascii}
use Rattle.eden_git.specs.Numbers.{number_of}

-- a word that is the decimal text of a number is read as that number
pub number_of-decimal : (n : ℕ) → n < 2 ^ 64 → number_of (decimal n) ≡ Some n
unfolding number_of
number_of-decimal n small =
    let value : digits_value 10 (decimal n) ≡ n = (decimal_is_IsNumeral n small).1 in
    let below : nat_lt n (2 ^ 64) ≡ true = grind (arith) in
    let same : pointwise nat_eq (decimal n) (decimal n) ≡ true = (bytes_decides (decimal n) (decimal n)).1 refl in
    rw (value, below, same)

-- what is read is below 2 ^ 64, and the word is its decimal text
pub number_of-some : (word : List ℕ) (n : ℕ) → number_of word ≡ Some n → (n < 2 ^ 64) × (word ≡ decimal n)
unfolding number_of
number_of-some word n is = let v = digits_value 10 word in read_off word v n (nat_lt v (2 ^ 64)) (pointwise nat_eq (decimal v) word) refl refl is
  where
    read_off : (word : List ℕ) (v n : ℕ) (below same : Bool) → below ≡ nat_lt v (2 ^ 64) → same ≡ pointwise nat_eq (decimal v) word
        → cond (below && same) (Some v) None ≡ Some n → (n < 2 ^ 64) × (word ≡ decimal n)
    read_off word v n true true p q is =
        let value : v ≡ n = cc in
        let small : v < 2 ^ 64 = ltb-true v (2 ^ 64) (sym p) in
        (omega arith, sym (same_text (decimal v) word q) ∙ ap decimal value)
    read_off word v n true false p q is = cc
    read_off word v n false same p q is = cc

-- a word that is no decimal text is no number
pub number_of-none : (word : List ℕ) → ((n : ℕ) → n < 2 ^ 64 → word ≡ decimal n → ⊥) → None ≡ number_of word
number_of-none word none = missing (number_of word) (λ n is. let some = number_of-some word n is in none n some.0 some.1)
  where
    missing : (o : Option ℕ) → ((n : ℕ) → o ≡ Some n → ⊥) → None ≡ o
    missing None h = refl
    missing (Some n) h = absurd (h n refl)

pub number_of-no_text : (word : List ℕ) → (IsUtf8 word → ⊥) → None ≡ number_of word
number_of-no_text word no_text = number_of-none word (λ n small is. no_text (subst IsUtf8 (sym is) (IsUtf8-from_ascii (decimal n) (IsAscii-decimal n small))))

pub number_of-unparsed : {E : Type 0} (word text : List ℕ) (r : Result ℕ E) → text ≡ word → ParsesUnsigned 64 10 text r
    → ((n : ℕ) → r ≡ Ok n → ⊥) → None ≡ number_of word
number_of-unparsed word text r same parsed failed =
    number_of-none word (λ n small is. failed n (parse-decimal 64 n text r small small (same ∙ is) parsed))

pub number_of-other_text : {E : Type 0} (word text written : List ℕ) (r : Result ℕ E) (value : ℕ) → text ≡ word → ParsesUnsigned 64 10 text r
    → r ≡ Ok value → written ≡ decimal value → false ≡ pointwise nat_eq written word → None ≡ number_of word
number_of-other_text word text written r value same parsed ok print differs =
    number_of-none word (λ n small is.
    let again : r ≡ Ok n = parse-decimal 64 n text r small small (same ∙ is) parsed in
    let value_is : value ≡ n = cc in
    other_text written word differs (print ∙ ap decimal value_is ∙ sym is))

pub number_of-same_text : (word written : List ℕ) (value : ℕ) → value < 2 ^ 64 → written ≡ decimal value → true ≡ pointwise nat_eq written word
    → Some value ≡ number_of word
number_of-same_text word written value small print same =
    sym (ap number_of (sym (same_text written word same) ∙ print) ∙ number_of-decimal value small)
