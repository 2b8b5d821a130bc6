-- A size in decimal, and how far it is read.
use Rattle.std.proofs.Common.{◌≡◌, ℕ, ◌+◌, ◌/◌, ◌%◌, ◌^◌, ◌<◌, ◌≤◌, inl, inr, List, [], ◌∷◌, ◌++◌, length, take, drop, sym, ap, ◌∙◌, subst, arith, length-append, append_assoc}
use Rattle.std.specs.Prelude.{decimal, Some, None}
use Rattle.std.specs.Str.Parse.{AllDigits}
use Rattle.std.specs.Char.{digit_value}
use Rattle.std.proofs.lemmas.Bool.{cases_lt}
use Rattle.std.proofs.lemmas.List.{take-append-le, take-append-drop, take_all, length-take}
use Rattle.std.proofs.lemmas.Fmt.{decimal_by_steps, decimal_digit, decimal_step, decimal_is_IsNumeral, decimal_injective, length-decimal-le}
use Rattle.eden_git.specs.Numbers.{number_of}
use Rattle.eden_git.proofs.NumberLemmas.{number_of-decimal, number_of-some}
use Rattle.eden_batch.specs.internal.Fields.{size_field}
use Rattle.eden_batch.proofs.Lines.{Unbroken, front_of_line, same_line}

-- a decimal text's front, unless it is empty, is a decimal text
abbrev HasFronts : ℕ → List ℕ → Type 0
HasFronts n digits = (n < 2 ^ 64 → digits ≡ decimal n)
    × ((k : ℕ) → 0 < k → k ≤ length digits → n < 2 ^ 64 → (m : ℕ) × (m ≤ n) × (take k digits ≡ decimal m))

one_digit : (n : ℕ) → n < 10 → HasFronts n ((48 + n) ∷ [])
one_digit n small =
    let is : (48 + n) ∷ [] ≡ decimal n = sym (decimal_digit n small) in
    (λ fits. is, λ k some most fits. (n, omega arith, take_all k ((48 + n) ∷ []) (omega arith) ∙ is))

one_more : (n : ℕ) (digits : List ℕ) → 10 ≤ n → HasFronts (n / 10) digits → HasFronts n (digits ++ ((48 + n % 10) ∷ []))
one_more n digits ten before =
    let last : List ℕ = (48 + n % 10) ∷ [] in
    let is : n < 2 ^ 64 → digits ++ last ≡ decimal n = λ fits. ap (λ front. front ++ last) (before.0 (omega arith)) ∙ sym (decimal_step n ten fits) in (
      is,
      λ k some most fits. elim (cases_lt k (length digits + 1)) [
        | inl l ↦
            let shorter = before.1 k some (omega arith) (omega arith) in
            (shorter.0, omega (arith, shorter.1), take-append-le k digits last (omega arith) ∙ shorter.2)
        | inr g ↦ (n, omega arith, take_all k (digits ++ last) (omega (arith, length-append digits last)) ∙ is fits)
      ],
    )

front_is : (n k : ℕ) → n < 2 ^ 64 → 0 < k → k ≤ length (decimal n) → (m : ℕ) × (m ≤ n) × (take k (decimal n) ≡ decimal m)
front_is n k fits some most = (decimal_by_steps HasFronts one_digit one_more n fits).1 k some most fits

digits_unbroken : (digits : List ℕ) → AllDigits 10 digits → Unbroken digits
digits_unbroken [] all = tt
digits_unbroken (digit ∷ digits) all = (λ e. absurd (omega (arith, subst (λ d. digit_value d < 10) e all.0)), digits_unbroken digits all.1)

decimal_unbroken : (n : ℕ) → n < 2 ^ 64 → Unbroken (decimal n)
decimal_unbroken n fits = digits_unbroken (decimal n) (decimal_is_IsNumeral n fits).0.1

-- a size is read in one way
pub size_split : (m n : ℕ) (a b : List ℕ) → m < 2 ^ 64 → n < 2 ^ 64 → size_field m ++ a ≡ size_field n ++ b → (m ≡ n) × (a ≡ b)
size_split m n a b fits also e =
    let both = same_line (decimal m) (decimal n) a b (decimal_unbroken m fits) (decimal_unbroken n also)
    (sym (append_assoc (decimal m) (10 ∷ []) a) ∙ e ∙ append_assoc (decimal n) (10 ∷ []) b) in
    (decimal_injective m n fits also both.0, both.1)

-- a line that is no number is no size
pub no_size : (bytes line behind : List ℕ) → Unbroken line → bytes ≡ line ++ 10 ∷ behind → number_of line ≡ None
    → (n : ℕ) (rest more : List ℕ) → n < 2 ^ 64 → bytes ++ rest ≡ size_field n ++ more → ⊥
no_size bytes line behind clear cut none n rest more fits e =
    let both = same_line line (decimal n) (behind ++ rest) more clear (decimal_unbroken n fits)
    (sym (append_assoc line (10 ∷ behind) rest) ∙ ap (λ l. l ++ rest) (sym cut) ∙ e ∙ append_assoc (decimal n) (10 ∷ []) more) in
    let some : number_of line ≡ Some n = ap number_of both.0 ∙ number_of-decimal n fits in
    cc

-- a line that is a number is a size
pub is_size : (bytes line behind : List ℕ) (n : ℕ) → bytes ≡ line ++ 10 ∷ behind → number_of line ≡ Some n → (n < 2 ^ 64) × (bytes ≡ size_field n ++ behind)
is_size bytes line behind n cut some =
    let is = number_of-some line n some in
    (is.0, cut ∙ ap (λ l. l ++ 10 ∷ behind) is.1 ∙ sym (append_assoc (decimal n) (10 ∷ []) behind))

-- no byte is a part of a size
pub none_is_part : (bytes : List ℕ) → bytes ≡ [] → (n : ℕ) × (more : List ℕ) × (n < 2 ^ 64) × (0 < length more) × (bytes ++ more ≡ size_field n)
none_is_part bytes none = (0, size_field 0, omega arith, omega (arith, length-append (decimal 0) (10 ∷ [])), ap (λ l. l ++ size_field 0) none)

-- a number is a part of a size; the longest has twenty digits
pub number_is_part : (bytes front : List ℕ) (n : ℕ) → front ≡ take 21 bytes → number_of front ≡ Some n
    → (n : ℕ) × (more : List ℕ) × (n < 2 ^ 64) × (0 < length more) × (bytes ++ more ≡ size_field n)
number_is_part bytes front n cut some =
    let is = number_of-some front n some in
    let short : length (decimal n) ≤ 20 = length-decimal-le 20 n (omega arith) (omega (arith, is.0)) is.0 in
    let fits : length bytes ≤ 21 = omega (arith, short, ap length (sym is.1 ∙ cut), length-take 21 bytes) in
    let whole : bytes ≡ decimal n = sym (take_all 21 bytes fits) ∙ sym cut ∙ is.1 in
    (n, 10 ∷ [], is.0, omega arith, ap (λ l. l ++ 10 ∷ []) whole)

-- what is no number, and has no line feed, is no part of a size
pub no_part : (bytes front : List ℕ) → front ≡ take 21 bytes → Unbroken front → 0 < length front → number_of front ≡ None
    → (n : ℕ) (rest more : List ℕ) → n < 2 ^ 64 → bytes ++ rest ≡ size_field n ++ more → ⊥
no_part bytes front cut clear some none n rest more fits e =
    let whole : bytes ≡ front ++ drop 21 bytes = sym (take-append-drop 21 bytes) ∙ ap (λ l. l ++ drop 21 bytes) (sym cut) in
    let part = front_of_line front (decimal n) (drop 21 bytes ++ rest) more clear
    (sym (append_assoc front (drop 21 bytes) rest) ∙ ap (λ l. l ++ rest) (sym whole) ∙ e ∙ append_assoc (decimal n) (10 ∷ []) more) in
    let less = front_is n (length front) fits some part.0 in
    let is : number_of front ≡ Some less.0 = ap number_of (part.1 ∙ less.2) ∙ number_of-decimal less.0 (omega (arith, less.1)) in
    cc
