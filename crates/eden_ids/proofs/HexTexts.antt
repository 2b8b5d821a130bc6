-- Reading the hexadecimal text of an id, against what the crate `hex` decodes.
use Rattle.std.proofs.Common.{◌≡◌, ◌∙◌, sym, refl, ap, ℕ, suc, zero, inl, inr, ◌==◌, ◌+◌, ◌*◌, ◌-◌, ◌&&◌, ◌||◌, if◌then◌else◌, not, nat_le, nat_lt, nat_eq, ◌/◌, ◌%◌, ◌<◌, Bool, true, false, List, [], ◌∷◌, length, Some, None, Result, Ok, Err, arith, slice_index}
use Rattle.std.proofs.lemmas.Bool.{and_parts, cases_lt, eqb-true}
use Rattle.std.specs.List.{list_all}
use Rattle.std.proofs.lemmas.List.Sums.{AllPass-from_list_all}
use Rattle.hex.specs.Hex.{encode_lower, encode_with, lower_digits, decode_of, decode_sized, is_hex_digit, IsBytes}
use Rattle.hex.specs.declared.error.FromHexError.{FromHexError}
use Rattle.hex.proofs.HexLemmas.{decode_of-encode_lower, decode_of-digits, decode_sized-twice, length-encode_with}
use Rattle.eden_ids.specs.Hex.{is_lower_digit, hex_fault, read_unless, id_of_hex, ok_or_none, TextIsReadBack, TextIsTheOnlyOne}
use Rattle.eden_ids.specs.declared.id.Id.{Id}
use Rattle.eden_ids.specs.declared.hex_text.HexFault.{HexFault}
use Rattle.eden_ids.specs.declared.hex_text.HexFault.TheVariants.{WrongLength, BadDigit}

lower_is_hex : (b : ℕ) → is_lower_digit b ≡ true → is_hex_digit b ≡ true
lower_is_hex b h = grind (arith)

all_hex : (text : List ℕ) → list_all is_lower_digit text ≡ true → list_all is_hex_digit text ≡ true
all_hex [] h = refl
all_hex (b ∷ rest) h =
    let parts = and_parts (is_lower_digit b) (list_all is_lower_digit rest) h in
    rw (lower_is_hex b parts.0, all_hex rest parts.1) refl

-- forty digits decode
pub decodes : (text : List ℕ) → length text ≡ 40 → list_all is_lower_digit text ≡ true
    → (bytes : List ℕ) × (decode_of text ≡ Ok bytes)
decodes text len h =
    decode_of-digits text (omega (arith, len)) (AllPass-from_list_all is_hex_digit text (all_hex text h))

-- there is no fault
pub no_fault : (text : List ℕ) → length text ≡ 40 → list_all is_lower_digit text ≡ true → hex_fault text ≡ None
no_fault text len h = rw (len, h) refl

pub reads : (text bytes : List ℕ) → length text ≡ 40 → list_all is_lower_digit text ≡ true
    → decode_sized text 20 ≡ Ok bytes → Ok (record { 0 = bytes }) ≡ id_of_hex text
reads text bytes len h is =
    let read : decode_of text ≡ Ok bytes = sym (decode_sized-twice text 20 len) ∙ is in
    sym (ap (λ f. read_unless f text) (no_fault text len h) ∙ ap (λ r. Ok (record { 0 = ok_or_none r })) read)

pub no_other_fault : (text : List ℕ) (e : FromHexError) → length text ≡ 40 → list_all is_lower_digit text ≡ true
    → decode_sized text 20 ≡ Err e → Err BadDigit ≡ id_of_hex text
no_other_fault text e len h is =
    let read : decode_of text ≡ Err e = sym (decode_sized-twice text 20 len) ∙ is in
    cc (read, (decodes text len h).1)

-- what the text of some bytes reads as

-- a test of the numbers below n
passes_below : (ℕ → Bool) → ℕ → Bool
passes_below test zero = true
passes_below test (suc n) = test n && passes_below test n

passes_at : (test : ℕ → Bool) (d n : ℕ) → passes_below test n ≡ true → d < n → test d ≡ true
unfolding passes_below
passes_at test d zero h lt = absurd (omega arith)
passes_at test d (suc n) h lt =
    let parts = and_parts (test n) (passes_below test n) h in
    elim (cases_lt d n) [
      | inl below ↦ passes_at test d n parts.1 below
      | inr top ↦
          let e : d ≡ n = omega arith in
          rw e parts.0
    ]

digit_is_lower : (d : ℕ) → d < 16 → is_lower_digit (slice_index lower_digits d) ≡ true
unfolding passes_below
digit_is_lower d lt = passes_at (λ d. is_lower_digit (slice_index lower_digits d)) d 16 refl lt

lower_text : (bytes : List ℕ) → IsBytes bytes → list_all is_lower_digit (encode_lower bytes) ≡ true
unfolding encode_with
lower_text [] h = refl
lower_text (b ∷ rest) h =
    let fits : b < 256 = h 0 in
    rw (digit_is_lower (b / 16) (omega arith), digit_is_lower (b % 16) (omega arith), lower_text rest (λ k. h (suc k))) refl

pub text_is_read_back : TextIsReadBack
text_is_read_back bytes len fits =
    let long : length (encode_lower bytes) ≡ 40 = let e = length-encode_with lower_digits bytes in omega (arith, e, len) in
    ap (λ f. read_unless f (encode_lower bytes)) (no_fault (encode_lower bytes) long (lower_text bytes fits))
    ∙ ap (λ r. Ok (record { 0 = ok_or_none r })) (decode_of-encode_lower bytes fits)

-- which text reads as some bytes

-- the place of a digit among the sixteen
place : ℕ → ℕ
place c = if nat_le c 57 then c - 48 else c - 87

placed : ℕ → Bool
placed c = not (is_lower_digit c) || nat_lt (place c) 16 && nat_eq (slice_index lower_digits (place c)) c

below_103 : (c : ℕ) → is_lower_digit c ≡ true → c < 103
below_103 c h = grind (arith)

placed_digit : (c : ℕ) → is_lower_digit c ≡ true → (place c < 16) × (slice_index lower_digits (place c) ≡ c)
unfolding passes_below placed place
placed_digit c h =
    let test : placed c ≡ true = passes_at placed c 103 refl (below_103 c h) in
    grind (arith, test, h)

byte_first : (byte : ℕ) (bytes : List ℕ) → byte < 256 → IsBytes bytes → IsBytes (byte ∷ bytes)
byte_first byte bytes lt h zero = lt
byte_first byte bytes lt h (suc k) = h k

-- the bytes that a text of digits spells
spelled : (text : List ℕ) → length text % 2 ≡ 0 → list_all is_lower_digit text ≡ true
    → (bytes : List ℕ) × IsBytes bytes × (encode_lower bytes ≡ text)
unfolding encode_with
spelled [] even h = ([], λ k. omega arith, refl)
spelled (a ∷ []) even h = absurd (omega arith)
spelled (a ∷ b ∷ rest) even h =
    let first = and_parts (is_lower_digit a) (is_lower_digit b && list_all is_lower_digit rest) h in
    let second = and_parts (is_lower_digit b) (list_all is_lower_digit rest) first.1 in
    let high = placed_digit a first.0 in
    let low = placed_digit b second.0 in
    let more = spelled rest (omega arith) second.1 in
    let byte : ℕ = place a * 16 + place b in
    let first_digit : slice_index lower_digits (byte / 16) ≡ a = ap (slice_index lower_digits) (omega arith) ∙ high.1 in
    let second_digit : slice_index lower_digits (byte % 16) ≡ b = ap (slice_index lower_digits) (omega arith) ∙ low.1 in
    (byte ∷ more.0, byte_first byte more.0 (omega arith) more.1, rw (first_digit, second_digit, more.2) refl)

id_or : Result Id HexFault → List ℕ
id_or (Ok id) = id.0
id_or (Err fault) = []

-- the tests that a text which reads has passed, and what it reads as
by_tests : (text : List ℕ) (id : Id) (long digits : Bool)
    → read_unless (if not long then Some WrongLength else if not digits then Some BadDigit else None) text ≡ Ok id
    → (long ≡ true) × (digits ≡ true) × (id.0 ≡ ok_or_none (decode_of text))
unfolding id_or
by_tests text id true true h = (refl, refl, ap id_or (sym h))
by_tests text id true false h = cc h
by_tests text id false digits h = cc h

pub text_is_the_only_one : TextIsTheOnlyOne
text_is_the_only_one text id h =
    let stands = by_tests text id (length text == 40) (list_all is_lower_digit text) h in
    let long : length text ≡ 40 = eqb-true (length text) 40 stands.0 in
    let some = spelled text (omega (arith, long)) stands.1 in
    let read : decode_of text ≡ Ok some.0 = ap decode_of (sym some.2) ∙ decode_of-encode_lower some.0 some.1 in
    let same : id.0 ≡ some.0 = stands.2 ∙ ap ok_or_none read in
    ap encode_lower same ∙ some.2
