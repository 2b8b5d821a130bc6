-- The first digits of an id are a label.
use Rattle.std.proofs.Common.{◌≡◌, ℕ, Bool, true, false, List, [], ◌∷◌, zero, suc, length, take, refl, arith}
use Rattle.std.specs.List.{list_all}
use Rattle.std.proofs.lemmas.Bool.{and_parts}
use Rattle.std.proofs.lemmas.List.{length-take-le}
use Rattle.hex.specs.Hex.{encode_lower, lower_digits, IsBytes}
use Rattle.hex.proofs.HexLemmas.{length-encode_with}
use Rattle.eden_ids.specs.Hex.{is_lower_digit, TextIsReadBack}
use Rattle.eden_ids.specs.Texts.{IsIdText}
use Rattle.eden_ids.specs.declared.id.Id.{Id}
use Rattle.eden_ids.proofs.Texts.{bytes_at}
use Rattle.eden_script.specs.LabelWords.{is_label, is_label_byte, own_label}

digit_is_label : (b : ℕ) → is_lower_digit b ≡ true → is_label_byte b ≡ true
digit_is_label b h = grind (arith)

digits_are_labels : (n : ℕ) (text : List ℕ) → list_all is_lower_digit text ≡ true → list_all is_label_byte (take n text) ≡ true
digits_are_labels zero text h = refl
digits_are_labels (suc n) [] h = refl
digits_are_labels (suc n) (b ∷ text) h =
    let parts = and_parts (is_lower_digit b) (list_all is_lower_digit text) h in
    rw (digit_is_label b parts.0, digits_are_labels n text parts.1) refl

-- what isn't all digits reads as no id
digits_of : TextIsReadBack → (bytes : List ℕ) → length bytes ≡ 20 → IsBytes bytes → list_all is_lower_digit (encode_lower bytes) ≡ true
digits_of law bytes long fits = by (list_all is_lower_digit (encode_lower bytes)) refl
  where
    len : length (encode_lower bytes) ≡ 40
    len = let e = length-encode_with lower_digits bytes in omega (arith, e, long)

    by : (all : Bool) → list_all is_lower_digit (encode_lower bytes) ≡ all → all ≡ true
    by true e = refl
    by false e = let read = law bytes long fits in absurd (grind (arith, len, e, read))

pub own_is_label : TextIsReadBack → (id : Id) → IsIdText id → is_label (own_label id) ≡ true
own_is_label law id text =
    let fits : IsBytes id.0 = bytes_at id.0 text.bytes in
    let all = digits_are_labels 32 (encode_lower id.0) (digits_of law id.0 text.twenty fits) in
    let len : length (own_label id) ≡ 32 =
    let e = length-encode_with lower_digits id.0 in length-take-le 32 (encode_lower id.0) (omega (arith, e, text.twenty)) in
    rw (len, all) refl
