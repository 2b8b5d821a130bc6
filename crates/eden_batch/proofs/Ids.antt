-- The text of an id, as a field of a header, and how far it is read.
use Rattle.std.proofs.Common.{◌≡◌, ◌≢◌, ℕ, ◌-◌, ◌<◌, ◌≤◌, Bool, true, false, not, ◌==◌, if◌then◌else◌, List, [], ◌∷◌, ◌++◌, length, get_or, take, drop, replicate, zero, suc, refl, sym, ap, ◌∙◌, arith, append_assoc, length-append, Ok, Err, Some, None}
use Rattle.std.specs.List.{list_all}
use Rattle.std.proofs.lemmas.Bool.{and_parts}
use Rattle.std.proofs.lemmas.List.{take_at, drop_at, take-append-le, take-append-drop, length-take, length-replicate, take_all, append-nil, nil_from_length}
use Rattle.std.proofs.Math.Seq.{drop-cons}
use Rattle.std.proofs.lemmas.List.Folds.{list_all-append}
use Rattle.hex.specs.Hex.{encode_lower, lower_digits, decode_of}
use Rattle.hex.proofs.HexLemmas.{decode_of-encode_lower, length-encode_with}
use Rattle.eden_ids.specs.Hex.{TextIsReadBack, TextIsTheOnlyOne, hex_fault, id_of_hex, is_lower_digit, ok_or_none, read_unless}
use Rattle.eden_ids.specs.Texts.{IsIdText}
use Rattle.eden_ids.specs.declared.hex_text.HexFault.{HexFault}
use Rattle.eden_ids.specs.declared.hex_text.HexFault.TheVariants.{WrongLength, BadDigit}
use Rattle.eden_ids.specs.declared.id.Id.{Id}
use Rattle.eden_ids.proofs.Texts.{bytes_at}
use Rattle.eden_batch.specs.internal.Fields.{id_field}

pub length_text : (id : Id) → IsIdText id → length (encode_lower id.0) ≡ 40
length_text id is = let e = length-encode_with lower_digits id.0 in omega (arith, e, is.twenty)

-- an id is read in one way
pub id_split : (id other : Id) (a b : List ℕ) → IsIdText id → IsIdText other → id_field id ++ a ≡ id_field other ++ b → (id ≡ other) × (a ≡ b)
id_split id other a b is also e =
    let text = encode_lower id.0 in
    let last = encode_lower other.0 in
    let cut : text ++ 32 ∷ a ≡ last ++ 32 ∷ b = sym (append_assoc text (32 ∷ []) a) ∙ e ∙ append_assoc last (32 ∷ []) b in
    let same : text ≡ last = sym (take_at text (32 ∷ a) 40 (length_text id is)) ∙ ap (take 40) cut ∙ take_at last (32 ∷ b) 40 (length_text other also) in
    let behind : 32 ∷ a ≡ 32 ∷ b = sym (drop_at text (32 ∷ a) 40 (length_text id is)) ∙ ap (drop 40) cut ∙ drop_at last (32 ∷ b) 40 (length_text other also) in
    let read : decode_of text ≡ Ok id.0 = decode_of-encode_lower id.0 (bytes_at id.0 is.bytes) in
    let again : decode_of last ≡ Ok other.0 = decode_of-encode_lower other.0 (bytes_at other.0 also.bytes) in
    let once = ap decode_of same in
    let bytes : id.0 ≡ other.0 = cc in
    (ap (λ b. record { 0 = b }) bytes, ap (drop 1) behind)

tested : (text : List ℕ) (id : Id) (long digits : Bool)
    → read_unless (if not long then Some WrongLength else if not digits then Some BadDigit else None) text ≡ Ok id → (long ≡ true) × (digits ≡ true)
tested text id true true h = (refl, refl)
tested text id true false h = cc h
tested text id false digits h = cc h

digits_of : (text : List ℕ) (id : Id) → id_of_hex text ≡ Ok id → list_all is_lower_digit text ≡ true
digits_of text id h = (tested text id (length text == 40) (list_all is_lower_digit text) h).1

no_fault : (text : List ℕ) → length text ≡ 40 → list_all is_lower_digit text ≡ true → hex_fault text ≡ None
no_fault text long digits = rw (long, digits) refl

-- forty digits are read
read_all : (text : List ℕ) → length text ≡ 40 → list_all is_lower_digit text ≡ true → id_of_hex text ≡ Ok (record { 0 = ok_or_none (decode_of text) })
read_all text long digits = ap (λ f. read_unless f text) (no_fault text long digits)

all_take : (n : ℕ) (text : List ℕ) → list_all is_lower_digit text ≡ true → list_all is_lower_digit (take n text) ≡ true
all_take n text all =
    (and_parts (list_all is_lower_digit (take n text)) (list_all is_lower_digit (drop n text))
    (sym (list_all-append is_lower_digit (take n text) (drop n text)) ∙ ap (list_all is_lower_digit) (take-append-drop n text) ∙ all)).0

all_zeros : (n : ℕ) → list_all is_lower_digit (replicate n 48) ≡ true
all_zeros zero = refl
all_zeros (suc n) = all_zeros n

-- the digits that are there, and zeros after them
abbrev pub IsPadded : List ℕ → List ℕ → Type 0
IsPadded bytes text = text ≡ take 40 bytes ++ replicate (40 - length (take 40 bytes)) 48

module _ (bytes text : List ℕ) (padded : IsPadded bytes text) where
  front : List ℕ
  front = take 40 bytes

  zeros : List ℕ
  zeros = replicate (40 - length (take 40 bytes)) 48

  parts : text ≡ front ++ zeros
  unfolding front zeros
  parts = padded

  short : length front ≤ 40
  unfolding front
  short = omega (arith, length-take 40 bytes)

  length_zeros : length zeros ≡ 40 - length front
  unfolding front zeros
  length_zeros = length-replicate (40 - length (take 40 bytes)) 48

  split : bytes ≡ front ++ drop 40 bytes
  unfolding front
  split = sym (take-append-drop 40 bytes)

  -- the front of what begins with an id's text is a front of that
  front_of_text : (whole rest more : List ℕ) → length whole ≡ 40 → bytes ++ rest ≡ whole ++ more → front ≡ take (length front) whole
  front_of_text whole rest more long e =
      sym (take_at front (drop 40 bytes ++ rest) (length front) refl)
      ∙ ap (take (length front)) (sym (append_assoc front (drop 40 bytes) rest) ∙ ap (λ l. l ++ rest) (sym split) ∙ e)
      ∙ take-append-le (length front) whole more (omega (arith, long, short))

  -- what is no id with zeros after it begins no id
  pub no_id : TextIsReadBack → (fault : HexFault) → id_of_hex text ≡ Err fault
      → (id : Id) (rest more : List ℕ) → IsIdText id → bytes ++ rest ≡ id_field id ++ more → ⊥
  unfolding zeros
  no_id law fault bad id rest more is e =
      let whole = encode_lower id.0 in
      let digits : list_all is_lower_digit whole ≡ true = digits_of whole id (law id.0 is.twenty (bytes_at id.0 is.bytes)) in
      let same : front ≡ take (length front) whole = front_of_text whole rest (32 ∷ more) (length_text id is) (e ∙ append_assoc whole (32 ∷ []) more) in
      let first : list_all is_lower_digit front ≡ true = ap (list_all is_lower_digit) same ∙ all_take (length front) whole digits in
      let last : list_all is_lower_digit zeros ≡ true = all_zeros (40 - length (take 40 bytes)) in
      let all : list_all is_lower_digit text ≡ true = ap (list_all is_lower_digit) parts ∙ list_all-append is_lower_digit front zeros ∙ rw (first, last) refl in
      let long : length text ≡ 40 = omega (arith, ap length parts, length-append front zeros, length_zeros, short) in
      let read = read_all text long all in
      cc

  -- what is an id with zeros after it is a part of one
  pub part_of_id : TextIsTheOnlyOne → (id : Id) → id_of_hex text ≡ Ok id → IsIdText id → length bytes ≤ 40
      → (id : Id) × (more : List ℕ) × IsIdText id × (0 < length more) × (bytes ++ more ≡ id_field id)
  unfolding front
  part_of_id law id read is few =
      let whole : encode_lower id.0 ≡ bytes ++ zeros = law text id read ∙ parts ∙ ap (λ l. l ++ zeros) (take_all 40 bytes few) in
      (id, zeros ++ 32 ∷ [], is, omega (arith, length-append zeros (32 ∷ [])), sym (append_assoc bytes zeros (32 ∷ [])) ∙ sym (ap (λ l. l ++ 32 ∷ []) whole))

  module _ (there : 40 < length bytes) where
    behind : bytes ≡ front ++ get_or bytes 40 0 ∷ drop 41 bytes
    behind = split ∙ ap (λ l. front ++ l) (drop-cons bytes 40 0 there)

    forty : length front ≡ 40
    unfolding front
    forty = omega (arith, length-take 40 bytes)

    no_zeros : zeros ≡ []
    no_zeros = nil_from_length zeros (omega (arith, length_zeros, forty))

    -- forty digits and a space are an id
    pub whole_id : TextIsTheOnlyOne → (id : Id) → id_of_hex text ≡ Ok id → get_or bytes 40 0 ≡ 32 → bytes ≡ id_field id ++ drop 41 bytes
    whole_id law id read space =
        let whole : encode_lower id.0 ≡ front = law text id read ∙ parts ∙ ap (λ l. front ++ l) no_zeros ∙ append-nil front in
        behind ∙ ap (λ b. front ++ b ∷ drop 41 bytes) space ∙ sym (append_assoc front (32 ∷ []) (drop 41 bytes))
        ∙ ap (λ l. (l ++ 32 ∷ []) ++ drop 41 bytes) (sym whole)

    -- with another byte after them they are not one
    pub no_space : get_or bytes 40 0 ≢ 32 → (id : Id) (rest more : List ℕ) → IsIdText id → bytes ++ rest ≡ id_field id ++ more → ⊥
    no_space other id rest more is e =
        let whole = encode_lower id.0 in
        let byte = get_or bytes 40 0 in
        let left : bytes ++ rest ≡ front ++ byte ∷ (drop 41 bytes ++ rest) =
        ap (λ l. l ++ rest) behind ∙ append_assoc front (byte ∷ drop 41 bytes) rest in
        let both : byte ∷ (drop 41 bytes ++ rest) ≡ 32 ∷ more =
        sym (drop_at front (byte ∷ (drop 41 bytes ++ rest)) 40 forty) ∙ ap (drop 40) (sym left ∙ e ∙ append_assoc whole (32 ∷ []) more)
        ∙ drop_at whole (32 ∷ more) 40 (length_text id is) in
        other (ap (λ l. get_or l 0 0) both)
