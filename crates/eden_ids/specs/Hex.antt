-- The text of an id: forty lowercase hexadecimal digits, two for each byte, high four
-- bits first.
use Rattle.std.specs.Prelude.{◌≡◌, ℕ, Bool, not, ◌&&◌, ◌||◌, ◌==◌, nat_le, if◌then◌else◌, List, [], length, Option, Some, None, Result, Ok, Err}
use Rattle.std.specs.List.{list_all}
use Rattle.hex.specs.Hex.{encode_lower, decode_of, IsBytes}
use Rattle.hex.specs.declared.error.FromHexError.{FromHexError}
use Rattle.eden_ids.specs.declared.hex_text.HexFault.{HexFault}
use Rattle.eden_ids.specs.declared.hex_text.HexFault.TheVariants.{WrongLength, BadDigit}
use Rattle.eden_ids.specs.declared.id.Id.{Id}

-- `0` to `9` are 48 to 57, `a` to `f` are 97 to 102
abbrev pub is_lower_digit : ℕ → Bool
is_lower_digit b = nat_le 48 b && nat_le b 57 || nat_le 97 b && nat_le b 102

-- the first reason why bytes are not an id's text
abbrev pub hex_fault : List ℕ → Option HexFault
hex_fault text =
    if not (length text == 40) then Some WrongLength else
    if not (list_all is_lower_digit text) then Some BadDigit else None

abbrev pub ok_or_none : Result (List ℕ) FromHexError → List ℕ
ok_or_none (Ok bytes) = bytes
ok_or_none (Err e) = []

abbrev pub read_unless : Option HexFault → List ℕ → Result Id HexFault
read_unless (Some fault) text = Err fault
read_unless None text = Ok (record { 0 = ok_or_none (decode_of text) })

-- the id that a text spells, or why it spells none
abbrev pub id_of_hex : List ℕ → Result Id HexFault
id_of_hex text = read_unless (hex_fault text) text

-- the text of an id spells this id
abbrev pub TextIsReadBack : Type 0
TextIsReadBack = (bytes : List ℕ) → length bytes ≡ 20 → IsBytes bytes → id_of_hex (encode_lower bytes) ≡ Ok (record { 0 = bytes })

-- a text that spells an id is the text of this id
abbrev pub TextIsTheOnlyOne : Type 0
TextIsTheOnlyOne = (text : List ℕ) (id : Id) → id_of_hex text ≡ Ok id → encode_lower id.0 ≡ text
