-- How bytes are written in a line, in which a space separates words and a line feed ends
-- the line.
use Rattle.std.specs.Prelude.{ℕ, List, [], ◌∷◌, ◌++◌, Option, Some, None, ◌==◌, length, if◌then◌else◌}
use Rattle.std.specs.Option.{option_map}
use Rattle.std.specs.List.{flat_map}

-- the meaning of a backslash and this byte: a backslash, a line feed, a space, or nothing
-- at all
abbrev pub meaning_of : ℕ → Option (List ℕ)
meaning_of code =
    if code == 92 then Some (92 ∷ []) else
    if code == 110 then Some (10 ∷ []) else
    if code == 115 then Some (32 ∷ []) else
    if code == 101 then Some [] else None

-- the bytes and then the rest, if both have a meaning
abbrev pub followed_by : Option (List ℕ) → Option (List ℕ) → Option (List ℕ)
followed_by None rest = None
followed_by (Some bytes) rest = option_map (λ more. bytes ++ more) rest

-- the bytes that a text spells, or `None` if one of its backslashes has no meaning
unfoldable pub unescaped : List ℕ → Option (List ℕ)
unescaped [] = Some []
unescaped (b ∷ []) = if b == 92 then None else Some (b ∷ [])
unescaped (b ∷ c ∷ bs) =
    if b == 92 then followed_by (meaning_of c) (unescaped bs) else followed_by (Some (b ∷ [])) (unescaped (c ∷ bs))

-- how one byte is written
abbrev pub escaped_byte : ℕ → List ℕ
escaped_byte b =
    if b == 92 then 92 ∷ 92 ∷ [] else
    if b == 10 then 92 ∷ 110 ∷ [] else
    if b == 32 then 92 ∷ 115 ∷ [] else b ∷ []

-- how bytes are written: byte by byte, and `\e` if there are none
unfoldable pub escaped : List ℕ → List ℕ
escaped bytes = if length bytes == 0 then 92 ∷ 101 ∷ [] else flat_map escaped_byte bytes
