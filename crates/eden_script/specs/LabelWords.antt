-- Which words are labels.
use Rattle.std.specs.Prelude.{ℕ, Bool, not, ◌&&◌, ◌||◌, nat_le, if◌then◌else◌, List, length, take, codes, Option, Some, None}
use Rattle.std.specs.List.{list_all}
use Rattle.hex.specs.Hex.{encode_lower}
use Rattle.eden_ids.specs.declared.id.Id.{Id}
use Rattle.eden_ids.specs.Sameness.{same_bytes}

-- a label is 1 to 32 of `a` to `z` and `0` to `9`
abbrev pub is_label_byte : ℕ → Bool
is_label_byte b = (nat_le 97 b && nat_le b 122) || (nat_le 48 b && nat_le b 57)

abbrev pub is_label : List ℕ → Bool
is_label word = nat_le 1 (length word) && nat_le (length word) 32 && list_all is_label_byte word

-- the label of the empty commit, which no line binds
abbrev pub is_empty : List ℕ → Bool
is_empty label = same_bytes label (codes "empty")

-- a label that a line reads
abbrev pub label_read : List ℕ → Option (List ℕ)
label_read word = if is_label word then Some word else None

-- a label that a line binds: any but `empty`
abbrev pub label_to_bind : List ℕ → Option (List ℕ)
label_to_bind word = if is_label word && not (is_empty word) then Some word else None

-- the label of a commit to which no line binds one: the first 32 digits of its id
abbrev pub own_label : Id → List ℕ
own_label id = take 32 (encode_lower id.0)
