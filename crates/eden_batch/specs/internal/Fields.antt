-- What some bytes say of a field that they should begin with, where each value of the field has a
-- text.
use Rattle.std.specs.Prelude.{◌≡◌, ℕ, ◌^◌, ◌<◌, List, [], ◌∷◌, ◌++◌, length, decimal, Result, Ok, Err}
use Rattle.std.specs.Borrow.{Bor}
use Rattle.hex.specs.Hex.{encode_lower}
use Rattle.eden_ids.specs.declared.id.Id.{Id}
use Rattle.eden_ids.specs.Texts.{IsIdText}
use Rattle.eden_git.specs.declared.object_type.ObjectType.{ObjectType}
use Rattle.eden_git.specs.ObjectTypes.{type_text}
use Rattle.eden_batch.specs.Batches.{header}
use Rattle.eden_batch.specs.declared.fields.Lack.{Lack}
use Rattle.eden_batch.specs.declared.fields.Lack.TheVariants as lack
use Rattle.eden_batch.specs.declared.header.Header.{Header}

-- the field's value and what comes after it; or a part of the field; or what can't become it
abbrev pub Reads : {V : Type 0} → (V → Type 0) → (V → List ℕ) → List ℕ → Result (V × Bor (List ℕ)) Lack → Type 0
Reads IsValue text bytes (Ok read) = IsValue read.0 × (bytes ≡ text read.0 ++ read.1.now)
Reads {V} IsValue text bytes (Err lack.Partial) =
    (value : V) × (more : List ℕ) × IsValue value × (0 < length more) × (bytes ++ more ≡ text value)
Reads {V} IsValue text bytes (Err lack.Bad) =
    (value : V) (rest more : List ℕ) → IsValue value → bytes ++ rest ≡ text value ++ more → ⊥

-- an id and a space
abbrev pub id_field : Id → List ℕ
id_field id = encode_lower id.0 ++ 32 ∷ []

-- a type's name and a space
abbrev pub type_field : ObjectType → List ℕ
type_field object_type = type_text object_type ++ 32 ∷ []

abbrev pub IsAnyType : ObjectType → Type 0
IsAnyType object_type = Unit {0}

-- a number in decimal and a line feed
abbrev pub size_field : ℕ → List ℕ
size_field size = decimal size ++ 10 ∷ []

abbrev pub IsSize : ℕ → Type 0
IsSize size = size < 2 ^ 64

abbrev pub header_field : Header → List ℕ
header_field h = header h.id h.object_type h.size

abbrev pub IsHeader : Header → Type 0
IsHeader h = IsIdText h.id × IsSize h.size
