-- Files without their bytes, all or those below a prefix: what is replied to attributes.
use Rattle.std.specs.Prelude.{ℕ, Bool, List, ◌∷◌, ◌++◌, Option, Result}
use Rattle.std.specs.Int.{w32}
use Rattle.std.specs.Option.{option_map}
use Rattle.eden_wire.specs.declared.attributes.AttributesAre.{AttributesAre}
use Rattle.eden_history.specs.declared.described.Described.{Described}
use Rattle.eden_wire.specs.declared.fault.DecodeFault.{DecodeFault}
use Rattle.eden_wire.specs.Formats.{Format, number, only, then_by, ◌▹◌, as_type, list, optional}
use Rattle.eden_wire.specs.Messages.{query, position, path, is_above, is_within}
use Rattle.eden_wire.specs.Reading.{Spells, read_tagged}
use Rattle.eden_wire.specs.Stats.{stat}

-- a path, which is below the prefix if there is one, and its file
abbrev pub file_within : Option (List ℕ) → Format Described
file_within prefix = as_type (only path (is_within prefix) ▹ stat) (λ x. record { path = x.0; stat = x.1 }) (λ d. (d.path, d.stat))

-- its bytes, whatever the prefix is
abbrev pub described_bytes : Described → List ℕ
described_bytes d = path.spell d.path ++ stat.spell d.stat

abbrev pub ascending_files : Option Described → Described → Bool
ascending_files last file = is_above (option_map (λ d. d.path) last) file.path

-- files whose paths ascend
abbrev pub files_within : Option (List ℕ) → Format (List Described)
files_within prefix = list (number w32) (file_within prefix) ascending_files

abbrev pub attributes_are : Format AttributesAre
attributes_are =
    as_type (query ▹ position ▹ then_by (optional path) (λ prefix. files_within prefix))
    (λ x. record { query = x.0; position = x.1.0; prefix = x.1.1.0; files = x.1.1.1 }) (λ a. (a.query, (a.position, (a.prefix, a.files))))

-- the bytes of a body
abbrev pub attributes_bytes : AttributesAre → List ℕ
attributes_bytes a = 2 ∷ 137 ∷ attributes_are.spell a

-- the body encodes the reply to attributes
abbrev pub SpellsAttributes : List ℕ → AttributesAre → Type 0
SpellsAttributes body a = Spells 137 attributes_are body a

-- the reply to attributes that a body encodes, or the first fault
abbrev pub read_attributes : List ℕ → Result AttributesAre DecodeFault
read_attributes body = read_tagged 137 attributes_are body
