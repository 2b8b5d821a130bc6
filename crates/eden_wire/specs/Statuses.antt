-- Paths that differ from the commit below a working copy: what is replied to a status.
use Rattle.std.specs.Prelude.{ℕ, List, ◌∷◌, Result}
use Rattle.eden_wire.specs.declared.fault.DecodeFault.{DecodeFault}
use Rattle.eden_wire.specs.declared.status.StatusIs.{StatusIs}
use Rattle.eden_wire.specs.Formats.{Format, ◌▹◌, as_type}
use Rattle.eden_wire.specs.Messages.{query, position, marked_paths}
use Rattle.eden_wire.specs.Reading.{Spells, read_tagged}

abbrev pub status_is : Format StatusIs
status_is = as_type (query ▹ position ▹ marked_paths) (λ x. record { query = x.0; position = x.1.0; marked = x.1.1 }) (λ s. (s.query, (s.position, s.marked)))

-- the bytes of a body
abbrev pub status_bytes : StatusIs → List ℕ
status_bytes s = 2 ∷ 138 ∷ status_is.spell s

-- the body encodes the reply to a status
abbrev pub SpellsStatus : List ℕ → StatusIs → Type 0
SpellsStatus body s = Spells 138 status_is body s

-- the reply to a status that a body encodes, or the first fault
abbrev pub read_status : List ℕ → Result StatusIs DecodeFault
read_status body = read_tagged 138 status_is body
