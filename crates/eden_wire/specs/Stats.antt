-- Files without their bytes: what is replied to a Stat.
use Rattle.std.specs.Prelude.{ℕ, List, ◌∷◌, Option, Result}
use Rattle.std.specs.Int.{w32}
use Rattle.eden_wire.specs.declared.fault.DecodeFault.{DecodeFault}
use Rattle.eden_objects.specs.declared.stat.Stat.{Stat}
use Rattle.eden_wire.specs.declared.stat.StatIs.{StatIs}
use Rattle.eden_wire.specs.Formats.{Format, number, ◌▹◌, as_type, optional}
use Rattle.eden_wire.specs.Messages.{query, position, path, kind, id}
use Rattle.eden_wire.specs.Reading.{Spells, read_tagged}

-- a kind, a length and an id
abbrev pub stat : Format Stat
stat = as_type (kind ▹ number w32 ▹ id) (λ x. record { kind = x.0; length = x.1.0; id = x.1.1 }) (λ s. (s.kind, (s.length, s.id)))

abbrev pub stat_is : Format StatIs
stat_is =
    as_type (query ▹ position ▹ path ▹ optional stat) (λ x. record { query = x.0; position = x.1.0; path = x.1.1.0; stat = x.1.1.1 })
    (λ s. (s.query, (s.position, (s.path, s.stat))))

-- the bytes of a body
abbrev pub stat_bytes : StatIs → List ℕ
stat_bytes s = 2 ∷ 136 ∷ stat_is.spell s

-- the body encodes the reply to a Stat
abbrev pub SpellsStat : List ℕ → StatIs → Type 0
SpellsStat body s = Spells 136 stat_is body s

-- the reply to a Stat that a body encodes, or the first fault
abbrev pub read_stat : List ℕ → Result StatIs DecodeFault
read_stat body = read_tagged 136 stat_is body
