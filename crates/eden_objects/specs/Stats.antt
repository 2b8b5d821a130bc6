-- Files without their bytes.
use Rattle.std.specs.Prelude.{ℕ, List, length}
use Rattle.eden_ids.specs.declared.content.Content.{Content}
use Rattle.eden_ids.specs.declared.id.Id.{Id}
use Rattle.eden_git.specs.declared.object_type.ObjectType.TheVariants.{Blob}
use Rattle.eden_git.specs.ObjectTypes.{type_text}
use Rattle.eden_objects.specs.declared.stat.Stat.{Stat}

-- the kind of a file, the number of its bytes and, by a naming, the id of the blob that
-- they make
abbrev pub stat_of : (List ℕ → List ℕ → Id) → Content → Stat
stat_of name content = record { kind = content.kind; length = length content.bytes; id = name (type_text Blob) content.bytes }
