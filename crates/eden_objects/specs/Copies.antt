-- The entries that copies out of a payload show.
use Rattle.std.specs.Prelude.{List, map, Option, Some, None}
use Rattle.std.specs.Global.{Vec}
use Rattle.eden_objects.specs.declared.entries.Entry as own
use Rattle.eden_git.specs.Trees.{Entry}

abbrev pub copied : own.Entry → Entry
copied e = record { name = e.name.items; kind = e.kind; id = e.id }

abbrev pub copied_all : Option (Vec own.Entry) → Option (List Entry)
copied_all None = None
copied_all (Some found) = Some (map copied found.items)
