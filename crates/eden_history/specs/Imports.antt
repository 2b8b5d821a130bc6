-- What an import does to a world: its store has more objects or, if one of them is
-- refused, nothing changes. The rows and the events stay as they are. A world keeps the
-- objects of now alone, so after an import its earlier events are judged over the grown
-- store.
use Rattle.std.specs.Prelude.{List, Ok, Err}
use Rattle.eden_objects.specs.declared.import.Object.{Object}
use Rattle.eden_objects.specs.Objects.{Held}
use Rattle.eden_objects.specs.Imports.{Imported, import_outcome}
use Rattle.eden_history.specs.Worlds.{Namer, WorldState}

-- the world over these objects
abbrev pub over_held : WorldState → List Held → WorldState
over_held world held = record world { held = held }

abbrev pub grown_by : WorldState → Imported → WorldState
grown_by world (Err fault) = world
grown_by world (Ok held) = over_held world held

abbrev pub world_imported : Namer → WorldState → List Object → WorldState
world_imported name world objects = grown_by world (import_outcome name objects world.held)
