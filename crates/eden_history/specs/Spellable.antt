-- Why everything that a mount replies can be written as bytes: its numbers have eight
-- bytes, its roots twenty, its paths are valid and its files have at most 8 MiB.
use Rattle.std.specs.Prelude.{◌<◌, ◌^◌, List}
use Rattle.std.specs.List.{AllByRecursion}
use Rattle.eden_ids.specs.Texts.{AreBytes, AreTexts, IsIdText, IsPathText}
use Rattle.eden_objects.specs.declared.import.Object.{Object}
use Rattle.eden_objects.specs.Small.{AreSmall}
use Rattle.eden_history.specs.declared.change.Change.{Change}
use Rattle.eden_history.specs.declared.change.Change.TheVariants.{Write, Remove, Rename, RenameDir, Checkout, Reset, Flush, Remount, Import}
use Rattle.eden_history.specs.Worlds.{Row, WorldState}

pub record IsRowText (row : Row) : Type 0 where
  pub generation : row.generation < 2 ^ 64
  pub sequence : row.sequence < 2 ^ 64
  pub root : IsIdText row.root
  pub files : AreTexts row.files

-- objects that values can be: their payloads are bytes
abbrev pub AreObjects : List Object → Type 0
AreObjects objects = AllByRecursion (λ object. AreBytes object.payload) objects

-- a change that a value can be; a write may have a file of any size, and an import an
-- object of any size: one that is too large is refused
abbrev pub IsChange : Change → Type 0
IsChange (Write path kind bytes) = IsPathText path × AreBytes bytes
IsChange (Remove path) = IsPathText path
IsChange (Rename old new) = IsPathText old × IsPathText new
IsChange (RenameDir old new) = IsPathText old × IsPathText new
IsChange (Checkout commit mode) = IsIdText commit
IsChange (Reset commit) = IsIdText commit
IsChange Flush = Unit {0}
IsChange (Remount generation) = generation < 2 ^ 64
IsChange (Import objects) = AreObjects objects

-- The objects, the opening row and the changes that were made suffice: each later row and
-- each name comes from these.
pub record IsSpellable (world : WorldState) : Type 0 where
  pub small : AreSmall world.held
  pub opening : IsRowText world.opening
  pub changes : AllByRecursion (λ event. IsChange event.change) world.past
