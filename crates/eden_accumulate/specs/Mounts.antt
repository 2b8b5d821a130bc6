-- The state of a mount, and the histories of changes of which it is the present.
use Rattle.std.specs.Prelude.{◌≡◌, List, []}
use Rattle.eden_ids.specs.FileMaps.{FileMap}
use Rattle.eden_objects.specs.Objects.{Held}
use Rattle.eden_objects.specs.Closed.{AllNamed, IsClosed}
use Rattle.eden_objects.specs.Laws.{HasAll}
use Rattle.eden_objects.specs.Small.{AreSmall}
use Rattle.eden_journal.specs.Histories as journal
use Rattle.eden_ranges.specs.Histories.{history_of}
use Rattle.eden_workcopy.specs.declared.work.WorkCopy.{WorkCopy}
use Rattle.eden_workcopy.specs.Meanings.{FitsIn, means}
use Rattle.eden_history.specs.declared.answer.Answer.{Answer}
use Rattle.eden_history.specs.declared.answer.Answer.TheVariants.{Refused}
use Rattle.eden_history.specs.declared.change.Change.{Change}
use Rattle.eden_history.specs.declared.change.ChangeFault.{ChangeFault}
use Rattle.eden_history.specs.Worlds.{Namer, WorldState, now}
use Rattle.eden_history.specs.Imports.{over_held}
use Rattle.eden_history.specs.Outcome.{answer_of, world_after}
use Rattle.eden_history.specs.Legal.{IsSomeWorld}
use Rattle.eden_history.specs.Spellable.{IsSpellable}

-- a store's objects, a working copy and what a journal holds
pub record State : Type 0 where
  pub held : List Held
  pub work : WorkCopy
  pub log : journal.Log

-- the files that a mount holds
abbrev pub files_of : State → FileMap
files_of mount = means mount.held mount.work

-- a mount is the present of a world: the objects, the root and the files are the world's,
-- and the journal holds as much as the limit allows of what the world recorded.
-- Everything that the world replies has an encoding
pub record StandsFor (mount : State) (world : WorldState) : Type 0 where
  pub held : mount.held ≡ world.held
  pub fits : FitsIn mount.held mount.work
  pub root : mount.work.root ≡ (now world).root
  pub files : files_of mount ≡ (now world).files
  pub log : journal.StandsFor mount.log (history_of world)
  pub is_world : IsSomeWorld world
  pub spellable : IsSpellable world

-- a mount that has more objects is the present of the same worlds over these objects
abbrev pub StandsOver : Type 0
StandsOver = (name : Namer) (mount : State) (world : WorldState) (more : List Held) → StandsFor mount world → IsClosed more → AllNamed name more → AreSmall more
    → HasAll mount.held more → StandsFor (record mount { held = more }) (over_held world more)

-- the answer to a change is that of each world of which the mount is the present; for an
-- import, if this naming names the objects
abbrev pub Answers : Namer → State → Change → Answer → Type 0
Answers name mount change answer = (world : WorldState) → StandsFor mount world → answer_of name world change ≡ answer

-- after a change the mount is the present of each world of which it was, as the change
-- leaves it
abbrev pub Follows : Namer → State → Change → State → Type 0
Follows name mount change after = (world : WorldState) → StandsFor mount world → StandsFor after (world_after name world change)

abbrev pub Refuses : Namer → State → Change → ChangeFault → Type 0
Refuses name mount change fault = Answers name mount change (Refused fault)

-- the world that begins with a mount as it is
abbrev pub begun_at : State → WorldState
begun_at mount = record {
  held = mount.held;
  limit = mount.log.limit;
  opening = record { generation = mount.log.generation; sequence = mount.log.head; root = mount.work.root; files = files_of mount };
  past = [];
}
