-- A history of calls and a follower's notes, merged into one schedule, and what follows.
use Rattle.std.specs.Prelude.{◌≡◌, ℕ, ◌==◌, nat_le, if◌then◌else◌, List, [], ◌∷◌, ◌++◌, Some, None}
use Rattle.eden_history.specs.Worlds.{Namer, WorldState}
use Rattle.eden_history.specs.Legal.{IsWorld}
use Rattle.eden_logs.specs.declared.call.Call.{Call}
use Rattle.eden_logs.specs.declared.call.Call.TheVariants.{Change, Ask}
use Rattle.eden_messages.specs.declared.message.Request.{Request}
use Rattle.eden_messages.specs.Mirrors.{MirrorState, new_mirror}
use Rattle.eden_logs.specs.declared.history.HistoryEntry.{HistoryEntry}
use Rattle.eden_logs.specs.declared.log.CallLog.{CallLog}
use Rattle.eden_logs.specs.Histories.{IsLegalHistory, replay}
use Rattle.eden_logs.specs.Logs.{LogsAgree}
use Rattle.eden_headline.specs.declared.note.Note.{Note}
use Rattle.eden_headline.specs.declared.note.Note.TheVariants.{Began, Sent, Came}
use Rattle.eden_headline.specs.Headline.{AgreesAtHead, HasPlace, HasValues, IsCovered, IsTold}
use Rattle.eden_headline.specs.Notes.{HasNotes}
use Rattle.eden_headline.specs.Imports.{IsScheduleWithImports, run_with_imports}
use Rattle.eden_headline.specs.Schedules.{Scene, Step}
use Rattle.eden_headline.specs.Schedules.Step.{Begins, Changes, Comes, Sends, Serves, Strange}
use Rattle.eden_headline.specs.Vouched.{IsVouched, is_own}

-- ---- the merge, for a follower of this id and life

-- a request that is not the follower's is sent by a client that is not a mirror
abbrev pub steps_of_request : ℕ → ℕ → Request → List Step
steps_of_request id life request = if is_own id life request then Serves request ∷ [] else Strange request ∷ Serves request ∷ []

abbrev pub steps_of_call : ℕ → ℕ → Call → List Step
steps_of_call id life (Change change) = Changes change ∷ []
steps_of_call id life (Ask request) = steps_of_request id life request

abbrev pub steps_of : ℕ → ℕ → List HistoryEntry → List Step
steps_of id life [] = []
steps_of id life (entry ∷ rest) = steps_of_call id life entry.call ++ steps_of id life rest

-- the first entries, as long as their tickets are at most this one, and the entries after
-- them
abbrev pub up_to : ℕ → List HistoryEntry → List HistoryEntry
up_to ticket [] = []
up_to ticket (entry ∷ rest) = if nat_le entry.ticket ticket then entry ∷ up_to ticket rest else []

abbrev pub behind : ℕ → List HistoryEntry → List HistoryEntry
behind ticket [] = []
behind ticket (entry ∷ rest) = if nat_le entry.ticket ticket then behind ticket rest else entry ∷ rest

-- note by note; before a reply comes, the remaining entries up to its ticket; after all
-- notes, those that remain
abbrev pub merge : ℕ → ℕ → List HistoryEntry → List Note → List Step
merge id life entries [] = steps_of id life entries
merge id life entries (Began ∷ notes) = Begins id ∷ merge id life entries notes
merge id life entries (Sent requests ∷ notes) = Sends id ∷ merge id life entries notes
merge id life entries (Came ticket reply ∷ notes) =
    steps_of id life (up_to ticket entries) ++ Comes reply id ∷ merge id life (behind ticket entries) notes

-- ---- what follows

-- a world and one mirror, which is new, before anything is sent
abbrev pub opened_with : WorldState → MirrorState → Scene
opened_with world m = record { world = world; sent = []; replies = []; mirrors = λ id. if id == m.id then Some m else None }

-- the scene before the merge of a history with a mirror's notes, and the scene at its end
abbrev pub opening_of : WorldState → MirrorState → Scene
opening_of world m = opened_with world (new_mirror m.id m.life m.patterns)

abbrev pub merged : MirrorState → List HistoryEntry → List Note → List Step
merged m entries notes = merge m.id m.life entries notes

abbrev pub ending_of : Namer → WorldState → MirrorState → List HistoryEntry → List Note → Scene
ending_of name world m entries notes = run_with_imports name (opening_of world m) (merged m entries notes)

-- what is promised of a mirror against a world, one mirror at a time
pub record IsFaithful (world : WorldState) (m : MirrorState) : Type 0 where
  pub covered : IsCovered world m
  pub told : IsTold world m
  pub at_head : AgreesAtHead world m
  pub place : HasPlace world m
  pub values : HasValues world m

-- the merge is a schedule with imports that ends with the history's world and the
-- follower's mirror, and the mirror is faithful to that world
pub record IsMerged (name : Namer) (world : WorldState) (entries : List HistoryEntry) (m : MirrorState) (notes : List Note) : Type 0 where
  pub schedule : IsScheduleWithImports name (opening_of world m) (merged m entries notes)
  pub replays : (ending_of name world m entries notes).world ≡ replay name world entries
  pub follows : (ending_of name world m entries notes).mirrors m.id ≡ Some m
  pub faithful : IsFaithful (replay name world entries) m

-- with each history, from any world, with which the logs agree
abbrev pub GoesWith : List CallLog → MirrorState → List Note → Type 0
GoesWith logs m notes = (name : Namer) (world : WorldState) (entries : List HistoryEntry) → IsWorld name world → IsLegalHistory name world entries
    → LogsAgree name world entries logs → IsMerged name world entries m notes

-- what holds of each follower that logs vouch for, with each history with which they
-- agree
abbrev pub OnMerges : (Namer → WorldState → List HistoryEntry → MirrorState → List Note → Type 0) → Type 0
OnMerges Holds = (logs : List CallLog) (m : MirrorState) (notes : List Note) → HasNotes m notes → IsVouched logs m notes
    → (name : Namer) (world : WorldState) (entries : List HistoryEntry) → IsWorld name world → IsLegalHistory name world entries
    → LogsAgree name world entries logs → Holds name world entries m notes
