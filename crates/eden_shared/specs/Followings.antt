-- When a follower's mirror is faithful to an audited mount, and why that is not found.
use Rattle.std.specs.Prelude.{◌≡◌, ◌≢◌, ℕ, if◌then◌else◌, List, Some, None}
use Rattle.eden_accumulate.specs.Mounts.{State, StandsFor, files_of}
use Rattle.eden_follow.specs.Causes.{IsAgainst}
use Rattle.eden_follow.specs.Followers.{Followed}
use Rattle.eden_globs.specs.Filters.{admits}
use Rattle.eden_headline.specs.Merges.{IsFaithful}
use Rattle.eden_history.specs.declared.position.Position.{Position}
use Rattle.eden_history.specs.Worlds.{Namer, WorldState}
use Rattle.eden_ids.specs.FileMaps.{file_at}
use Rattle.eden_logs.specs.declared.fault.AuditFault.TheVariants.{NoMemory}
use Rattle.eden_logs.specs.declared.log.CallLog.{CallLog}
use Rattle.eden_messages.specs.Mirrors.{MirrorState}
use Rattle.eden_shared.specs.Audits.{Stored}
use Rattle.eden_shared.specs.Faults.{IsWrong}
use Rattle.eden_logs.specs.Histories.{replay}
use Rattle.eden_logs.specs.Logs.{LogsAgree}
use Rattle.eden_shared.specs.declared.following.FollowFault.{FollowFault}
use Rattle.eden_shared.specs.declared.following.FollowFault.TheVariants.{Audit, Vouch}

-- from each world of the opening, the mirror is faithful to the world that the history makes
abbrev pub FollowsHistory : Namer → Stored → MirrorState → Type 0
FollowsHistory name stored m = (world : WorldState) → StandsFor stored.opening world → IsFaithful (replay name world stored.entries) m

-- the logs agree with the history, from each world of the opening
abbrev pub AgreesAlong : Namer → Stored → List CallLog → Type 0
AgreesAlong name stored logs = (world : WorldState) → StandsFor stored.opening world → LogsAgree name world stored.entries logs

-- the position is at the head of the mount's journal
pub record IsHeadOf (mount : State) (place : Position) : Type 0 where
  pub generation : place.generation ≡ mount.log.generation
  pub sequence : place.sequence ≡ mount.log.head

-- at the head, the mirror holds the mount's files at the paths that it wants, and nothing else
abbrev pub HoldsAtHead : State → MirrorState → Type 0
HoldsAtHead mount m = (place : Position) → m.place ≡ Some place → IsHeadOf mount place
    → (path : List ℕ) → file_at m.files path ≡ (if admits m.patterns path then file_at (files_of mount) path else None)

-- the logs do not agree with the history; or they do, and do not vouch for the follower
abbrev pub IsFollowFault : Namer → Stored → List CallLog → Followed → FollowFault → Type 0
IsFollowFault name stored logs follower (Audit fault) =
    fault ≢ NoMemory → (world : WorldState) → StandsFor stored.opening world → IsWrong name world stored.entries logs fault
IsFollowFault name stored logs follower (Vouch fault) = AgreesAlong name stored logs × IsAgainst logs follower.mirror follower.notes fault
