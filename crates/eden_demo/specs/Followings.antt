-- When a follower has followed.
use Rattle.std.specs.Prelude.{◌≡◌, List, All}
use Rattle.eden_ids.specs.FileMaps.{FileMap, file_at, paths}
use Rattle.eden_overlay.specs.Listings.{admitted}
use Rattle.eden_history.specs.Worlds.{WorldState, now}
use Rattle.eden_messages.specs.Mirrors.{MirrorState}
use Rattle.eden_accumulate.specs.Mounts.{State, StandsFor}
use Rattle.eden_logs.specs.declared.log.CallLog.{CallLog}
use Rattle.eden_headline.specs.Vouched.{IsVouched}
use Rattle.eden_follow.specs.Followers.{Followed}

-- the mirror holds a file at each of these paths that its filter admits and at no other, and it is
-- the same file
pub record HoldsAll (m : MirrorState) (files : FileMap) : Type 0 where
  pub listed : paths m.files ≡ admitted m.patterns files
  pub same : All (λ path. file_at m.files path ≡ file_at files path) (paths m.files)

-- the logs vouch for the follower, and its mirror holds what the mount holds
pub record HasFollowed (logs : List CallLog) (mount : State) (follower : Followed) : Type 0 where
  pub vouched : IsVouched logs follower.mirror follower.notes
  pub holds : (world : WorldState) → StandsFor mount world → HoldsAll follower.mirror (now world).files
