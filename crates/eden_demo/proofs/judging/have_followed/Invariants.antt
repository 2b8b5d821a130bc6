use Rattle.std.proofs.Common.{take}
use Rattle.std.specs.Prelude.{All}
use Rattle.eden_demo.specs.Followings.{HasFollowed}
use Rattle.eden_demo.proofs.judging.have_followed.Given as goal

-- the followers so far have followed
abbrev pub invariant-loop-follower : goal.invariant-loop-follower
invariant-loop-follower l = All (HasFollowed l.logs l.mount) (take l.follower-index l.followers)
