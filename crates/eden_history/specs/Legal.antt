-- Worlds: a store, a limit, and the history of one mount over it.
use Rattle.std.specs.Prelude.{◌≡◌, ◌<◌, ◌^◌, List, [], ◌∷◌, IsSome}
use Rattle.eden_ids.specs.FileMaps.{IsFileMap}
use Rattle.eden_objects.specs.Closed.{AllNamed, IsClosed}
use Rattle.eden_history.specs.Worlds.{Row, Event, Commits, Namer, WorldState, commits_of, last_row}
use Rattle.eden_history.specs.Outcome.{outcome}
use Rattle.eden_history.specs.Outcome.Outcome.{Next}

-- each event is what its change makes of the row before it, over these commits
abbrev pub AreMade : Commits → Row → List Event → Type 0
AreMade commits opening [] = Unit {0}
AreMade commits opening (event ∷ past) = (outcome commits (last_row opening past) event.change ≡ Next event) × AreMade commits opening past

-- a legal history: the opening row holds a file map, and each event is made from the row
-- before it. All events, old ones too, are judged over the commits that the world's
-- objects give now
abbrev pub IsLegal : WorldState → Type 0
IsLegal world = IsFileMap world.opening.files × AreMade (commits_of world) world.opening world.past

-- a world: its objects are those of a store (`IsClosed`), and each has the id that the
-- naming gives it; its history is legal; and it opened on a commit, at a number of eight
-- bytes
pub record IsWorld (name : Namer) (world : WorldState) : Type 0 where
  pub closed : IsClosed world.held
  pub named : AllNamed name world.held
  pub legal : IsLegal world
  pub begins : IsSome (commits_of world world.opening.root)
  pub number : world.opening.sequence < 2 ^ 64

-- a world whose objects are named by some naming
abbrev pub IsSomeWorld : WorldState → Type 0
IsSomeWorld world = (name : Namer) × IsWorld name world
