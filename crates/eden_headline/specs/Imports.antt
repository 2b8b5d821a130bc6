-- Schedules in which a change may be an import, as the mount is asked for it: its objects
-- are put one after another, all or none. The naming gives them their ids.
use Rattle.std.specs.Prelude.{List, [], ◌∷◌}
use Rattle.eden_history.specs.Worlds.{Namer}
use Rattle.eden_history.specs.Legal.{IsWorld}
use Rattle.eden_history.specs.Outcome.{world_after}
use Rattle.eden_headline.specs.Schedules.{IsFresh, MayHappen, Scene, Step, happens}
use Rattle.eden_headline.specs.Schedules.Step.{Changes, Grows}

-- the scene after a step that may be an import
abbrev pub happens_with_imports : Namer → Scene → Step → Scene
happens_with_imports name s (Changes change) = record s { world = world_after name s.world change }
happens_with_imports name s step = happens s step

-- every change may happen, the store grows by imports alone, and any other step may happen
-- as in a schedule
abbrev pub MayHappenWithImports : Scene → Step → Type 0
MayHappenWithImports s (Changes change) = Unit {0}
MayHappenWithImports s (Grows held) = ⊥
MayHappenWithImports s step = MayHappen s step

-- each step may happen at its place
abbrev pub IsScheduleWithImports : Namer → Scene → List Step → Type 0
IsScheduleWithImports name s [] = Unit {0}
IsScheduleWithImports name s (step ∷ steps) =
    MayHappenWithImports s step × IsScheduleWithImports name (happens_with_imports name s step) steps

abbrev pub run_with_imports : Namer → Scene → List Step → Scene
run_with_imports name s [] = s
run_with_imports name s (step ∷ steps) = run_with_imports name (happens_with_imports name s step) steps

-- after every schedule with imports from a fresh beginning, under any naming of a world
abbrev pub OnFreshRunsWithImports : (Scene → Type 0) → Type 0
OnFreshRunsWithImports Holds =
    (name : Namer) (s : Scene) (steps : List Step) → IsWorld name s.world → IsFresh s → IsScheduleWithImports name s steps → Holds (run_with_imports name s steps)
