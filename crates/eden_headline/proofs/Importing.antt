-- A schedule with imports is one in which each import is a step by which the store grows. So what holds after every schedule holds after it.
use Rattle.std.proofs.Common.{◌≡◌, List, [], ◌∷◌, refl, sym, ap, subst, ◌∙◌}
use Rattle.eden_objects.specs.declared.import.Object.{Object}
use Rattle.eden_objects.specs.Imports.{import_outcome}
use Rattle.eden_objects.proofs.Grown.{maps_stay}
use Rattle.eden_objects.proofs.Importing.{imports_keep}
use Rattle.eden_history.specs.declared.change.Change.TheVariants.{Import}
use Rattle.eden_history.specs.Worlds.{Namer, WorldState}
use Rattle.eden_history.specs.Imports.{over_held, world_imported}
use Rattle.eden_history.specs.Legal.{IsWorld}
use Rattle.eden_history.proofs.Growing.{imported_by, world_changes}
use Rattle.eden_headline.specs.Imports.{IsScheduleWithImports, MayHappenWithImports, OnFreshRunsWithImports, happens_with_imports, run_with_imports}
use Rattle.eden_headline.specs.Schedules.{CommitsStay, IsSchedule, MayHappen, Scene, Step, happens, run_schedule}
use Rattle.eden_headline.specs.Schedules.Step.{Changes, Grows}
use Rattle.eden_headline.proofs.Scheduling.{HoldsAll, after_all}

-- an import is the growth to the objects that there are after it
abbrev as_growth : Namer → Scene → Step → Step
as_growth name s (Changes (Import objects)) = Grows (world_imported name s.world objects).held
as_growth name s step = step

abbrev with_growth : Namer → Scene → List Step → List Step
with_growth name s [] = []
with_growth name s (step ∷ steps) = as_growth name s step ∷ with_growth name (happens_with_imports name s step) steps

-- ---- one step

commits_stay : (name : Namer) (world : WorldState) (objects : List Object) → IsWorld name world → CommitsStay world.held (world_imported name world objects).held
commits_stay name world objects is =
    imported_by (λ next. CommitsStay world.held next.held) world (import_outcome name objects world.held) (λ commit files found. found)
    (λ held e. let keeps = imports_keep name objects world.held held is.closed is.named e in maps_stay world.held held is.closed keeps.0 keeps.3)

same_world : (name : Namer) (world : WorldState) (objects : List Object) → over_held world (world_imported name world objects).held ≡ world_imported name world objects
same_world name world objects = imported_by (λ next. over_held world next.held ≡ next) world (import_outcome name objects world.held) refl (λ held e. refl)

may_as_growth : (name : Namer) (s : Scene) (step : Step) → IsWorld name s.world → MayHappenWithImports s step → MayHappen s (as_growth name s step)
may_as_growth name s (Changes (Import objects)) is may = commits_stay name s.world objects is
may_as_growth name s (Grows held) is may = absurd may
may_as_growth name s (Changes change) is may = tt
may_as_growth name s step is may = may

same_scene : (name : Namer) (s : Scene) (step : Step) → happens s (as_growth name s step) ≡ happens_with_imports name s step
unfolding happens
same_scene name s (Changes (Import objects)) = ap (λ (next : WorldState). record s { world = next }) (same_world name s.world objects)
same_scene name s step = refl

world_with_imports : (name : Namer) (s : Scene) (step : Step) → IsWorld name s.world → MayHappenWithImports s step → IsWorld name (happens_with_imports name s step).world
unfolding happens
world_with_imports name s (Changes change) is may = world_changes name s.world change is
world_with_imports name s (Grows held) is may = absurd may
world_with_imports name s step is may = is

-- ---- all steps

record IsOne (name : Namer) (s : Scene) (steps : List Step) : Type 0 where
  schedule : IsSchedule s (with_growth name s steps)
  ends : run_schedule s (with_growth name s steps) ≡ run_with_imports name s steps

is_one : (name : Namer) (s : Scene) (steps : List Step) → IsWorld name s.world → IsScheduleWithImports name s steps → IsOne name s steps
is_one name s [] is may = record { schedule = tt; ends = refl }
is_one name s (step ∷ steps) is may =
    let next : Scene = happens_with_imports name s step in
    let same : happens s (as_growth name s step) ≡ next = same_scene name s step in
    let rest = is_one name next steps (world_with_imports name s step is may.0) may.1 in
    record {
      schedule = (may_as_growth name s step is may.0, subst (λ (t : Scene). IsSchedule t (with_growth name next steps)) (sym same) rest.schedule);
      ends = ap (λ t. run_schedule t (with_growth name next steps)) same ∙ rest.ends;
    }

-- what follows from what is kept holds after every schedule with imports
pub with_imports : (Holds : Scene → Type 0) → ((s : Scene) → HoldsAll s → Holds s) → OnFreshRunsWithImports Holds
with_imports Holds means name s steps is fresh may =
    let one = is_one name s steps is may in
    subst Holds one.ends (after_all Holds means s (with_growth name s steps) fresh one.schedule)
