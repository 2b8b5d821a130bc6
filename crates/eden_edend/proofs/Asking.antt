-- What a question to the mount comes to.
use Rattle.std.proofs.Common.{◌≡◌, List, ℕ, sym, ap, subst, ◌∙◌}
use Rattle.std.specs.Prelude.{IsSome}
use Rattle.eden_ids.specs.declared.id.Id.{Id}
use Rattle.eden_ids.specs.FileMaps.{differ, listing}
use Rattle.eden_globs.specs.Filters.{Patterns}
use Rattle.eden_objects.specs.Objects.{Held}
use Rattle.eden_objects.specs.Commits.{commit_map}
use Rattle.eden_objects.specs.Files.{commit_files}
use Rattle.eden_workcopy.specs.declared.work.WorkCopy.{WorkCopy}
use Rattle.eden_overlay.specs.Listings.{admitted}
use Rattle.eden_workcopy.specs.Meanings.{means}
use Rattle.eden_history.specs.declared.position.Position.{Position}
use Rattle.eden_history.specs.Worlds.{WorldState, now, position_of}
use Rattle.eden_accumulate.specs.declared.snapshot.Snapshot.{Snapshot}
use Rattle.eden_accumulate.specs.Mounts.{State, StandsFor}
use Rattle.eden_accumulate.specs.Snapshots.{shown_to}
use Rattle.eden_script.specs.declared.command.AskLine.TheVariants.{Dirty}
use Rattle.eden_script.specs.declared.told.Told.TheVariants as outcome
use Rattle.eden_script.specs.Sessions.{asked}

-- a mount's root is a commit of its objects, so that a snapshot of it can be listed over them
pub root_there : (mount : State) (snapshot : Snapshot) (held : List Held)
    → ((world : WorldState) → StandsFor mount world → snapshot.position ≡ position_of (now world))
    → (world : WorldState) × StandsFor mount world → held ≡ mount.held → IsSome (commit_map held snapshot.position.root)
root_there mount snapshot held place some same =
    let root : snapshot.position.root ≡ mount.work.root = ap (λ (p : Position). p.root) (place some.0 some.1) ∙ sym some.1.root in
    subst (λ (h : List Held). IsSome (commit_map h snapshot.position.root)) (sym same)
    (subst (λ (r : Id). IsSome (commit_map mount.held r)) (sym root) some.1.fits.root)

-- what a snapshot of a mount shows over the mount's objects is what the world's files are
pub snapshot_lists : (mount : State) (snapshot : Snapshot) (held : List Held) (patterns : Patterns) (listed : List (List ℕ))
    → ((world : WorldState) → StandsFor mount world → (ps : Patterns) → shown_to ps mount.held snapshot ≡ admitted ps (now world).files)
    → held ≡ mount.held → listed ≡ shown_to patterns held snapshot
    → (world : WorldState) → StandsFor mount world → listed ≡ admitted patterns (now world).files
snapshot_lists mount snapshot held patterns listed files same shown world h =
    shown ∙ ap (λ (store : List Held). shown_to patterns store snapshot) same ∙ files world h patterns

pub dirty_asked : (mount : State) (world : WorldState) (held : List Held) (work : WorkCopy) (paths : List (List ℕ)) → StandsFor mount world
    → held ≡ mount.held → work ≡ mount.work → paths ≡ listing (differ (means held work) (commit_files held work.root))
    → outcome.Dirty paths ≡ asked world Dirty
dirty_asked mount world held work paths h same-held same-work listed =
    ap (λ (ps : List (List ℕ)). outcome.Dirty ps) (
    listed
    ∙ (λ i. listing (differ (means (same-held i) (same-work i)) (commit_files (same-held i) (same-work i).root)))
    ∙ (λ i. listing (differ (h.files i) (commit_files (h.held i) (h.root i)))))
