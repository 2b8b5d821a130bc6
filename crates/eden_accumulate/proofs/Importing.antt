-- A mount whose store took more objects: its root, its files and its journal are as they were.
use Rattle.std.proofs.Common.{◌≡◌, List, [], ◌∷◌, Option, Some, None, Result, Ok, Err, refl, sym, ap, subst, ◌∙◌}
use Rattle.std.specs.Prelude.{IsSome, IfOk, OnErr}
use Rattle.eden_ids.specs.declared.id.Id.{Id}
use Rattle.eden_ids.specs.FileMaps.{FileMap}
use Rattle.eden_objects.specs.declared.fault.PutFault.{PutFault}
use Rattle.eden_objects.specs.declared.import.Object.{Object}
use Rattle.eden_objects.specs.Objects.{Held}
use Rattle.eden_objects.specs.Closed.{AllNamed, IsClosed}
use Rattle.eden_objects.specs.Commits.{commit_map}
use Rattle.eden_objects.specs.Imports.{and_then, import_outcome, put_of}
use Rattle.eden_objects.specs.Laws.{HasAll}
use Rattle.eden_objects.specs.Small.{AreSmall}
use Rattle.eden_objects.proofs.Grown.{maps_stay}
use Rattle.eden_objects.proofs.Importing.{imports_keep}
use Rattle.eden_journal.specs.Histories as journal
use Rattle.eden_workcopy.specs.declared.work.WorkCopy.{WorkCopy}
use Rattle.eden_workcopy.proofs.Works.{fits_elsewhere, means_elsewhere}
use Rattle.eden_history.specs.declared.answer.Answer.TheVariants.{At}
use Rattle.eden_history.specs.declared.change.Change.TheVariants.{Import}
use Rattle.eden_history.specs.declared.position.Position.{Position}
use Rattle.eden_history.specs.Worlds.{Namer, WorldState, now, position_of}
use Rattle.eden_history.specs.Imports.{grown_by, over_held, world_imported}
use Rattle.eden_history.specs.Outcome.{import_answer}
use Rattle.eden_history.proofs.Growing.{world_over}
use Rattle.eden_accumulate.specs.Mounts.{Answers, Follows, StandsOver, State, StandsFor}
use Rattle.eden_accumulate.proofs.Changing.{state}
use Rattle.eden_accumulate.proofs.Standing.{IsPresent, log_position, position_is}

-- ---- over more objects

-- a commit that is there holds what it did
commit_stays : (held new : List Held) → IsClosed held → IsClosed new → HasAll held new → (commit : Id) → IsSome (commit_map held commit) → commit_map held commit ≡ commit_map new commit
commit_stays held new closed new_closed all commit there = by (commit_map held commit) refl there
  where
    by : (found : Option FileMap) → commit_map held commit ≡ found → IsSome found → commit_map held commit ≡ commit_map new commit
    by None at there = absurd (cc)
    by (Some files) at there = at ∙ sym (maps_stay held new closed new_closed all commit files at)

pub stands_over : StandsOver
stands_over name mount world new h closed named small all =
    let is = h.is_world.1 in
    let root : commit_map mount.held mount.work.root ≡ commit_map new mount.work.root =
    commit_stays mount.held new (subst IsClosed (sym h.held) is.closed) closed all mount.work.root h.fits.root in
    record {
      held = refl;
      fits = fits_elsewhere mount.held new mount.work root h.fits;
      root = h.root;
      files = sym (means_elsewhere mount.held new mount.work root) ∙ h.files;
      log = h.log;
      is_world = (name, world_over h.is_world.0 name world new is closed named (subst (λ held. HasAll held new) h.held all));
      spellable = record { small = small; opening = h.spellable.opening; changes = h.spellable.changes };
    }

-- ---- an import

imported_stands : (name : Namer) (objects : List Object) (held new : List Held) (work : WorkCopy) (log : journal.Log) → IsClosed held → AllNamed name held → AreSmall new
    → import_outcome name objects held ≡ Ok new → (world : WorldState) → StandsFor (state held work log) world → StandsFor (state new work log) (world_imported name world objects)
imported_stands name objects held new work log closed named small put world h =
    let keeps = imports_keep name objects held new closed named put in
    subst (StandsFor (state new work log)) (sym (ap (grown_by world) (ap (import_outcome name objects) (sym h.held) ∙ put)))
    (stands_over name (state held work log) world new h keeps.0 keeps.1 small keeps.3)

pub imported_present : (name : Namer) (objects : List Object) (held new : List Held) (work : WorkCopy) (log : journal.Log) → IsClosed held → AllNamed name held → AreSmall new
    → import_outcome name objects held ≡ Ok new → IsPresent (state held work log) → IsPresent (state new work log)
imported_present name objects held new work log closed named small put h =
    (world_imported name h.0 objects, imported_stands name objects held new work log closed named small put h.0 h.1)

pub import_follows : (name : Namer) (objects : List Object) {held new : List Held} {work : WorkCopy} {log : journal.Log} {mount : State} → state held work log ≡ mount
    → IsClosed held → AllNamed name held → AreSmall new → import_outcome name objects held ≡ Ok new → Follows name mount (Import objects) (state new work log)
import_follows name objects {held} {new} {work} {log} {mount} view closed named small put world h =
    imported_stands name objects held new work log closed named small put world (subst (λ m. StandsFor m world) (sym view) h)

-- what was put is answered with the present position
pub import_answered : (name : Namer) (objects : List Object) {held new : List Held} {work : WorkCopy} {log : journal.Log} {mount : State} (position : Position) → state held work log ≡ mount
    → import_outcome name objects held ≡ Ok new → position ≡ log_position log → Answers name mount (Import objects) (At position)
import_answered name objects {held} {new} {work} {log} {mount} position view put same world h =
    ap (import_answer (position_of (now world))) (ap (import_outcome name objects) (sym (ap (λ (m : State). m.held) view ∙ h.held)) ∙ put)
    ∙ ap At (sym (same ∙ ap (λ (m : State). log_position m.log) view ∙ position_is mount world h))

-- ---- one object

-- after one object was put, or refused, a mount stands for the same worlds over its objects
pub put_stands : (name : Namer) (object : Object) (held new : List Held) (work : WorkCopy) (log : journal.Log) (told : Result Id PutFault) → IsClosed held → AllNamed name held
    → AreSmall new → IfOk told (λ id. put_of name object held ≡ Ok (id, new)) → OnErr told (new ≡ held)
    → (world : WorldState) → StandsFor (state held work log) world → StandsFor (state new work log) (over_held world new)
put_stands name object held new work log (Ok id) closed named small put same world h =
    let keeps = imports_keep name (object ∷ []) held new closed named (ap (λ outcome. and_then 0 outcome (λ more. Ok more)) put) in
    stands_over name (state held work log) world new h keeps.0 keeps.1 small keeps.3
put_stands name object held new work log (Err fault) closed named small put same world h =
    subst (λ objects. StandsFor (state objects work log) (over_held world objects)) (sym same)
    (subst (λ objects. StandsFor (state held work log) (over_held world objects)) (sym h.held) h)
