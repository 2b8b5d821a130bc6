-- A mount after it went over to another commit.
use Rattle.std.proofs.Common.{◌≡◌, ℕ, Bool, true, false, not, List, [], map, Option, Some, None, is_some, refl, sym, ap, subst, ◌∙◌}
use Rattle.std.specs.Prelude.{if◌then◌else◌}
use Rattle.eden_ids.specs.declared.id.Id.{Id}
use Rattle.eden_ids.specs.FileMaps.{FileMap, file_at, listing}
use Rattle.eden_journal.specs.declared.delta.Delta.TheVariants.{Root}
use Rattle.eden_objects.specs.Objects.{Held}
use Rattle.eden_objects.specs.Commits.{commit_map}
use Rattle.eden_objects.specs.Files.{commit_files, files_of}
use Rattle.eden_journal.specs.Histories as journal
use Rattle.eden_journal.specs.Histories.{History, recorded}
use Rattle.eden_ranges.specs.Histories.{history_of}
use Rattle.eden_workcopy.specs.declared.work.WorkCopy.{WorkCopy}
use Rattle.eden_workcopy.specs.Meanings.{FitsIn, means}
use Rattle.eden_checkout.specs.Plans.{root_files}
use Rattle.eden_history.specs.declared.answer.Answer.TheVariants.{Checked}
use Rattle.eden_history.specs.declared.change.Mode.{Mode}
use Rattle.eden_history.specs.declared.change.Change.{Change}
use Rattle.eden_history.specs.declared.change.Change.TheVariants.{Checkout, Reset}
use Rattle.eden_history.specs.declared.change.ChangeFault.{ChangeFault}
use Rattle.eden_history.specs.declared.change.ChangeFault.TheVariants.{NoCommit}
use Rattle.eden_history.specs.declared.position.Position.{Position}
use Rattle.eden_history.specs.Checkouts.{checked_out, conflicts, is_dry, unclean}
use Rattle.eden_history.specs.Spellable.{IsChange}
use Rattle.eden_ids.specs.Texts.{IsIdText}
use Rattle.eden_history.specs.Worlds.{Row, Commits, WorldState, commits_of, now}
use Rattle.eden_history.specs.Recorded.{delta_of, starts}
use Rattle.eden_history.specs.Outcome.{answer_at, change_fault, commit_fault, event_at, is_event, next_files, next_root, next_row, refusal, row_after}
use Rattle.eden_accumulate.specs.Mounts.{State, StandsFor}
use Rattle.eden_accumulate.specs.internal.Refusals.{IsRefusal}
use Rattle.eden_accumulate.specs.internal.Rows.{Follows}
use Rattle.eden_accumulate.proofs.Histories.{event_of}
use Rattle.eden_accumulate.proofs.Standing.{IsPresent, log_recorded, made_stands}
use Rattle.eden_accumulate.proofs.Changing.{files_are, state}
use Rattle.eden_history.proofs.LegalFiles.{allowed_files}

-- whether there is such a commit
pub commit-fault : (mount : State) (world : WorldState) → StandsFor mount world → (commit : Id) → commit_fault (commit_map mount.held commit) ≡ commit_fault (commits_of world commit)
commit-fault mount world h commit = ap (λ held. commit_fault (commit_map held commit)) h.held

-- the second log has one more change of the root
abbrev pub MovesBy : journal.Log → journal.Log → Id → List (List ℕ) → Option (List Bool) → Type 0
MovesBy log more commit paths flags = (h : History) → journal.StandsFor log h → journal.StandsFor more (recorded h commit (Root h.root paths flags))

pub moved_by : (log other more : journal.Log) (commit : Id) (paths : List (List ℕ)) (flags : Option (List Bool)) → other ≡ log
    → ((h : History) → journal.StandsFor other h → journal.StandsFor more (recorded h commit (Root h.root paths flags))) → MovesBy log more commit paths flags
moved_by log other more commit paths flags same moves h is = moves h (subst (λ l. journal.StandsFor l h) (sym same) is)

-- what a change of the root makes of a working copy over a store
pub record Moved (held : List Held) (new : WorkCopy) (commit : Id) (wanted : FileMap) : Type 0 where
  pub fits : FitsIn held new
  pub root : new.root ≡ commit
  pub files : means held new ≡ wanted

root_stands : (held : List Held) (old new : WorkCopy) (log more : journal.Log) (mount : State) → state held old log ≡ mount
    → (world : WorldState) → StandsFor mount world → (change : Change) (commit : Id) → starts change ≡ false → next_root (now world) change ≡ commit
    → refusal (commits_of world) (now world) change ≡ None → is_event change ≡ true → IsChange change
    → Moved held new commit (next_files (commits_of world) (now world) change)
    → (paths : List (List ℕ)) (flags : Option (List Bool)) → Root (now world).root paths flags ≡ delta_of (now world) (event_of world change)
    → MovesBy log more commit paths flags
    → StandsFor (state held new more) (row_after world change)
root_stands held old new log more mount view world h change commit e goes allowed happens text moved paths flags is moves =
    let h-old : StandsFor (state held old log) world = subst (λ m. StandsFor m world) (sym view) h in
    made_stands (state held old log) world change (state held new more) (record {
      stood = h-old;
      allowed = allowed;
      happens = happens;
      text = text;
      held = refl;
      fits = moved.fits;
      root = moved.root ∙ sym goes;
      files = moved.files;
      log = log_recorded world change more (Root (now world).root paths flags) e is
          (subst (λ r. journal.StandsFor more (recorded (history_of world) r (Root (now world).root paths flags))) (sym goes) (moves (history_of world) h-old.log));
    })

-- ---- reset

delta-reset : (commits : Commits) (row : Row) (commit : Id) → Root row.root [] None ≡ delta_of row (event_at commits row (Reset commit) (next_row commits row (Reset commit)))
unfolding next_row next_files
delta-reset commits row commit = refl

files-reset : (commits : Commits) (row : Row) (commit : Id) → row.files ≡ next_files commits row (Reset commit)
unfolding next_files
files-reset commits row commit = refl

pub reset_follows : {held : List Held} {old new : WorkCopy} {log other more : journal.Log} {mount : State} (commit : Id) → state held old log ≡ mount
    → IsRefusal mount (Reset commit) None → IsIdText commit → FitsIn held new → new.root ≡ commit → means held new ≡ means held old
    → (paths : List (List ℕ)) → paths ≡ [] → other ≡ log → MovesBy other more commit paths None → Follows mount (Reset commit) (state held new more)
reset_follows {held} {old} {new} {log} {other} {more} {mount} commit view judged text fits root files paths none same moves world h =
    root_stands held old new log more mount view world h (Reset commit) commit refl refl (sym (judged world h)) refl text
    (record {
      fits = fits;
      root = root;
      files = files ∙ files_are held old log mount view world h ∙ files-reset (commits_of world) (now world) commit;
    })
    paths None (ap (λ ps. Root (now world).root ps None) none ∙ delta-reset (commits_of world) (now world) commit) (moved_by log other more commit paths None same moves)

-- ---- checkout

files-checked : (commits : Commits) (row : Row) (commit : Id) (mode : Mode)
    → checked_out mode row.files (files_of (commits row.root)) (files_of (commits commit)) ≡ next_files commits row (Checkout commit mode)
unfolding next_files
files-checked commits row commit mode = refl

-- the unclean paths of a checkout
abbrev unclean_of : Commits → Row → Id → Mode → List (List ℕ)
unclean_of commits row commit mode =
    listing (unclean row.files (files_of (commits row.root)) (checked_out mode row.files (files_of (commits row.root)) (files_of (commits commit))) (files_of (commits commit)))

delta-checked : (commits : Commits) (row : Row) (commit : Id) (mode : Mode)
    → Root row.root (unclean_of commits row commit mode) (Some (map (λ path. is_some (file_at row.files path)) (unclean_of commits row commit mode)))
    ≡ delta_of row (event_at commits row (Checkout commit mode) (next_row commits row (Checkout commit mode)))
unfolding next_row next_files
delta-checked commits row commit mode = refl

-- the three file maps of a checkout are the world's
pub three : {X : Type 0} (f : FileMap → FileMap → FileMap → X) (held : List Held) (old : WorkCopy) (log : journal.Log) (mount : State) → state held old log ≡ mount
    → (world : WorldState) → StandsFor mount world → (commit : Id)
    → f (means held old) (root_files held old) (commit_files held commit)
    ≡ f (now world).files (files_of (commits_of world (now world).root)) (files_of (commits_of world commit))
three f held old log mount view world h commit =
    let h-old : StandsFor (state held old log) world = subst (λ m. StandsFor m world) (sym view) h in
    λ i. f (h-old.files i) (commit_files (h-old.held i) (h-old.root i)) (commit_files (h-old.held i) commit)

pub checkout_follows : {held : List Held} {old new : WorkCopy} {log other more : journal.Log} {mount : State} (commit : Id) (mode : Mode) → state held old log ≡ mount
    → IsRefusal mount (Checkout commit mode) None → IsIdText commit → is_dry mode ≡ false → FitsIn held new → new.root ≡ (if is_dry mode then old.root else commit)
    → means held new ≡ checked_out mode (means held old) (root_files held old) (commit_files held commit)
    → (paths : List (List ℕ))
    → paths ≡ (if is_dry mode then [] else listing (unclean (means held old) (root_files held old) (means held new) (commit_files held commit)))
    → (flags : List Bool) → flags ≡ map (λ path. is_some (file_at (means held old) path)) paths
    → other ≡ log → MovesBy other more commit paths (Some flags) → Follows mount (Checkout commit mode) (state held new more)
checkout_follows {held} {old} {new} {log} {other} {more} {mount} commit mode view judged text real fits root files paths is flags flagged same moves world h =
    let is-files : means held new ≡ next_files (commits_of world) (now world) (Checkout commit mode) =
    files ∙ three (checked_out mode) held old log mount view world h commit
    ∙ files-checked (commits_of world) (now world) commit mode in
    let is-paths : paths ≡ unclean_of (commits_of world) (now world) commit mode =
    is ∙ ap (λ b. if b then [] else listing (unclean (means held old) (root_files held old) (means held new) (commit_files held commit))) real
    ∙ ap (λ next. listing (unclean (means held old) (root_files held old) next (commit_files held commit))) files
    ∙ three (λ work root target. listing (unclean work root (checked_out mode work root target) target)) held old log mount view world h commit in
    let is-flags : flags ≡ map (λ path. is_some (file_at (now world).files path)) (unclean_of (commits_of world) (now world) commit mode) =
    flagged ∙ (λ i. map (λ path. is_some (file_at (files_are held old log mount view world h i) path)) (is-paths i)) in
    root_stands held old new log more mount view world h (Checkout commit mode) commit refl refl (sym (judged world h)) (ap not real) text
    (record { fits = fits; root = root ∙ ap (λ b. if b then old.root else commit) real; files = is-files })
    paths (Some flags)
    ((λ i. Root (now world).root (is-paths i) (Some (is-flags i))) ∙ delta-checked (commits_of world) (now world) commit mode)
    (moved_by log other more commit paths (Some flags) same moves)

-- a checkout is answered with its conflicts
pub checked-answer : (held : List Held) (old : WorkCopy) (log : journal.Log) (mount : State) → state held old log ≡ mount
    → (world : WorldState) → StandsFor mount world → (commit : Id) (mode : Mode) (found : List (List ℕ)) (position : Position)
    → found ≡ listing (conflicts (means held old) (root_files held old) (commit_files held commit))
    → answer_at (commits_of world) (now world) (Checkout commit mode) position ≡ Checked position found
checked-answer held old log mount view world h commit mode found position is =
    ap (Checked position) (sym (is ∙ three (λ work root target. listing (conflicts work root target)) held old log mount view world h commit))

-- ---- a commit that was judged is there

there_by : (found : Option FileMap) → commit_fault found ≡ None → found ≡ None → ⊥
there_by None free gone = let bad : ◌≡◌ {A = Option ChangeFault} (Some NoCommit) None = free in cc
there_by (Some files) free gone = let bad : ◌≡◌ {A = Option FileMap} (Some files) None = gone in cc

pub commit_judged : {held : List Held} {old : WorkCopy} {log : journal.Log} {mount : State} (change : Change) (commit : Id) → state held old log ≡ mount
    → IsPresent (state held old log) → IsRefusal mount change None
    → ((commits : Commits) (row : Row) → change_fault commits row change ≡ commit_fault (commits commit)) → commit_map held commit ≡ None → ⊥
commit_judged {held} {old} {log} {mount} change commit view present judged asks gone =
    let world = present.0 in
    let h : StandsFor mount world = subst (λ m. StandsFor m world) view present.1 in
    there_by (commits_of world commit) (sym (asks (commits_of world) (now world)) ∙ allowed_files (commits_of world) (now world) change (sym (judged world h)))
    (ap (λ held. commit_map held commit) (sym present.1.held) ∙ gone)
