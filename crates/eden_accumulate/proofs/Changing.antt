-- A mount after a change of files, a flush or a remount.
use Rattle.std.proofs.Common.{◌≡◌, ◌≢◌, ℕ, ◌-◌, ◌^◌, ◌<◌, Bool, true, false, not, nat_lt, List, [], ◌∷◌, Option, Some, None, is_some, refl, sym, ap, subst, ◌∙◌, arith}
use Rattle.std.specs.Prelude.{if◌then◌else◌}
use Rattle.std.specs.FinMap as fin
use Rattle.std.specs.Option.{option_or}
use Rattle.eden_ids.specs.declared.content.Content.{Content}
use Rattle.eden_ids.specs.declared.content.Kind.{Kind}
use Rattle.eden_ids.specs.FileMaps.{FileMap, file_at}
use Rattle.eden_ids.proofs.FileMapLemmas.{file_at-insert_here, file_at-insert_other, file_at-remove_here}
use Rattle.eden_journal.specs.FilesChanged.{FilesChanged, Touched}
use Rattle.eden_journal.specs.declared.delta.Delta.TheVariants.{File}
use Rattle.eden_journal.specs.Deltas.{touch, touched_at, moved_over, renamed_dir}
use Rattle.eden_objects.specs.Objects.{Held}
use Rattle.eden_journal.specs.Histories as journal
use Rattle.eden_journal.specs.Histories.{History, flushed, recorded}
use Rattle.eden_ranges.specs.Histories.{history_of}
use Rattle.eden_workcopy.specs.declared.work.WorkCopy.{WorkCopy}
use Rattle.eden_workcopy.specs.Meanings.{FitsIn, means}
use Rattle.eden_history.specs.declared.change.Change.{Change}
use Rattle.eden_history.specs.declared.change.Change.TheVariants.{Write, Remove, Rename, RenameDir, Flush, Remount}
use Rattle.eden_history.specs.declared.change.ChangeFault.{ChangeFault}
use Rattle.eden_history.specs.declared.change.ChangeFault.TheVariants.{GenerationNotNew, NoEntry, SequenceExhausted}
use Rattle.eden_history.specs.Worlds.{Row, Commits, WorldState, commits_of, now}
use Rattle.eden_history.specs.Recorded.{delta_of, starts}
use Rattle.eden_history.specs.Renames.{absent_fault, moved, place_fault, rename_fault, renamed, write_fault}
use Rattle.eden_history.specs.DirRenames.{dir_renamed, rename_dir_fault, source_fault, target_fault}
use Rattle.eden_ids.specs.Sameness.{same_bytes}
use Rattle.eden_history.specs.Outcome.{event_at, is_event, next_files, next_root, next_row, refusal, row_after, takes_number}
use Rattle.eden_history.specs.Spellable.{IsChange}
use Rattle.eden_history.proofs.RenameLaws.{first-none}
use Rattle.eden_accumulate.specs.Mounts.{State, StandsFor, files_of}
use Rattle.eden_accumulate.specs.internal.Refusals.{IsRefusal, number_fault}
use Rattle.eden_accumulate.specs.internal.Rows.{Follows, Refuses}
use Rattle.eden_accumulate.proofs.Histories.{answer-refused, event_of, grown, history-flushed, history-remounted}
use Rattle.eden_accumulate.proofs.Standing.{IsPresent, has_number, number-left, number-out, refusal-free, refusal-numbered, log_recorded, made_stands}
use Rattle.eden_history.proofs.LegalFiles.{allowed_files}

-- a mount by its parts
abbrev pub state : List Held → WorkCopy → journal.Log → State
state held work log = record { held = held; work = work; log = log }

-- the second log has one more change of files
abbrev pub GrowsBy : journal.Log → journal.Log → FilesChanged → Type 0
GrowsBy log more files = (h : History) → journal.StandsFor log h → journal.StandsFor more (recorded h h.root (File files))

-- the same mount, given by other parts
pub kept : {held : List Held} {work other : WorkCopy} {log more : journal.Log} → other ≡ work → more ≡ log → IsPresent (state held work log) → IsPresent (state held other more)
kept {held} works logs h = (h.0, subst (λ m. StandsFor m h.0) (λ i. state held (sym works i) (sym logs i)) h.1)

-- a number is left for a change that nothing refuses
pub left : {held : List Held} {work : WorkCopy} {log more : journal.Log} {mount : State} → state held work log ≡ mount → IsPresent (state held work log) → more ≡ log
    → (change : Change) (fault : Option ChangeFault) → IsRefusal mount change fault → fault ≡ None → takes_number change ≡ true → more.head < 2 ^ 64 - 1
left {held} {work} {log} {more} {mount} view h same change fault is none takes =
    let low : mount.log.head < 2 ^ 64 - 1 =
    has_number mount change fault (h.0, subst (λ m. StandsFor m h.0) view h.1) is none takes in
    let one : more.head ≡ mount.log.head = ap (λ (l : journal.Log). l.head) same ∙ ap (λ (m : State). m.log.head) view in
    omega arith

-- a journal that made room first
pub grown_by : (log other more : journal.Log) (delta : FilesChanged) → other ≡ log
    → ((h : History) → journal.StandsFor other h → journal.StandsFor more (recorded h h.root (File delta))) → GrowsBy log more delta
grown_by log other more touches same grows h is = grows h (subst (λ l. journal.StandsFor l h) (sym same) is)

-- a change of files, where the working copy and the journal were changed as it says
pub file_stands : (held : List Held) (old new : WorkCopy) (log more : journal.Log) (mount : State) → state held old log ≡ mount
    → (world : WorldState) → StandsFor mount world → (change : Change) → starts change ≡ false → next_root (now world) change ≡ (now world).root
    → refusal (commits_of world) (now world) change ≡ None → is_event change ≡ true → IsChange change
    → FitsIn held new → new.root ≡ old.root → means held new ≡ next_files (commits_of world) (now world) change
    → (delta : FilesChanged) → File delta ≡ delta_of (now world) (event_of world change) → GrowsBy log more delta
    → StandsFor (state held new more) (row_after world change)
file_stands held old new log more mount view world h change e stays allowed happens text fits root files delta is grows =
    let h-old : StandsFor (state held old log) world = subst (λ m. StandsFor m world) (sym view) h in
    made_stands (state held old log) world change (state held new more) (record {
      stood = h-old;
      allowed = allowed;
      happens = happens;
      text = text;
      held = refl;
      fits = fits;
      root = root ∙ h-old.root ∙ sym stays;
      files = files;
      log = log_recorded world change more (File delta) e is
          (subst (λ r. journal.StandsFor more (recorded (history_of world) r (File delta))) (sym stays) (grows (history_of world) h-old.log));
    })

-- the files of the mount are the row's
pub files_are : (held : List Held) (old : WorkCopy) (log : journal.Log) (mount : State) → state held old log ≡ mount → (world : WorldState) → StandsFor mount world
    → means held old ≡ (now world).files
files_are held old log mount view world h = ap files_of view ∙ h.files

-- its working copy fits in its store
fits_still : (held : List Held) (old : WorkCopy) (log : journal.Log) (mount : State) → state held old log ≡ mount → (world : WorldState) → StandsFor mount world → FitsIn held old
fits_still held old log mount view world h = (subst (λ m. StandsFor m world) (sym view) h).fits

-- ---- write

delta-written : (commits : Commits) (row : Row) (path : List ℕ) (kind : Kind) (bytes : List ℕ)
    → File (touched_at path (is_some (file_at row.files path)) true) ≡ delta_of row (event_at commits row (Write path kind bytes) (next_row commits row (Write path kind bytes)))
unfolding next_row next_files
delta-written commits row path kind bytes =
    ap (λ b. File (touched_at path (is_some (file_at row.files path)) b))
    (sym (ap is_some (file_at-insert_here row.files path (record { kind = kind; bytes = bytes }))))

files-written : (commits : Commits) (row : Row) (path : List ℕ) (kind : Kind) (bytes : List ℕ)
    → fin.insert row.files path (record { kind = kind; bytes = bytes }) ≡ next_files commits row (Write path kind bytes)
unfolding next_files
files-written commits row path kind bytes = refl

-- a file that was written, if nothing refused it
pub write_follows : {held : List Held} {old new : WorkCopy} {log other more : journal.Log} {mount : State} (path : List ℕ) (kind : Kind) (bytes : List ℕ) → state held old log ≡ mount
    → IsRefusal mount (Write path kind bytes) None → IsChange (Write path kind bytes) → new.root ≡ old.root
    → ((h : List Held) → means h new ≡ fin.insert (means h old) path (record { kind = kind; bytes = bytes }))
    → ((h : List Held) → FitsIn h old → write_fault (means h old) path bytes ≡ None → FitsIn h new)
    → (seen : FileMap) → seen ≡ means held old → (delta : FilesChanged) → delta ≡ touched_at path (is_some (file_at seen path)) true → other ≡ log → GrowsBy other more delta
    → Follows mount (Write path kind bytes) (state held new more)
write_follows {held} {old} {new} {log} {other} {more} {mount} path kind bytes view judged text root files fits seen all delta is same grows world h =
    let allowed = sym (judged world h) in
    let here = files_are held old log mount view world h in
    file_stands held old new log more mount view world h (Write path kind bytes) refl refl allowed refl text
    (fits held (fits_still held old log mount view world h) (ap (λ m. write_fault m path bytes) here ∙ allowed_files (commits_of world) (now world) (Write path kind bytes) allowed))
    root
    (files held ∙ ap (λ m. fin.insert m path (record { kind = kind; bytes = bytes })) here ∙ files-written (commits_of world) (now world) path kind bytes)
    delta
    (ap File (is ∙ ap (λ m. touched_at path (is_some (file_at m path)) true) (all ∙ here)) ∙ delta-written (commits_of world) (now world) path kind bytes)
    (grown_by log other more delta same grows)

-- ---- remove

-- where nothing is absent there is a file
present : (files : FileMap) (path : List ℕ) → absent_fault files path ≡ None → is_some (file_at files path) ≡ true
present files path e = by (is_some (file_at files path)) refl (first-none (place_fault files path) _ e).1
  where
    by : (b : Bool) → is_some (file_at files path) ≡ b → (if is_some (file_at files path) then None else Some NoEntry) ≡ None → is_some (file_at files path) ≡ true
    by true here none = here
    by false here none =
        let bad : ◌≡◌ {A = Option ChangeFault} (Some NoEntry) None = sym (ap (λ b. if b then None else Some NoEntry) here) ∙ none in cc

delta-removed : (commits : Commits) (row : Row) (path : List ℕ) → is_some (file_at row.files path) ≡ true
    → File (touched_at path true false) ≡ delta_of row (event_at commits row (Remove path) (next_row commits row (Remove path)))
unfolding next_row next_files
delta-removed commits row path here =
    λ i. File (touched_at path (sym here i) (sym (ap is_some (file_at-remove_here row.files path)) i))

files-removed : (commits : Commits) (row : Row) (path : List ℕ) → fin.remove row.files path ≡ next_files commits row (Remove path)
unfolding next_files
files-removed commits row path = refl

-- a file that was taken away, if there was one
pub remove_follows : {held : List Held} {old new : WorkCopy} {log other more : journal.Log} {mount : State} (path : List ℕ) → state held old log ≡ mount
    → IsRefusal mount (Remove path) None → IsChange (Remove path) → new.root ≡ old.root
    → ((h : List Held) → means h new ≡ fin.remove (means h old) path) → ((h : List Held) → FitsIn h old → FitsIn h new)
    → (delta : FilesChanged) → delta ≡ touched_at path true false → other ≡ log → GrowsBy other more delta
    → Follows mount (Remove path) (state held new more)
remove_follows {held} {old} {new} {log} {other} {more} {mount} path view judged text root files fits delta is same grows world h =
    let allowed = sym (judged world h) in
    file_stands held old new log more mount view world h (Remove path) refl refl allowed refl text (fits held (fits_still held old log mount view world h)) root
    (files held ∙ ap (λ m. fin.remove m path) (files_are held old log mount view world h) ∙ files-removed (commits_of world) (now world) path)
    delta
    (ap File is ∙ delta-removed (commits_of world) (now world) path (present (now world).files path (allowed_files (commits_of world) (now world) (Remove path) allowed)))
    (grown_by log other more delta same grows)

-- ---- rename

-- a file went from the old path to the new one
moved-old : (files : FileMap) (old new : List ℕ) (file : Option Content) → old ≢ new → is_some file ≡ true → is_some (file_at (moved files old new file) old) ≡ false
moved-old files old new None apart here = let bad : false ≡ true = here in cc
moved-old files old new (Some file) apart here =
    ap is_some (file_at-insert_other (fin.remove files old) new file old apart ∙ file_at-remove_here files old)

moved-new : (files : FileMap) (old new : List ℕ) (file : Option Content) → is_some file ≡ true → is_some (file_at (moved files old new file) new) ≡ true
moved-new files old new None here = let bad : false ≡ true = here in cc
moved-new files old new (Some file) here = ap is_some (file_at-insert_here (fin.remove files old) new file)

abbrev moved_delta : FileMap → List ℕ → List ℕ → FilesChanged
moved_delta files old new = moved_over old new (is_some (file_at files new))

delta-renamed : (commits : Commits) (row : Row) (old new : List ℕ) → same_bytes old new ≡ false → old ≢ new → is_some (file_at row.files old) ≡ true
    → File (moved_delta row.files old new) ≡ delta_of row (event_at commits row (Rename old new) (next_row commits row (Rename old new)))
unfolding next_row next_files
delta-renamed commits row old new other apart here =
    let after : renamed row.files old new ≡ moved row.files old new (file_at row.files old) =
    ap (λ b. if b then row.files else moved row.files old new (file_at row.files old)) other in
    let from : is_some (file_at (renamed row.files old new) old) ≡ false =
    ap (λ (m : FileMap). is_some (file_at m old)) after ∙ moved-old row.files old new (file_at row.files old) apart here in
    let to : is_some (file_at (renamed row.files old new) new) ≡ true =
    ap (λ (m : FileMap). is_some (file_at m new)) after ∙ moved-new row.files old new (file_at row.files old) here in
    λ i. File (Touched (touch old (sym here i) (sym from i) ∷ touch new (is_some (file_at row.files new)) (sym to i) ∷ []))

files-renamed : (commits : Commits) (row : Row) (old new : List ℕ) → renamed row.files old new ≡ next_files commits row (Rename old new)
unfolding next_files
files-renamed commits row old new = refl

-- a file that was moved to another path, if nothing refused it
pub rename_follows : {held : List Held} {before after : WorkCopy} {log other more : journal.Log} {mount : State} (old new : List ℕ) → state held before log ≡ mount
    → IsRefusal mount (Rename old new) None → IsChange (Rename old new) → same_bytes old new ≡ false → old ≢ new → after.root ≡ before.root
    → means held after ≡ renamed (means held before) old new
    → (FitsIn held before → rename_fault (means held before) old new ≡ None → FitsIn held after)
    → (seen : FileMap) → seen ≡ means held before → (delta : FilesChanged) → delta ≡ moved_delta seen old new → other ≡ log → GrowsBy other more delta
    → Follows mount (Rename old new) (state held after more)
rename_follows {held} {before} {after} {log} {other} {more} {mount} old new view judged text distinct apart root files fits seen all delta is same grows world h =
    let allowed = sym (judged world h) in
    let here = files_are held before log mount view world h in
    let free = allowed_files (commits_of world) (now world) (Rename old new) allowed in
    let stood : is_some (file_at (now world).files old) ≡ true = present (now world).files old (first-none (absent_fault (now world).files old) _ free).0 in
    file_stands held before after log more mount view world h (Rename old new) refl refl allowed (ap not distinct) text
    (fits (fits_still held before log mount view world h) (ap (λ m. rename_fault m old new) here ∙ free))
    root
    (files ∙ ap (λ m. renamed m old new) here ∙ files-renamed (commits_of world) (now world) old new)
    delta
    (ap File (is ∙ ap (λ m. moved_delta m old new) (all ∙ here)) ∙ delta-renamed (commits_of world) (now world) old new distinct apart stood)
    (grown_by log other more delta same grows)

-- the file that a rename moves is there
pub stood : {held : List Held} {work : WorkCopy} {log : journal.Log} {mount : State} (old new : List ℕ) → state held work log ≡ mount → IsPresent (state held work log)
    → IsRefusal mount (Rename old new) None → is_some (file_at (means held work) old) ≡ true
stood {held} {work} {log} {mount} old new view at judged =
    let world = at.0 in
    let h : StandsFor mount world = subst (λ m. StandsFor m world) view at.1 in
    let free = allowed_files (commits_of world) (now world) (Rename old new) (sym (judged world h)) in
    ap (λ files. is_some (file_at files old)) (files_are held work log mount view world h)
    ∙ present (now world).files old (first-none (absent_fault (now world).files old) _ free).0

-- ---- rename of a directory

delta-dir_renamed : (commits : Commits) (row : Row) (old new : List ℕ)
    → File (renamed_dir old new) ≡ delta_of row (event_at commits row (RenameDir old new) (next_row commits row (RenameDir old new)))
unfolding next_row next_files
delta-dir_renamed commits row old new = refl

files-dir_renamed : (commits : Commits) (row : Row) (old new : List ℕ) → dir_renamed row.files old new ≡ next_files commits row (RenameDir old new)
unfolding next_files
files-dir_renamed commits row old new = refl

-- to itself: the old path alone is judged
pub rename_dir-itself : {held : List Held} {work : WorkCopy} {log : journal.Log} {mount : State} (old new : List ℕ) (fault : Option ChangeFault) → state held work log ≡ mount
    → fault ≡ source_fault (means held work) old → same_bytes old new ≡ true → IsRefusal mount (RenameDir old new) fault
rename_dir-itself {held} {work} {log} {mount} old new fault view is same world h =
    refusal-free world (RenameDir old new) fault
    (is ∙ ap (λ m. source_fault m old) (files_are held work log mount view world h)
    ∙ alone (source_fault (now world).files old)
    ∙ ap (λ b. option_or (source_fault (now world).files old) (if b then None else target_fault (now world).files old new)) (sym same))
    (ap not same)
  where
    alone : (found : Option ChangeFault) → found ≡ option_or found None
    alone None = refl
    alone (Some found) = refl

-- if nothing refuses it and a number is left
pub rename_dir-judged : {held : List Held} {work : WorkCopy} {log : journal.Log} {mount : State} (old new : List ℕ) → state held work log ≡ mount
    → rename_dir_fault (means held work) old new ≡ None → number_fault mount.log.head ≡ None → same_bytes old new ≡ false → IsRefusal mount (RenameDir old new) None
rename_dir-judged {held} {work} {log} {mount} old new view none left distinct world h =
    sym left
    ∙ refusal-numbered mount (RenameDir old new) None world h
    (sym (ap (λ m. rename_dir_fault m old new) (sym (files_are held work log mount view world h)) ∙ none)) (ap not distinct)

-- and where something does
pub rename_dir-refused : {held : List Held} {work : WorkCopy} {log : journal.Log} {mount : State} (old new : List ℕ) (fault : ChangeFault) → state held work log ≡ mount
    → rename_dir_fault (means held work) old new ≡ Some fault → same_bytes old new ≡ false → Refuses mount (RenameDir old new) fault
rename_dir-refused {held} {work} {log} {mount} old new fault view is distinct world h =
    answer-refused world (RenameDir old new) fault
    (sym (refusal-numbered mount (RenameDir old new) (Some fault) world h
    (sym (ap (λ m. rename_dir_fault m old new) (sym (files_are held work log mount view world h)) ∙ is)) (ap not distinct)))

-- or no number is left
pub rename_dir-exhausted : (mount : State) (old new : List ℕ) (fault : ChangeFault) → rename_dir_fault (files_of mount) old new ≡ None → number_fault mount.log.head ≡ Some fault
    → same_bytes old new ≡ false → Refuses mount (RenameDir old new) fault
rename_dir-exhausted mount old new fault none out distinct world h =
    answer-refused world (RenameDir old new) fault
    (sym (refusal-numbered mount (RenameDir old new) None world h (sym (ap (λ m. rename_dir_fault m old new) (sym h.files) ∙ none)) (ap not distinct)) ∙ out)

-- a directory that was renamed, if nothing refused it
pub rename_dir_follows : {held : List Held} {before after : WorkCopy} {log other more : journal.Log} {mount : State} (old new : List ℕ) → state held before log ≡ mount
    → IsRefusal mount (RenameDir old new) None → IsChange (RenameDir old new) → same_bytes old new ≡ false → after.root ≡ before.root → FitsIn held after
    → means held after ≡ dir_renamed (means held before) old new
    → (delta : FilesChanged) → delta ≡ renamed_dir old new → other ≡ log → GrowsBy other more delta
    → Follows mount (RenameDir old new) (state held after more)
rename_dir_follows {held} {before} {after} {log} {other} {more} {mount} old new view judged text distinct root fits files delta is same grows world h =
    file_stands held before after log more mount view world h (RenameDir old new) refl refl (sym (judged world h)) (ap not distinct) text fits root
    (files ∙ ap (λ m. dir_renamed m old new) (files_are held before log mount view world h) ∙ files-dir_renamed (commits_of world) (now world) old new)
    delta
    (ap File is ∙ delta-dir_renamed (commits_of world) (now world) old new)
    (grown_by log other more delta same grows)

-- ---- flush and remount

-- what leaves root and files as they are
still_stands : (held : List Held) (work : WorkCopy) (log more : journal.Log) (mount : State) → state held work log ≡ mount
    → (world : WorldState) → StandsFor mount world → (change : Change) → next_root (now world) change ≡ (now world).root
    → next_files (commits_of world) (now world) change ≡ (now world).files
    → refusal (commits_of world) (now world) change ≡ None → is_event change ≡ true → IsChange change
    → journal.StandsFor more (history_of (grown world change)) → StandsFor (state held work more) (row_after world change)
still_stands held work log more mount view world h change stays same allowed happens text is =
    let h-old : StandsFor (state held work log) world = subst (λ m. StandsFor m world) (sym view) h in
    made_stands (state held work log) world change (state held work more) (record {
      stood = h-old;
      allowed = allowed;
      happens = happens;
      text = text;
      held = refl;
      fits = h-old.fits;
      root = h-old.root ∙ sym stays;
      files = h-old.files ∙ sym same;
      log = is;
    })

pub flush_follows : {held : List Held} {work : WorkCopy} {log more : journal.Log} {mount : State} → state held work log ≡ mount → IsRefusal mount Flush None
    → ((h : History) → journal.StandsFor log h → journal.StandsFor more (flushed h)) → Follows mount Flush (state held work more)
unfolding next_files
flush_follows {held} {work} {log} {more} {mount} view judged grows world h =
    let h-old : StandsFor (state held work log) world = subst (λ m. StandsFor m world) (sym view) h in
    still_stands held work log more mount view world h Flush refl refl (sym (judged world h)) refl tt
    (subst (journal.StandsFor more) (sym (history-flushed world h.is_world.1.legal)) (grows (history_of world) h-old.log))

pub remount_follows : {held : List Held} {work : WorkCopy} {log more : journal.Log} {mount : State} (generation : ℕ) → state held work log ≡ mount
    → IsRefusal mount (Remount generation) None → generation < 2 ^ 64 → journal.StandsFor more (journal.opened generation log.root log.limit 1)
    → Follows mount (Remount generation) (state held work more)
unfolding next_files
remount_follows {held} {work} {log} {more} {mount} generation view judged number is world h =
    let h-old : StandsFor (state held work log) world = subst (λ m. StandsFor m world) (sym view) h in
    still_stands held work log more mount view world h (Remount generation) refl refl (sym (judged world h)) refl number
    (subst (journal.StandsFor more)
    ((λ i. journal.opened generation (h-old.log.root i) (h-old.log.limit i) 1) ∙ sym (history-remounted world generation)) is)

pub flush-judged : {held : List Held} {work : WorkCopy} {log : journal.Log} {mount : State} → state held work log ≡ mount → log.head < 2 ^ 64 - 1 → IsRefusal mount Flush None
flush-judged {held} {work} {log} {mount} view low world h =
    let low-now : mount.log.head < 2 ^ 64 - 1 = subst (λ (m : State). m.log.head < 2 ^ 64 - 1) view low in
    sym (number-left mount.log.head low-now) ∙ refusal-numbered mount Flush None world h refl refl

pub flush-refused : (held : List Held) (work : WorkCopy) (log : journal.Log) (mount : State) → state held work log ≡ mount
    → log.head ≡ 2 ^ 64 - 1 → Refuses mount Flush SequenceExhausted
flush-refused held work log mount view last world h =
    let is : number_fault mount.log.head ≡ Some SequenceExhausted = number-out mount.log.head (sym (ap (λ (m : State). m.log.head) view) ∙ last) in
    answer-refused world Flush SequenceExhausted (sym (refusal-numbered mount Flush None world h refl refl) ∙ is)

-- a remount is refused by the generation alone
pub remount-judged : (held : List Held) (work : WorkCopy) (log : journal.Log) (mount : State) → state held work log ≡ mount → (world : WorldState) → StandsFor mount world
    → (generation : ℕ) (newer : Bool) → nat_lt log.generation generation ≡ newer
    → (if newer then None else Some GenerationNotNew) ≡ refusal (commits_of world) (now world) (Remount generation)
remount-judged held work log mount view world h generation newer e =
    let same : log.generation ≡ (now world).generation = ap (λ (m : State). m.log.generation) view ∙ h.log.generation in
    refusal-free world (Remount generation) (if newer then None else Some GenerationNotNew)
    (ap (λ b. if b then None else Some GenerationNotNew) (sym e ∙ ap (λ n. nat_lt n generation) same)) refl
