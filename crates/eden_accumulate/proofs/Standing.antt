-- A mount that stands for a world stands for it after a change too.
use Rattle.std.proofs.Common.{◌≡◌, ℕ, ◌-◌, ◌^◌, ◌<◌, Bool, true, false, not, ◌&&◌, nat_lt, List, [], Option, Some, None, refl, sym, ap, subst, ◌∙◌, arith, is_some}
use Rattle.std.specs.Prelude.{if◌then◌else◌}
use Rattle.std.specs.Option.{option_or}
use Rattle.std.proofs.lemmas.Bool.{lt-ltb}
use Rattle.eden_ids.specs.declared.id.Id.{Id}
use Rattle.eden_ids.specs.Texts.{IsIdText}
use Rattle.eden_journal.specs.declared.delta.Delta.{Delta}
use Rattle.eden_objects.specs.Objects.{Held}
use Rattle.eden_objects.specs.Closed.{AllNamed, IsClosed}
use Rattle.eden_objects.specs.Small.{AreSmall}
use Rattle.eden_objects.specs.Commits.{commit_map}
use Rattle.eden_objects.specs.Files as Files
use Rattle.eden_objects.specs.Files.{commit_files}
use Rattle.eden_workcopy.specs.declared.work.WorkCopy.{WorkCopy}
use Rattle.eden_journal.specs.Histories as journal
use Rattle.eden_journal.specs.Histories.{History, recorded}
use Rattle.eden_journal.proofs.Standing.{empty_logs_begin}
use Rattle.eden_ranges.specs.Histories.{history_of}
use Rattle.eden_workcopy.specs.Meanings.{FitsIn, means}
use Rattle.eden_history.specs.declared.change.Change.{Change}
use Rattle.eden_history.specs.declared.change.ChangeFault.{ChangeFault}
use Rattle.eden_history.specs.declared.change.ChangeFault.TheVariants.{SequenceExhausted}
use Rattle.eden_history.specs.declared.position.Position.{Position}
use Rattle.eden_history.specs.Worlds.{WorldState, commits_of, now, opened, position_of}
use Rattle.eden_history.specs.Recorded.{delta_of, deltas, starts}
use Rattle.eden_history.specs.Outcome.{answer_at, change_fault, is_event, next_files, next_root, refusal, row_after, row_answer, takes_number}
use Rattle.eden_history.specs.Spellable.{IsChange}
use Rattle.eden_history.proofs.Floors.{generation-kept}
use Rattle.eden_history.proofs.Steps.{has-number}
use Rattle.eden_history.proofs.LegalFiles.{world_opens, next_row_files}
use Rattle.eden_history.proofs.Spelled.{spellable_grows, spellable_opens}
use Rattle.eden_accumulate.specs.Mounts.{begun_at, State, StandsFor, files_of}
use Rattle.eden_accumulate.specs.internal.Refusals.{IsRefusal, number_fault}
use Rattle.eden_accumulate.specs.internal.Rows.{Follows, Refuses}
use Rattle.eden_accumulate.proofs.Histories.{after-event, answer-allowed, answer-refused, event_of, grown, grown_world, head_is, history-recorded, root-made}

-- ---- the present

abbrev pub log_position : journal.Log → Position
log_position log = record { generation = log.generation; sequence = log.head; root = log.root }

pub sequence_is : (mount : State) (world : WorldState) → StandsFor mount world → mount.log.head ≡ (now world).sequence
sequence_is mount world h = h.log.head ∙ sym (head_is world h.is_world.1.legal)

pub position_is : (mount : State) (world : WorldState) → StandsFor mount world → log_position mount.log ≡ position_of (now world)
position_is mount world h =
    λ i. record { generation = h.log.generation i; sequence = sequence_is mount world h i; root = h.log.root i }

-- a mount of a commit, with no event
pub opened_stands : (name : List ℕ → List ℕ → Id) (held : List Held) (work : WorkCopy) (log : journal.Log) (generation limit : ℕ) (root : Id) → IsClosed held → AllNamed name held → AreSmall held
    → generation < 2 ^ 64 → IsIdText root → FitsIn held work → work.root ≡ root
    → commit_map held root ≡ Some (means held work) → journal.StandsFor log (journal.opened generation root limit 1)
    → StandsFor (record { held = held; work = work; log = log }) (opened held generation limit root (commit_files held root))
unfolding deltas
opened_stands name held work log generation limit root closed named small number text fits is-root is-files is-log =
    let files : means held work ≡ commit_files held root = sym (ap Files.files_of is-files) in
    record {
      held = refl;
      fits = fits;
      root = is-root;
      files = files;
      log = is-log;
      is_world = (name, world_opens name held generation limit root (commit_files held root) closed named (ap is_some is-files) refl);
      spellable = spellable_opens held generation limit root (commit_files held root) closed small number text refl;
    }

-- a mount that begins with parts that hold nothing of the past
pub begun_stands : (name : List ℕ → List ℕ → Id) (mount : State) → IsClosed mount.held → AllNamed name mount.held → AreSmall mount.held → mount.log.head < 2 ^ 64 → mount.log.generation < 2 ^ 64
    → IsIdText mount.work.root → FitsIn mount.held mount.work → mount.log.root ≡ mount.work.root → ((h : History) × journal.StandsFor mount.log h)
    → mount.log.held ≡ [] → StandsFor mount (begun_at mount)
unfolding deltas
begun_stands name mount closed named small number generation text fits root stands nothing =
    record {
      held = refl;
      fits = fits;
      root = refl;
      files = refl;
      log = subst (λ id. journal.StandsFor mount.log (journal.opened mount.log.generation id mount.log.limit mount.log.head)) root
          (empty_logs_begin mount.log stands.0 stands.1 nothing);
      is_world = (name, record { closed = closed; named = named; legal = (fits.files, tt); begins = fits.root; number = number });
      spellable = record { small = small; opening = record { generation = generation; sequence = number; root = text; files = fits.texts }; changes = tt };
    }

-- ---- refusals

turned : (free : Bool) → (if free then None else Some SequenceExhausted) ≡ (if true && not free then Some SequenceExhausted else None)
turned true = refl
turned false = refl

pub refusal-numbered : (mount : State) (change : Change) (fault : Option ChangeFault) (world : WorldState) → StandsFor mount world
    → fault ≡ change_fault (commits_of world) (now world) change → takes_number change ≡ true
    → option_or fault (number_fault mount.log.head) ≡ refusal (commits_of world) (now world) change
unfolding refusal
refusal-numbered mount change fault world h is takes =
    ap (λ f. option_or f (number_fault mount.log.head)) is
    ∙ ap (λ n. option_or (change_fault (commits_of world) (now world) change) (number_fault n)) (sequence_is mount world h)
    ∙ ap (option_or (change_fault (commits_of world) (now world) change)) (turned (nat_lt (now world).sequence (2 ^ 64 - 1)))
    ∙ ap (λ b. option_or (change_fault (commits_of world) (now world) change) (if b && not (nat_lt (now world).sequence (2 ^ 64 - 1)) then Some SequenceExhausted else None)) (sym takes)

first-alone : (fault : Option ChangeFault) → option_or fault None ≡ fault
first-alone None = refl
first-alone (Some fault) = refl

pub refusal-free : (world : WorldState) (change : Change) (fault : Option ChangeFault) → fault ≡ change_fault (commits_of world) (now world) change → takes_number change ≡ false
    → fault ≡ refusal (commits_of world) (now world) change
unfolding refusal
refusal-free world change fault is free =
    is ∙ sym (first-alone (change_fault (commits_of world) (now world) change))
    ∙ ap (λ b. option_or (change_fault (commits_of world) (now world) change) (if b && not (nat_lt (now world).sequence (2 ^ 64 - 1)) then Some SequenceExhausted else None)) (sym free)

pub number-left : (n : ℕ) → n < 2 ^ 64 - 1 → number_fault n ≡ None
number-left n h = ap (λ b. if b then None else Some SequenceExhausted) (lt-ltb n (2 ^ 64 - 1) h)

pub number-out : (n : ℕ) → n ≡ 2 ^ 64 - 1 → number_fault n ≡ Some SequenceExhausted
number-out n h = ap number_fault h

-- a mount stands for some world
abbrev pub IsPresent : State → Type 0
IsPresent mount = (world : WorldState) × StandsFor mount world

pub has_number : (mount : State) (change : Change) (fault : Option ChangeFault) → IsPresent mount → IsRefusal mount change fault → fault ≡ None → takes_number change ≡ true
    → mount.log.head < 2 ^ 64 - 1
has_number mount change fault h is none takes =
    let low : (now h.0).sequence < 2 ^ 64 - 1 = has-number (commits_of h.0) (now h.0) change (sym (is h.0 h.1) ∙ none) takes in
    let same : mount.log.head ≡ (now h.0).sequence = sequence_is mount h.0 h.1 in
    omega arith

pub refused : (mount : State) (change : Change) (found : Option ChangeFault) (fault : ChangeFault) → IsRefusal mount change found → found ≡ Some fault
    → Refuses mount change fault
refused mount change found fault is some world h = answer-refused world change fault (sym (is world h) ∙ some)

-- the position after a change that nothing refuses is the one that it is answered with
pub answered : {mount next : State} (change : Change) (position : Position) → IsRefusal mount change None
    → Follows mount change next → ((world : WorldState) → StandsFor next world → position ≡ position_of (now world))
    → (world : WorldState) → StandsFor mount world → row_answer world change ≡ answer_at (commits_of world) (now world) change position
answered change position judged follows at world h =
    answer-allowed world change (sym (judged world h))
    ∙ ap (answer_at (commits_of world) (now world) change) (sym (at (row_after world change) (follows world h)))

-- a mount that follows is still the present of some world
pub still_present : {inside mount next : State} (change : Change) → inside ≡ mount → IsPresent inside → Follows mount change next → IsPresent next
still_present change view h follows =
    (row_after h.0 change, follows h.0 (subst (λ m. StandsFor m h.0) view h.1))

-- ---- steps

-- a mount after a change: the objects are the same, the rest is what the change makes of it
pub record IsMade (mount : State) (world : WorldState) (change : Change) (next : State) : Type 0 where
  pub stood : StandsFor mount world
  pub allowed : refusal (commits_of world) (now world) change ≡ None
  pub happens : is_event change ≡ true
  pub text : IsChange change
  pub held : next.held ≡ mount.held
  pub fits : FitsIn next.held next.work
  pub root : next.work.root ≡ next_root (now world) change
  pub files : files_of next ≡ next_files (commits_of world) (now world) change
  pub log : journal.StandsFor next.log (history_of (grown world change))

pub made_stands : (mount : State) (world : WorldState) (change : Change) (next : State) → IsMade mount world change next → StandsFor next (row_after world change)
made_stands mount world change next h =
    subst (StandsFor next) (sym (after-event world change h.allowed h.happens)) (record {
      held = h.held ∙ h.stood.held;
      fits = h.fits;
      root = h.root ∙ sym (root-made (commits_of world) (now world) change);
      files = h.files ∙ sym (next_row_files (commits_of world) (now world) change);
      log = h.log;
      is_world = grown_world world change h.allowed h.happens h.stood.is_world;
      spellable = spellable_grows world (event_of world change) h.stood.spellable h.text;
    })

-- the journal after an event that it records
pub log_recorded : (world : WorldState) (change : Change) (log : journal.Log) (what : Delta) → starts change ≡ false
    → what ≡ delta_of (now world) (event_of world change)
    → journal.StandsFor log (recorded (history_of world) (next_root (now world) change) what) → journal.StandsFor log (history_of (grown world change))
log_recorded world change log what e is h =
    subst (journal.StandsFor log)
    ((λ i. recorded (history_of world) (sym (root-made (commits_of world) (now world) change) i) (is i))
    ∙ sym (history-recorded world change e (generation-kept (commits_of world) (now world) change e)))
    h
