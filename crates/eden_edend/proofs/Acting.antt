-- What a line makes of what is held, by what the line does.
use Rattle.std.proofs.Common.{◌≡◌, ℕ, Bool, true, false, List, ◌++◌, Option, Some, None, Result, Ok, Err, is_some, refl, sym, ap, subst, ◌∙◌}
use Rattle.std.specs.Prelude.{IfOk}
use Rattle.eden_ids.specs.declared.id.Id.{Id}
use Rattle.eden_ids.specs.declared.memory.NoMemory.{NoMemory}
use Rattle.eden_ids.specs.FileMaps.{FileMap}
use Rattle.eden_ids.specs.Naming.{git_name}
use Rattle.eden_objects.specs.declared.import.Object.{Object}
use Rattle.eden_objects.specs.Imports as imports
use Rattle.eden_objects.specs.Objects.{Held}
use Rattle.eden_objects.specs.Commits.{commit_map, commit_rows}
use Rattle.eden_objects.specs.Files.{commit_files, files_of}
use Rattle.eden_history.specs.declared.answer.Answer.{Answer}
use Rattle.eden_history.specs.declared.answer.Answer.TheVariants.{At}
use Rattle.eden_history.specs.declared.change.Change.{Change}
use Rattle.eden_history.specs.declared.change.ChangeFault.TheVariants.{NoCommit}
use Rattle.eden_history.specs.declared.position.Position.{Position}
use Rattle.eden_history.specs.Imports.{over_held}
use Rattle.eden_history.specs.Worlds.{WorldState, now, opened, position_of}
use Rattle.eden_history.specs.Outcome.{commit_fault, world_after}
use Rattle.eden_history.proofs.Committed.{commit_gone, commit_mapped}
use Rattle.eden_accumulate.specs.Mounts.{Answers, Follows, State, StandsFor}
use Rattle.eden_script.specs.declared.command.Command.{Command}
use Rattle.eden_script.specs.declared.command.Command.TheVariants as line
use Rattle.eden_script.specs.declared.command.PutLine.{PutLine}
use Rattle.eden_script.specs.declared.command.MountLine.{MountLine}
use Rattle.eden_script.specs.declared.command.ChangeLine.{ChangeLine}
use Rattle.eden_script.specs.declared.command.AskLine.{AskLine}
use Rattle.eden_script.specs.declared.told.Refusal.{Refusal}
use Rattle.eden_script.specs.declared.told.Refusal.TheVariants as refusal
use Rattle.eden_script.specs.declared.told.Told.{Told}
use Rattle.eden_script.specs.declared.told.Told.TheVariants as outcome
use Rattle.eden_script.specs.Labels.{bound}
use Rattle.eden_script.specs.Sessions.{Acted, Session, acted, asked, change_of, changed, id_told, mounted_at, mounted_by, object_of, objects_of, put_acted, put_label, tried}
use Rattle.eden_script.specs.ScriptText.{told}
use Rattle.eden_script.specs.ToldText.{told_text}
use Rattle.eden_edend.specs.declared.objects.Objects.{Objects}
use Rattle.eden_edend.specs.internal.Standing.{Acts, IsSession, Tells, session_at, session_of}

not_false : ◌≡◌ {A = Bool} true false → ⊥
not_false e = cc

not_some : {A : Type 0} (a : A) → Some a ≡ None → ⊥
not_some a e = cc

-- a line's step is this one
abbrev IsStep : Option State → Objects → Told → Acted → Type 0
IsStep next after outcome step = IsSession next after step.0 × (outcome ≡ step.1)

abbrev Makes : Option State → Objects → Told → Command → Session → Type 0
Makes next after outcome command session = IsStep next after outcome (acted session command)

-- where there is no mount
unmounted : (objects : Objects) (command : Command) (next : Option State) (after : Objects) (outcome : Told)
    → IsStep next after outcome (acted (session_at None objects) command) → Acts None objects command next after outcome
unmounted objects command next after outcome step session is = subst (Makes next after outcome command) (sym is) step

-- where there is one
mounted : (mount : State) (objects : Objects) (command : Command) (next : Option State) (after : Objects) (outcome : Told)
    → ((world : WorldState) (held : List Held) → StandsFor mount world → IsStep next after outcome (acted (session_of (Some world) held objects.labels) command))
    → Acts (Some mount) objects command next after outcome
mounted mount objects command next after outcome step session is =
    subst (Makes next after outcome command) (sym is.3) (step is.0 is.1 is.2)

pub id_acts : (mount : Option State) (objects : Objects) (label : List ℕ) → Acts mount objects (line.Id label) mount objects (id_told (bound objects.labels label))
id_acts None objects label = unmounted objects (line.Id label) None objects _ (refl, refl)
id_acts (Some mount) objects label = mounted mount objects (line.Id label) (Some mount) objects _ (λ world held h. ((world, held, h, refl), refl))

-- ---- objects

unbound_step : (next : Option State) (after : Objects) (session : Session) (label : List ℕ) (found : Option Object) → IsSession next after session → found ≡ None
    → IsStep next after (outcome.Refused refusal.NoLabel) (tried session label found)
unbound_step next after session label None is none = (is, refl)
unbound_step next after session label (Some object) is none = cc none

pub put_unbound : (mount : Option State) (objects : Objects) (put : PutLine) → object_of objects.labels put ≡ None
    → Acts mount objects (line.Put put) mount objects (outcome.Refused refusal.NoLabel)
put_unbound None objects put none =
    unmounted objects (line.Put put) None objects _ (unbound_step None objects (session_at None objects) (put_label put) (object_of objects.labels put) refl none)
put_unbound (Some mount) objects put none =
    mounted mount objects (line.Put put) (Some mount) objects _ (λ world held h.
    unbound_step (Some mount) objects (session_of (Some world) held objects.labels) (put_label put) (object_of objects.labels put) (world, held, h, refl) none)

-- a put that was tried
put_step : (next : Option State) (after : Objects) (session to : Session) (label : List ℕ) (found : Option Object) (object : Object) (came : Told) → found ≡ Some object
    → put_acted session label (imports.put_of git_name object (objects_of session)) ≡ (to, came) → IsSession next after to
    → IsStep next after came (tried session label found)
put_step next after session to label found object came there step is =
    subst (λ o. IsStep next after came (tried session label o)) (sym there)
    (subst (IsSession next after) (sym (ap (λ (s : Acted). s.0) step)) is, sym (ap (λ (s : Acted). s.1) step))

-- before there is a mount
put_early : (mount : Option State) (objects after : Objects) (put : PutLine) (object : Object) (came : Told) → mount ≡ None → object_of objects.labels put ≡ Some object
    → put_acted (session_at None objects) (put_label put) (imports.put_of git_name object objects.store) ≡ (session_at None after, came)
    → Acts mount objects (line.Put put) mount after came
put_early (Some mount) objects after put object came e there step = absurd (not_some mount e)
put_early None objects after put object came e there step =
    unmounted objects (line.Put put) None after came
    (put_step None after (session_at None objects) (session_at None after) (put_label put) (object_of objects.labels put) object came there step refl)

pub put_told_early : (mount : Option State) (objects after : Objects) (put : PutLine) (object : Object) (result : Result Told NoMemory) → mount ≡ None
    → object_of objects.labels put ≡ Some object
    → IfOk result (λ came. put_acted (session_at None objects) (put_label put) (imports.put_of git_name object objects.store) ≡ (session_at None after, came))
    → IfOk result (λ came. Acts mount objects (line.Put put) mount after came)
put_told_early mount objects after put object (Ok came) e bound step = put_early mount objects after put object came e bound step
put_told_early mount objects after put object (Err none) e bound step = tt

-- and once there is one: its objects grow
put_late : (mount : Option State) (there next : State) (objects after : Objects) (put : PutLine) (object : Object) (came : Told) → mount ≡ Some there
    → object_of objects.labels put ≡ Some object → ((world : WorldState) → StandsFor there world → StandsFor next (over_held world next.held))
    → ((world : WorldState) (held : List Held) → StandsFor there world
    → put_acted (session_of (Some world) held objects.labels) (put_label put) (imports.put_of git_name object world.held)
    ≡ (session_of (Some (over_held world next.held)) held after.labels, came))
    → Acts mount objects (line.Put put) (Some next) after came
put_late None there next objects after put object came e bound stands step = cc
put_late (Some mount) there next objects after put object came e bound stands step =
    let same : mount ≡ there = cc in
    mounted mount objects (line.Put put) (Some next) after came (λ world held h.
    let stood = subst (λ (m : State). StandsFor m world) same h in
    put_step (Some next) after (session_of (Some world) held objects.labels) (session_of (Some (over_held world next.held)) held after.labels) (put_label put)
    (object_of objects.labels put) object came bound (step world held stood) (over_held world next.held, held, stands world stood, refl))

pub put_told_late : (mount : Option State) (there next : State) (objects after : Objects) (put : PutLine) (object : Object) (result : Result Told NoMemory) → mount ≡ Some there
    → object_of objects.labels put ≡ Some object → ((world : WorldState) → StandsFor there world → StandsFor next (over_held world next.held))
    → ((world : WorldState) (held : List Held) → StandsFor there world → IfOk result (λ came.
    put_acted (session_of (Some world) held objects.labels) (put_label put) (imports.put_of git_name object world.held)
    ≡ (session_of (Some (over_held world next.held)) held after.labels, came)))
    → IfOk result (λ came. Acts mount objects (line.Put put) (Some next) after came)
put_told_late mount there next objects after put object (Ok came) e bound stands step = put_late mount there next objects after put object came e bound stands step
put_told_late mount there next objects after put object (Err none) e bound stands step = tt

-- ---- mounting

pub mount_late : (mount : Option State) (objects : Objects) (wanted : MountLine) → is_some mount ≡ true
    → Acts mount objects (line.Mount wanted) mount objects (outcome.Refused refusal.Mounted)
mount_late None objects wanted e = cc
mount_late (Some mount) objects wanted e = mounted mount objects (line.Mount wanted) (Some mount) objects _ (λ world held h. ((world, held, h, refl), refl))

pub label_unbound : (mount : Option State) (objects : Objects) (wanted : MountLine) → is_some mount ≡ false → bound objects.labels wanted.label ≡ None
    → Acts mount objects (line.Mount wanted) mount objects (outcome.Refused refusal.NoLabel)
label_unbound (Some mount) objects wanted e none = absurd (not_false e)
label_unbound None objects wanted e none =
    unmounted objects (line.Mount wanted) None objects _
    (subst (λ found. IsStep None objects (outcome.Refused refusal.NoLabel) (mounted_by (session_at None objects) wanted found)) (sym none) (refl, refl))

none_by : (found : Option FileMap) → Some NoCommit ≡ commit_fault found → found ≡ None
none_by None e = refl
none_by (Some files) e = cc

-- an object that is no commit can't be mounted
pub commit_absent : (mount : Option State) (objects : Objects) (wanted : MountLine) (root : Id) → is_some mount ≡ false → bound objects.labels wanted.label ≡ Some root
    → is_some (commit_rows objects.store root) ≡ false → Acts mount objects (line.Mount wanted) mount objects (outcome.Refused refusal.NoCommit)
commit_absent (Some mount) objects wanted root e some gone = absurd (not_false e)
commit_absent None objects wanted root e some gone =
    unmounted objects (line.Mount wanted) None objects _
    (subst (λ found. IsStep None objects (outcome.Refused refusal.NoCommit) (mounted_by (session_at None objects) wanted found)) (sym some)
    (subst (λ files. IsStep None objects (outcome.Refused refusal.NoCommit) (mounted_at (session_at None objects) wanted root files))
    (sym (none_by (commit_map objects.store root) (commit_gone objects.store root gone))) (refl, refl)))

opens : (mount : State) (objects after : Objects) (wanted : MountLine) (root : Id) (position : Position) (files : FileMap)
    → StandsFor mount (opened objects.store wanted.generation wanted.limit root files)
    → position ≡ position_of (now (opened objects.store wanted.generation wanted.limit root files)) → after.labels ≡ objects.labels
    → IsStep (Some mount) after (outcome.Answer (At position)) (mounted_at (session_at None objects) wanted root (Some files))
opens mount objects after wanted root position files stands at same = (
  (opened objects.store wanted.generation wanted.limit root files, objects.store, stands, ap (λ b. session_of (Some (opened objects.store wanted.generation wanted.limit root files)) objects.store b) (sym same)),
  ap (λ (p : Position). outcome.Answer (At p)) at,
)

opened_by : (mount : State) (objects after : Objects) (wanted : MountLine) (root : Id) (position : Position) (found : Option FileMap) → is_some found ≡ true
    → StandsFor mount (opened objects.store wanted.generation wanted.limit root (files_of found))
    → position ≡ position_of (now (opened objects.store wanted.generation wanted.limit root (files_of found))) → after.labels ≡ objects.labels
    → IsStep (Some mount) after (outcome.Answer (At position)) (mounted_at (session_at None objects) wanted root found)
opened_by mount objects after wanted root position None there stands at same = cc
opened_by mount objects after wanted root position (Some files) there stands at same = opens mount objects after wanted root position files stands at same

-- a commit is mounted
pub commit_mounts : (before : Option State) (mount : State) (objects after : Objects) (wanted : MountLine) (root : Id) (position : Position) → is_some before ≡ false
    → bound objects.labels wanted.label ≡ Some root → is_some (commit_rows objects.store root) ≡ true
    → StandsFor mount (opened objects.store wanted.generation wanted.limit root (commit_files objects.store root))
    → position ≡ position_of (now (opened objects.store wanted.generation wanted.limit root (commit_files objects.store root))) → after.labels ≡ objects.labels
    → Acts before objects (line.Mount wanted) (Some mount) after (outcome.Answer (At position))
commit_mounts (Some before) mount objects after wanted root position e some there stands at same = absurd (not_false e)
commit_mounts None mount objects after wanted root position e some there stands at same =
    unmounted objects (line.Mount wanted) (Some mount) after _
    (subst (λ found. IsStep (Some mount) after (outcome.Answer (At position)) (mounted_by (session_at None objects) wanted found)) (sym some)
    (opened_by mount objects after wanted root position (commit_map objects.store root) (commit_mapped objects.store root there) stands at same))

-- ---- changes

pub change_early : (mount : Option State) (objects : Objects) (change : ChangeLine) → mount ≡ None
    → Acts mount objects (line.Change change) mount objects (outcome.Refused refusal.NotMounted)
change_early (Some mount) objects change e = absurd (not_some mount e)
change_early None objects change e = unmounted objects (line.Change change) None objects _ (refl, refl)

pub change_refused : (mount : Option State) (there : State) (objects : Objects) (change : ChangeLine) (cause : Refusal) → mount ≡ Some there
    → Err cause ≡ change_of objects.labels change → Acts mount objects (line.Change change) (Some there) objects (outcome.Refused cause)
change_refused None there objects change cause e refused = cc
change_refused (Some mount) there objects change cause e refused =
    let same : mount ≡ there = cc in
    mounted mount objects (line.Change change) (Some there) objects _ (λ world held h.
    subst (λ read. IsStep (Some there) objects (outcome.Refused cause) (changed (session_of (Some world) held objects.labels) world read)) refused
    ((world, held, subst (λ (m : State). StandsFor m world) same h, refl), refl))

pub change_made : (mount : Option State) (there after : State) (objects : Objects) (wanted : ChangeLine) (change : Change) (answer : Answer) → mount ≡ Some there
    → Ok change ≡ change_of objects.labels wanted → Answers git_name there change answer → Follows git_name there change after
    → Acts mount objects (line.Change wanted) (Some after) objects (outcome.Answer answer)
change_made None there after objects wanted change answer e read answers follows = cc
change_made (Some mount) there after objects wanted change answer e read answers follows =
    let same : mount ≡ there = cc in
    mounted mount objects (line.Change wanted) (Some after) objects _ (λ world held h.
    let stood = subst (λ (m : State). StandsFor m world) same h in
    subst (λ r. IsStep (Some after) objects (outcome.Answer answer) (changed (session_of (Some world) held objects.labels) world r)) read
    ((world_after git_name world change, held, follows world stood, refl), ap (λ (a : Answer). outcome.Answer a) (sym (answers world stood))))

-- ---- questions

pub ask_early : (mount : Option State) (objects : Objects) (question : AskLine) → mount ≡ None
    → Acts mount objects (line.Ask question) mount objects (outcome.Refused refusal.NotMounted)
ask_early (Some mount) objects question e = absurd (not_some mount e)
ask_early None objects question e = unmounted objects (line.Ask question) None objects _ (refl, refl)

pub ask_acts : (mount : Option State) (there : State) (objects : Objects) (question : AskLine) (came : Told) → mount ≡ Some there
    → ((world : WorldState) → StandsFor there world → came ≡ asked world question) → Acts mount objects (line.Ask question) mount objects came
ask_acts None there objects question came e answers = cc
ask_acts (Some mount) there objects question came e answers =
    let same : mount ≡ there = cc in
    mounted mount objects (line.Ask question) (Some mount) objects came (λ world held h.
    ((world, held, h, refl), answers world (subst (λ (m : State). StandsFor m world) same h)))

-- ---- what is printed

labels_of : (next : Option State) (after : Objects) (session : Session) → IsSession next after session → after.labels ≡ session.bindings
labels_of None after session is = sym (ap (λ (s : Session). s.bindings) is)
labels_of (Some mount) after session is = sym (ap (λ (s : Session). s.bindings) is.3)

-- a line says what it came to by the labels after it
pub tells : (mount : Option State) (objects : Objects) (command wanted : Command) (next : Option State) (after : Objects) (came : Told) (old new : List ℕ)
    → command ≡ wanted → Acts mount objects wanted next after came → new ≡ old ++ told_text after.labels came → Tells mount objects command next after old new
unfolding told
tells mount objects command wanted next after came old new is acts printed session stands =
    let step = subst (λ (k : Command). Makes next after came k session) (sym is) (acts session stands) in
    (step.0, printed ∙ (λ i. old ++ told_text (labels_of next after (acted session command).0 step.0 i) (step.1 i)))
