-- How the parts of a daemon's run make the whole.
use Rattle.std.proofs.Common.{◌≡◌, ℕ, List, [], Option, Result, Ok, Err, refl, subst, inl, inr}
use Rattle.std.specs.Prelude.{⊤}
use Rattle.std.proofs.KnownBytes.{Appends-nil, Consumes-nil, Keeps-refl}
use Rattle.std.specs.Io.KnownBytes.{Appends, Keeps}
use Rattle.eden_edend.specs.Openings.{EndsOpening}
use Rattle.eden_edend.specs.declared.opened.Opened.{Opened}
use Rattle.eden_stream.specs.Torn.{Tears}
use Rattle.eden_serve.specs.Endings.{AuditFails, DaemonEnds, EndsServing, ListenEnds, Listens, Ran, ServingEnds, audit_text, last_text, listening_text}
use Rattle.eden_logs.specs.declared.fault.AuditFault.{AuditFault}
use Rattle.eden_serve.specs.declared.fault.DaemonFault.{DaemonFault}
use Rattle.eden_serve.specs.declared.fault.DaemonFault.TheVariants.{Script, NoConnection, Audit}
use Rattle.eden_serve.specs.declared.program.Until.{Until}
use Rattle.eden_serve.specs.declared.program.Desks.{Desks}
use Rattle.eden_serve.specs.declared.program.Until.TheVariants.{Connections}
use Rattle.eden_script.specs.declared.label.Binding.{Binding}
use Rattle.eden_sockets.specs.declared.place.Place.{Place}
use Rattle.eden_script.specs.ScriptText.{script_text}
use Rattle.eden_script.specs.Sessions.{Session}
use Rattle.eden_stream.specs.declared.lines.RunFault.{RunFault}
use Rattle.eden_stream.specs.declared.lines.RunFault.TheVariants.{BadLine, Read, Write, TurnsSpent, NoMemory}

module _ (script : List (List ℕ) → Option (List ℕ)) (place : Place) (r0 r1 w0 w1 : Option (List ℕ)) where
  -- the lines before `listen` have opened nothing
  pub unopened : (fault : RunFault) → EndsOpening script r0 r1 w0 w1 (Err fault) → ListenEnds script place r0 r1 w0 w1 (Err (Script fault))
  unopened (BadLine number) ends = ends
  unopened Read ends = ends
  unopened TurnsSpent ends = ends
  unopened Write ends = inl ends
  unopened NoMemory ends = inl ends

  -- they have opened something, and the place is not announced
  pub unannounced : (opened : Opened) → EndsOpening script r0 r1 w0 w1 (Ok opened) → ListenEnds script place r0 r1 w0 w1 (Err (Script NoMemory))
  unannounced opened opens = inr (record { opened = opened; opens = opens })

  -- or a part of the announcement is written
  pub part_announced : (opened : Opened) (printed : Option (List ℕ)) (text : List ℕ) → EndsOpening script r0 r1 w0 printed (Ok opened) → text ≡ listening_text place
      → Tears printed w1 text → ListenEnds script place r0 r1 w0 w1 (Err (Script Write))
  part_announced opened printed text opens text_is torn =
      inr (record { opened = opened; printed = printed; opens = opens; torn = subst (Tears printed w1) text_is torn })

module _ (labels : List Binding) (from : ℕ) (until : Until) (input w0 w1 : Option (List ℕ)) where
  -- the lines after `listen` have ended so, and all is written
  pub lines_ended : (fault : RunFault) → Ran labels from input (Err fault) → Appends w0 w1 (last_text until (Ok tt)) → ServingEnds labels from until input w0 w1 (Err (Script fault))
  lines_ended (BadLine number) ran written = (ran, written)
  lines_ended Read ran written = (ran, written)
  lines_ended TurnsSpent ran written = (ran, written)
  lines_ended Write ran written = absurd ran.1
  lines_ended NoMemory ran written = inr (ran, written)

  pub all_ended : (number : ℕ) → Ran labels from input (Ok number) → Appends w0 w1 (last_text until (Ok tt)) → ServingEnds labels from until input w0 w1 (Ok tt)
  all_ended number ran written = (number, ran, written)

-- an audit that has failed
pub audit_failed : (labels : List Binding) (from : ℕ) (desks : Desks) (input w0 w1 : Option (List ℕ)) (fault : DaemonFault) → AuditFails w0 w1 fault
    → ServingEnds labels from (Connections desks) input w0 w1 (Err fault)
audit_failed labels from desks input w0 w1 (Script Write) failed = (tt, failed)
audit_failed labels from desks input w0 w1 (Script NoMemory) failed = inl failed
audit_failed labels from desks input w0 w1 (Audit found) failed = (tt, failed.0, failed.1)
audit_failed labels from desks input w0 w1 (Script (BadLine number)) failed = absurd failed
audit_failed labels from desks input w0 w1 (Script Read) failed = absurd failed
audit_failed labels from desks input w0 w1 (Script TurnsSpent) failed = absurd failed
audit_failed labels from desks input w0 w1 NoConnection failed = absurd failed

module _ (labels : List Binding) (from : ℕ) (until : Until) (input w : Option (List ℕ)) where
  pub no_connection : ServingEnds labels from until input w w (Err NoConnection)
  no_connection = Keeps-refl w

  pub no_memory : ServingEnds labels from until input w w (Err (Script NoMemory))
  no_memory = inl (Keeps-refl w)

pub kept : (w : Option (List ℕ)) → Keeps w w
kept = Keeps-refl

-- what the audit found could not be written
pub ok_torn : (w0 w1 : Option (List ℕ)) → Tears w0 w1 (audit_text (Ok tt)) → AuditFails w0 w1 (Script Write)
ok_torn w0 w1 torn = (Ok tt, torn)

pub fault_torn : (found : AuditFault) (text : List ℕ) (w0 w1 : Option (List ℕ)) → text ≡ audit_text (Err found) → Tears w0 w1 text → AuditFails w0 w1 (Script Write)
fault_torn found text w0 w1 text_is torn = (Err found, subst (Tears w0 w1) text_is torn)

module _ (script : List (List ℕ) → Option (List ℕ)) (until : Until) (place : Place) (input w0 w1 : Option (List ℕ)) where
  pub serving : (opened : Opened) (left announced : Option (List ℕ)) (result : Result ⊤ DaemonFault) → Listens script place input left w0 announced opened
      → ServingEnds opened.labels opened.line until left announced w1 result → EndsServing script until place input w0 w1 result
  serving opened left announced result listens serves =
      record { opened = opened; left = left; announced = announced; listens = listens; serves = serves }

  pub unserved : (left : Option (List ℕ)) (fault : DaemonFault) → ListenEnds script place input left w0 w1 (Err fault) → DaemonEnds script until place input w0 w1 (Err fault)
  unserved left fault ends = inl (record { left = left; ends = ends })

  pub served : (result : Result ⊤ DaemonFault) → EndsServing script until place input w0 w1 result → DaemonEnds script until place input w0 w1 result
  served (Ok done) ends = ends
  served (Err fault) ends = inr ends

-- no line was run
pub nothing_run : (session : Session) (until : Until) (place : Place) (input w : Option (List ℕ)) → DaemonEnds (script_text session) until place input w w (Err (Script NoMemory))
unfolding script_text
nothing_run session until place input w =
    inl (record {
      left = input;
      ends = inl (record {
        stream = [];
        good = [];
        text = [];
        read = Consumes-nil input;
        first = record { front = []; rest = []; split = refl; first_are = refl; ended = inl (inl refl) };
        says = refl;
        written = Appends-nil w;
      });
    })
