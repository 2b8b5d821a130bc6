-- How a daemon ends, and what it has written by then. A script is given by what its lines print.
use Rattle.std.specs.Prelude.{◌≢◌, ◌⊎◌, ⊤, ℕ, List, [], ◌++◌, codes, decimal, Option, Result, Ok, Err}
use Rattle.std.specs.Io.KnownBytes.{Appends, Keeps}
use Rattle.eden_edend.specs.Changings.{EndsChanging}
use Rattle.eden_edend.specs.Openings.{EndsOpening}
use Rattle.eden_edend.specs.declared.opened.Opened.{Opened}
use Rattle.eden_logs.specs.declared.fault.AuditFault.{AuditFault}
use Rattle.eden_logs.specs.declared.fault.AuditFault.TheVariants.{UnknownCall, WrongReply, OutOfOrder, Twice, CountsDiffer}
use Rattle.eden_logs.specs.declared.fault.AuditFault.TheVariants as audit
use Rattle.eden_serve.specs.declared.fault.DaemonFault.{DaemonFault}
use Rattle.eden_serve.specs.declared.fault.DaemonFault.TheVariants.{Script, NoConnection, Audit}
use Rattle.eden_serve.specs.declared.listening.Listening.{Listening}
use Rattle.eden_serve.specs.declared.program.Until.{Until}
use Rattle.eden_serve.specs.declared.program.Until.TheVariants.{Connections, Input}
use Rattle.eden_script.specs.declared.label.Binding.{Binding}
use Rattle.eden_sockets.specs.declared.place.Place.{Place}
use Rattle.eden_sockets.specs.declared.place.Place.TheVariants.{Port, Socket}
use Rattle.eden_stream.specs.Torn.{Tears}
use Rattle.eden_stream.specs.declared.lines.RunFault.{RunFault}
use Rattle.eden_stream.specs.declared.lines.RunFault.TheVariants.{BadLine, Read, Write, TurnsSpent, NoMemory}

-- where connections are accepted
abbrev pub place_text : Place → List ℕ
place_text (Port port) = decimal port
place_text (Socket path) = codes "unix " ++ path.bytes

-- the line that says so
abbrev pub listening_text : Place → List ℕ
listening_text place = codes "listening " ++ place_text place ++ codes "\n"

-- the line that says what an audit found; none if it was out of memory
abbrev pub audit_text : Result ⊤ AuditFault → List ℕ
audit_text (Ok done) = codes "audit ok\n"
audit_text (Err UnknownCall) = codes "audit UnknownCall\n"
audit_text (Err WrongReply) = codes "audit WrongReply\n"
audit_text (Err OutOfOrder) = codes "audit OutOfOrder\n"
audit_text (Err Twice) = codes "audit Twice\n"
audit_text (Err CountsDiffer) = codes "audit CountsDiffer\n"
audit_text (Err audit.NoMemory) = []

-- what is written at the end: after a number of connections, what the audit found
abbrev pub last_text : Until → Result ⊤ AuditFault → List ℕ
last_text (Connections desks) found = audit_text found
last_text (Input terms) found = []

abbrev pub IsAudited : Until → Type 0
IsAudited (Connections desks) = ⊤
IsAudited (Input terms) = ⊥

-- The script has opened this at `listen`. What its lines print is written, and where connections
-- are accepted.
pub record Listens (script : List (List ℕ) → Option (List ℕ)) (place : Place) (r0 r1 w0 w1 : Option (List ℕ)) (opened : Opened) : Type 0 where
  pub printed : Option (List ℕ)
  pub opens : EndsOpening script r0 r1 w0 printed (Ok opened)
  pub announced : Appends printed w1 (listening_text place)

-- The script has opened something at `listen`. What its lines print is written, and nothing else.
pub record Opens (script : List (List ℕ) → Option (List ℕ)) (r0 r1 w0 w1 : Option (List ℕ)) : Type 0 where
  pub opened : Opened
  pub opens : EndsOpening script r0 r1 w0 w1 (Ok opened)

-- It has opened something. What its lines print is written, and some first bytes of where
-- connections are accepted.
pub record OpensTorn (script : List (List ℕ) → Option (List ℕ)) (place : Place) (r0 r1 w0 w1 : Option (List ℕ)) : Type 0 where
  pub opened : Opened
  pub printed : Option (List ℕ)
  pub opens : EndsOpening script r0 r1 w0 printed (Ok opened)
  pub torn : Tears printed w1 (listening_text place)

-- How it ended up to the first connection.
abbrev pub ListenEnds : (List (List ℕ) → Option (List ℕ)) → Place → Option (List ℕ) → Option (List ℕ) → Option (List ℕ) → Option (List ℕ) → Result Listening DaemonFault → Type 0
ListenEnds script place r0 r1 w0 w1 (Ok listening) = Listens script place r0 r1 w0 w1 listening.opened
ListenEnds script place r0 r1 w0 w1 (Err (Script (BadLine number))) = EndsOpening script r0 r1 w0 w1 (Err (BadLine number))
ListenEnds script place r0 r1 w0 w1 (Err (Script Read)) = EndsOpening script r0 r1 w0 w1 (Err Read)
ListenEnds script place r0 r1 w0 w1 (Err (Script TurnsSpent)) = EndsOpening script r0 r1 w0 w1 (Err TurnsSpent)
ListenEnds script place r0 r1 w0 w1 (Err (Script Write)) = EndsOpening script r0 r1 w0 w1 (Err Write) ⊎ OpensTorn script place r0 r1 w0 w1
ListenEnds script place r0 r1 w0 w1 (Err (Script NoMemory)) = EndsOpening script r0 r1 w0 w1 (Err NoMemory) ⊎ Opens script r0 r1 w0 w1
ListenEnds script place r0 r1 w0 w1 (Err NoConnection) = Opens script r0 r1 w0 w1
ListenEnds script place r0 r1 w0 w1 (Err (Audit found)) = ⊥

-- How an audit ended that has not found agreement, or could not print what it found.
abbrev pub AuditFails : Option (List ℕ) → Option (List ℕ) → DaemonFault → Type 0
AuditFails w0 w1 (Script Write) = (found : Result ⊤ AuditFault) × Tears w0 w1 (audit_text found)
AuditFails w0 w1 (Script NoMemory) = Keeps w0 w1
AuditFails w0 w1 (Audit found) = (found ≢ audit.NoMemory) × Appends w0 w1 (audit_text (Err found))
AuditFails w0 w1 (Script (BadLine number)) = ⊥
AuditFails w0 w1 (Script Read) = ⊥
AuditFails w0 w1 (Script TurnsSpent) = ⊥
AuditFails w0 w1 NoConnection = ⊥

-- How the lines after `listen` ended, whatever they changed: the mount is inside a lock.
abbrev pub Ran : List Binding → ℕ → Option (List ℕ) → Result ℕ RunFault → Type 0
Ran labels from input ran = (left : Option (List ℕ)) × EndsChanging {C = ⊤} (λ _ _ _. ⊤) (λ _ _ _. ⊤) labels from input left tt tt ran

-- How it ended from the first connection on. After the lines have ended, the last text is written.
abbrev pub ServingEnds : List Binding → ℕ → Until → Option (List ℕ) → Option (List ℕ) → Option (List ℕ) → Result ⊤ DaemonFault → Type 0
ServingEnds labels from until input w0 w1 (Ok done) = (number : ℕ) × Ran labels from input (Ok number) × Appends w0 w1 (last_text until (Ok tt))
ServingEnds labels from until input w0 w1 (Err (Script (BadLine number))) = Ran labels from input (Err (BadLine number)) × Appends w0 w1 (last_text until (Ok tt))
ServingEnds labels from until input w0 w1 (Err (Script Read)) = Ran labels from input (Err Read) × Appends w0 w1 (last_text until (Ok tt))
ServingEnds labels from until input w0 w1 (Err (Script TurnsSpent)) = Ran labels from input (Err TurnsSpent) × Appends w0 w1 (last_text until (Ok tt))
ServingEnds labels from until input w0 w1 (Err (Script Write)) = IsAudited until × ((found : Result ⊤ AuditFault) × Tears w0 w1 (last_text until found))
ServingEnds labels from until input w0 w1 (Err (Script NoMemory)) = Keeps w0 w1 ⊎ (Ran labels from input (Err NoMemory) × Appends w0 w1 (last_text until (Ok tt)))
ServingEnds labels from until input w0 w1 (Err NoConnection) = Keeps w0 w1
ServingEnds labels from until input w0 w1 (Err (Audit found)) = IsAudited until × (found ≢ audit.NoMemory) × Appends w0 w1 (last_text until (Err found))

-- It has listened, and then served.
pub record EndsServing (script : List (List ℕ) → Option (List ℕ)) (until : Until) (place : Place) (input w0 w1 : Option (List ℕ)) (result : Result ⊤ DaemonFault) : Type 0 where
  pub opened : Opened
  pub left : Option (List ℕ)
  pub announced : Option (List ℕ)
  pub listens : Listens script place input left w0 announced opened
  pub serves : ServingEnds opened.labels opened.line until left announced w1 result

-- It has not listened.
pub record EndsUnserved (script : List (List ℕ) → Option (List ℕ)) (place : Place) (input w0 w1 : Option (List ℕ)) (fault : DaemonFault) : Type 0 where
  pub left : Option (List ℕ)
  pub ends : ListenEnds script place input left w0 w1 (Err fault)

-- How a daemon ended.
abbrev pub DaemonEnds : (List (List ℕ) → Option (List ℕ)) → Until → Place → Option (List ℕ) → Option (List ℕ) → Option (List ℕ) → Result ⊤ DaemonFault → Type 0
DaemonEnds script until place input w0 w1 (Ok done) = EndsServing script until place input w0 w1 (Ok done)
DaemonEnds script until place input w0 w1 (Err fault) = EndsUnserved script place input w0 w1 fault ⊎ EndsServing script until place input w0 w1 (Err fault)
