-- What a session of the code holds of one of the definitions, and what it makes of a line.
use Rattle.std.specs.Prelude.{◌≡◌, ◌≢◌, ℕ, List, ◌++◌, Option, Some, None, Result, Ok, Err}
use Rattle.eden_ids.specs.declared.id.Id.{Id}
use Rattle.eden_objects.specs.declared.fault.PutFault.{PutFault}
use Rattle.eden_objects.specs.declared.fault.PutFault.TheVariants.{NoMemory}
use Rattle.eden_objects.specs.Objects.{Held}
use Rattle.eden_objects.specs.Puts.{Outcome}
use Rattle.eden_history.specs.Imports.{over_held}
use Rattle.eden_history.specs.Worlds.{WorldState}
use Rattle.eden_accumulate.specs.Mounts.{State, StandsFor}
use Rattle.eden_script.specs.declared.command.Command.{Command}
use Rattle.eden_script.specs.declared.label.Binding.{Binding}
use Rattle.eden_script.specs.declared.told.Told.{Told}
use Rattle.eden_script.specs.Sessions.{Session, acted}
use Rattle.eden_script.specs.ScriptText.{script_text, told}
use Rattle.eden_edend.specs.declared.objects.Objects.{Objects}

-- the script's session with this mount, these objects and bindings
abbrev pub session_of : Option WorldState → List Held → List Binding → Session
session_of mounted held bindings = record { mounted = mounted; held = held; bindings = bindings }

abbrev pub session_at : Option WorldState → Objects → Session
session_at mounted objects = session_of mounted objects.store objects.labels

-- the session over more objects: those of its mount, once there is one
abbrev pub session_put : Option WorldState → List Held → List Held → List Binding → Session
session_put None held more bindings = session_of None more bindings
session_put (Some world) held more bindings = session_of (Some (over_held world more)) held bindings

-- What is held is that of the session: until there is a mount, its objects and bindings; then its
-- bindings, and a mount that stands for the session's world. The mount has taken the store.
abbrev pub IsSession : Option State → Objects → Session → Type 0
IsSession None objects session = session ≡ session_at None objects
IsSession (Some mount) objects session =
    (world : WorldState) × (held : List Held) × StandsFor mount world × (session ≡ session_of (Some world) held objects.labels)

-- what is held after a line is that of the session after it, and this is what the line came to
abbrev pub Acts : Option State → Objects → Command → Option State → Objects → Told → Type 0
Acts mount objects command next after outcome = (session : Session) → IsSession mount objects session
    → IsSession next after (acted session command).0 × (outcome ≡ (acted session command).1)

-- the same, and the line's text comes after the old one
abbrev pub Tells : Option State → Objects → Command → Option State → Objects → List ℕ → List ℕ → Type 0
Tells mount objects command next after old new = (session : Session) → IsSession mount objects session
    → IsSession next after (told session command).0 × (new ≡ old ++ (told session command).1)

-- a put gave its outcome; nothing is said where memory ran out
abbrev pub Gave : Result Id PutFault → List Held → List Held → Outcome → Type 0
Gave (Ok id) old new outcome = outcome ≡ Ok (id, new)
Gave (Err fault) old new outcome = fault ≢ NoMemory → (new ≡ old) × (outcome ≡ Err fault)

-- the session stands for a script: for what is printed by the lines that follow on a session of the
-- definitions
abbrev pub SessionStands : Option State → Objects → (List (List ℕ) → Option (List ℕ)) → Type 0
SessionStands mount objects script =
    (session : Session) × IsSession mount objects session × ((lines : List (List ℕ)) → script lines ≡ script_text session lines)
