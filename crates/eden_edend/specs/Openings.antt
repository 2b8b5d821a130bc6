-- How the lines of a script end that come before `listen`.
use Rattle.std.specs.Prelude.{◌≡◌, ◌⊎◌, ℕ, List, ◌++◌, codes, Option, Some, Result, Ok, Err}
use Rattle.eden_accumulate.specs.Mounts.{StandsFor}
use Rattle.eden_history.specs.Worlds.{WorldState}
use Rattle.eden_script.specs.ScriptText.{script_text}
use Rattle.eden_script.specs.Sessions.{Session}
use Rattle.eden_stream.specs.Counts.{one_more}
use Rattle.eden_stream.specs.Ends.{CantRead, Ends, EndsAtBadLine, EndsWell}
use Rattle.eden_stream.specs.LineEnds.{StopsAtBadLine}
use Rattle.eden_stream.specs.Scripts.{in_front}
use Rattle.eden_stream.specs.declared.lines.RunFault.{RunFault}
use Rattle.eden_stream.specs.declared.lines.RunFault.TheVariants.{BadLine, Read, Write, TurnsSpent, NoMemory}
use Rattle.eden_edend.specs.declared.opened.Opened.{Opened}

-- The script has ended, and the number is that of the line after its last.
pub record EndsUnopened (script : List (List ℕ) → Option (List ℕ)) (r0 r1 w0 w1 : Option (List ℕ)) (number : ℕ) : Type 0 where
  pub count : ℕ
  pub ended : EndsWell script r0 r1 w0 w1 count
  pub number_is : number ≡ one_more count

-- The bad line is `listen`. What is opened after the good ones is their session's: any further
-- lines print over it what they print in the script.
pub record OpensAfter (script : List (List ℕ) → Option (List ℕ)) (opened : Opened) (good : List (List ℕ)) (bad text : List ℕ) : Type 0 where
  pub reads : CantRead script good bad text
  pub listens : bad ≡ codes "listen"
  pub session : Session
  pub goes_on : (more : List (List ℕ)) → script (good ++ more) ≡ in_front text (script_text session more)
  pub world : WorldState
  pub mounted : session.mounted ≡ Some world
  pub stands : StandsFor opened.mount world
  pub labels : opened.labels ≡ session.bindings

-- How it ended, by what is opened, or by the fault.
abbrev pub EndsOpening : (List (List ℕ) → Option (List ℕ)) → Option (List ℕ) → Option (List ℕ) → Option (List ℕ) → Option (List ℕ) → Result Opened RunFault → Type 0
EndsOpening script r0 r1 w0 w1 (Ok opened) = StopsAtBadLine (OpensAfter script opened) r0 r1 w0 w1 opened.line
EndsOpening script r0 r1 w0 w1 (Err (BadLine number)) = EndsAtBadLine script r0 r1 w0 w1 number ⊎ EndsUnopened script r0 r1 w0 w1 number
EndsOpening script r0 r1 w0 w1 (Err Read) = Ends script r0 r1 w0 w1 (Err Read)
EndsOpening script r0 r1 w0 w1 (Err Write) = Ends script r0 r1 w0 w1 (Err Write)
EndsOpening script r0 r1 w0 w1 (Err TurnsSpent) = Ends script r0 r1 w0 w1 (Err TurnsSpent)
EndsOpening script r0 r1 w0 w1 (Err NoMemory) = Ends script r0 r1 w0 w1 (Err NoMemory)
