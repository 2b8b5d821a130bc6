-- What is printed of an audit and of the followers.
use Rattle.std.specs.Prelude.{⊤, ℕ, Bool, if◌then◌else◌, List, ◌++◌, take, codes, Option, Result, Ok, Err}
use Rattle.std.specs.Io.KnownBytes.{Appends}
use Rattle.eden_logs.specs.declared.fault.AuditFault.{AuditFault}
use Rattle.eden_logs.specs.declared.fault.AuditFault.TheVariants.{UnknownCall, WrongReply, OutOfOrder, Twice, CountsDiffer, NoMemory}

-- what an audit found, as it is printed
abbrev pub audit_name : Result ⊤ AuditFault → List ℕ
audit_name (Ok done) = codes "ok"
audit_name (Err UnknownCall) = codes "UnknownCall"
audit_name (Err WrongReply) = codes "WrongReply"
audit_name (Err OutOfOrder) = codes "OutOfOrder"
audit_name (Err Twice) = codes "Twice"
audit_name (Err CountsDiffer) = codes "CountsDiffer"
audit_name (Err NoMemory) = codes "NoMemory"

-- what the audit says, which is `ok` or the name of a fault, and whether the followers agree
abbrev pub verdict_text : List ℕ → Bool → List ℕ
verdict_text said agree =
    codes "audit " ++ (said ++ (codes "\nfollowers " ++ ((if agree then codes "agree" else codes "differ") ++ codes "\n")))

-- such a text is written
pub record Prints (old new : Option (List ℕ)) : Type 0 where
  pub said : List ℕ
  pub agree : Bool
  pub text : Appends old new (verdict_text said agree)

-- the first bytes of such a text are
pub record PrintsFront (old new : Option (List ℕ)) : Type 0 where
  pub said : List ℕ
  pub agree : Bool
  pub count : ℕ
  pub text : Appends old new (take count (verdict_text said agree))
