-- What is known of a change that a line asks for.
use Rattle.std.specs.Prelude.{◌≡◌, ◌≤◌, ℕ, ◌+◌, [], ◌∷◌, ◌++◌}
use Rattle.eden_history.specs.declared.answer.Answer.{Answer}
use Rattle.eden_history.specs.declared.change.Change.{Change}
use Rattle.eden_logs.specs.Calls.{answer_made}
use Rattle.eden_logs.specs.declared.call.Call.TheVariants as calls
use Rattle.eden_history.specs.Worlds.{Namer, WorldState}
use Rattle.eden_shared.specs.Desks.{DeskView, noted}
use Rattle.eden_shared.specs.Gives.{IsMade}
use Rattle.eden_shared.specs.Passes.{PassView}

-- A desk made a change, and noted it with the answer.
pub record NotesChange (before : DeskView) (change : Change) (answer : Answer) (after : DeskView) : Type 0 where
  pub ticket : ℕ
  pub caller : after.caller ≡ before.caller
  pub log : after.log ≡ before.log ++ noted ticket (calls.Change change) (answer_made answer) ∷ []

-- The pass counts one change more. It was made of a state after at least those that the pass had
-- counted.
pub record CountsChange {T : Type 0} (Known : ℕ → T → Type 0) (name : Namer) (stands_for : T → WorldState → Type 0)
    (apply_gives : T → ℕ → Change → Answer → T → Type 0) (before : PassView) (change : Change) (answer : Answer) (after : PassView) : Type 0 where
  pub number : ℕ
  pub amount : after.amount ≡ before.amount + 1
  pub least : before.amount ≤ number
  pub made : IsMade Known name stands_for apply_gives 0 number change answer
