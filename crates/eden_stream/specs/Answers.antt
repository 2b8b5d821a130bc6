-- What a machine says to a line.
use Rattle.std.specs.Prelude.{◌≡◌, ℕ, List, ◌∷◌, ◌++◌, Option, None}
use Rattle.eden_stream.specs.Scripts.{in_front}
use Rattle.eden_stream.specs.declared.machine.Answered.{Answered}
use Rattle.eden_stream.specs.declared.machine.Answered.TheVariants.{Done, BadLine, NoMemory}

-- The script took the line: it printed some bytes, and goes on as a script that the machine stands
-- for now.
pub record TakesLine (stands_now : (List (List ℕ) → Option (List ℕ)) → Type 0) (script : List (List ℕ) → Option (List ℕ)) (line old new : List ℕ) : Type 0 where
  pub printed : List ℕ
  pub next : List (List ℕ) → Option (List ℕ)
  pub stands : stands_now next
  pub appended : new ≡ old ++ printed
  pub goes_on : (more : List (List ℕ)) → script (line ∷ more) ≡ in_front printed (next more)

-- no script that begins with the line can be read
abbrev pub RefusesLine : (List (List ℕ) → Option (List ℕ)) → List ℕ → Type 0
RefusesLine script line = (more : List (List ℕ)) → script (line ∷ more) ≡ None

-- What each answer to a line says, where the text grew from old to new.
abbrev pub AnswersLine : ((List (List ℕ) → Option (List ℕ)) → Type 0) → ((List (List ℕ) → Option (List ℕ)) → List ℕ → Type 0) → (List (List ℕ) → Option (List ℕ)) → List ℕ → List ℕ → List ℕ → Answered → Type 0
AnswersLine stands_now refused_now script line old new Done = TakesLine stands_now script line old new
AnswersLine stands_now refused_now script line old new BadLine = RefusesLine script line × (new ≡ old) × refused_now script line
AnswersLine stands_now refused_now script line old new NoMemory = (extra : List ℕ) × (new ≡ old ++ extra)
