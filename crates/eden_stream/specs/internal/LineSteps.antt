-- What a machine says of the lines that it was given, and what the steps say that find lines.
use Rattle.std.specs.Prelude.{◌≡◌, Bool, true, ℕ, ◌<◌, ◌≤◌, ◌⊎◌, ⊤, List, [], ◌∷◌, ◌++◌, length, take, drop, Option, Some, Result, Ok, Err, slice_index}
use Rattle.std.specs.Str.Lines.{strip_carriage_return}
use Rattle.eden_stream.specs.Ends.{CantRead}
use Rattle.eden_stream.specs.Lines.{HasNoBreak, IsComment, IsSkipped, IsSpoken, IsTooLong}
use Rattle.eden_stream.specs.Scripts.{GoesOn}
use Rattle.eden_stream.specs.Stories.{Story}
use Rattle.eden_stream.specs.declared.framing.Next.{Next}
use Rattle.eden_stream.specs.declared.framing.Next.TheVariants.{Item, Skipped, Partial, Faulty}
use Rattle.eden_stream.specs.declared.lines.RunFault as fault
use Rattle.eden_stream.specs.declared.lines.RunFault.TheVariants as faults
use Rattle.eden_stream.specs.declared.pump.Stop as stop
use Rattle.eden_stream.specs.declared.pump.Stop.TheVariants as stops

-- The script can't read this item after these, and was given it last.
pub record HasRefused (refused_now : (List (List ℕ) → Option (List ℕ)) → List ℕ → Type 0) (script : List (List ℕ) → Option (List ℕ)) (items : List (List ℕ)) (item : List ℕ) : Type 0 where
  pub text : List ℕ
  pub reads : CantRead script items item text
  pub on : GoesOn (λ next. refused_now next item) script items text

-- What a machine says of the lines that it was given.
abbrev pub line_story : {M : Type 0} → (M → (List (List ℕ) → Option (List ℕ)) → Type 0) → (M → (List (List ℕ) → Option (List ℕ)) → List ℕ → Type 0) → M → M → Story ⊤
line_story stands_for refused_by before now = record {
  told = λ items text. (script : List (List ℕ) → Option (List ℕ)) → stands_for before script → GoesOn (stands_for now) script items text;
  lost = λ items text. (script : List (List ℕ) → Option (List ℕ)) → stands_for before script → script items ≡ Some text;
  refused = λ items item fault. (script : List (List ℕ) → Option (List ℕ)) → stands_for before script → HasRefused (refused_by now) script items item;
  spent = λ items item text. (script : List (List ℕ) → Option (List ℕ)) → stands_for before script → script items ≡ Some text;
}

-- the first line of the bytes, and what is left after it
abbrev pub BeginsWith : Bool → List ℕ → List ℕ → List ℕ → Type 0
BeginsWith ended held line left =
    ((raw : List ℕ) × (held ≡ raw ++ 10 ∷ left) × HasNoBreak raw × (line ≡ strip_carriage_return raw))
    ⊎ ((ended ≡ true) × HasNoBreak held × (0 < length held) × (line ≡ held) × (left ≡ []))

-- What a line asks for that is the front of `whole` bytes.
abbrev pub Judges : List ℕ → ℕ → Next ⊤ → Type 0
Judges line whole (Item place size all) = (place ≡ 0) × (size ≡ length line) × (all ≡ whole) × IsSpoken line
Judges line whole (Skipped all) = (all ≡ whole) × IsSkipped line
Judges line whole Partial = ⊥
Judges line whole (Faulty fault) = IsTooLong line

-- what is left is all that was held, or its first byte where that begins a comment
abbrev pub Shortens : List ℕ → List ℕ → Type 0
Shortens held left = (left ≡ held) ⊎ (IsComment held × (left ≡ take 1 held))

-- no line ends in the bytes, and they are too many for one whatever follows
abbrev pub IsLongUnended : List ℕ → Type 0
IsLongUnended held = HasNoBreak held × (¬ IsComment held) × (65537 < length held)

-- What is found at the front of the held bytes, and how many of them are held still.
abbrev pub FindsLine : Bool → List ℕ → List ℕ → Next ⊤ → Type 0
FindsLine ended held now (Item place size whole) = (now ≡ held) × (place ≡ 0) × (size ≤ whole) × (0 < whole) × (whole ≤ length held)
    × IsSpoken (take size held) × BeginsWith ended held (take size held) (drop whole held)
FindsLine ended held now (Skipped whole) = (now ≡ held) × (0 < whole) × (whole ≤ length held)
    × ((line : List ℕ) × IsSkipped line × BeginsWith ended held line (drop whole held))
FindsLine ended held now Partial = HasNoBreak held × Shortens held now × (ended ≡ true → now ≡ [])
FindsLine ended held now (Faulty fault) = (now ≡ held) × (((line : List ℕ) × (left : List ℕ) × IsTooLong line × BeginsWith ended held line left) ⊎ IsLongUnended held)

-- how a run ends, by the pump
abbrev pub run_as : Result ℕ (stop.Stop ⊤) → Result ℕ fault.RunFault
run_as (Ok count) = Ok count
run_as (Err (stops.Item number bad)) = Err (faults.BadLine number)
run_as (Err stops.Read) = Err faults.Read
run_as (Err stops.Write) = Err faults.Write
run_as (Err stops.TurnsSpent) = Err faults.TurnsSpent
run_as (Err stops.NoMemory) = Err faults.NoMemory

-- the first line of the bytes ends at place n
pub record BreaksAt (bytes : List ℕ) (n : ℕ) : Type 0 where
  pub within : n < length bytes
  pub found : slice_index bytes n ≡ 10
  pub before : HasNoBreak (take n bytes)
