-- What a server says of the items that it was given, one after another.
use Rattle.std.specs.Prelude.{ℕ, List, [], ◌∷◌, ◌++◌, length, take}
use Rattle.eden_stream.specs.Grammars.{Grammar}
use Rattle.eden_stream.specs.declared.teller.Step.{Step}
use Rattle.eden_stream.specs.declared.teller.Step.TheVariants.{Told, Fault, NoMemory}

-- What can be said of a server that was given some items and answered them with a text.
pub record Story (E : Type 0) : Type 1 where
  -- it answered them so, and can go on
  pub told : List (List ℕ) → List ℕ → Type 0
  -- it answered them so, and need not be able to go on
  pub lost : List (List ℕ) → List ℕ → Type 0
  -- after these items it can't answer this one, for this fault
  pub refused : List (List ℕ) → List ℕ → E → Type 0
  -- it answered them so, and was given this item too, for which there was no memory
  pub spent : List (List ℕ) → List ℕ → List ℕ → Type 0

-- An item that asks for no answer changes nothing.
pub record IsStory {E : Type 0} (grammar : Grammar E) (story : Story E) : Type 0 where
  pub passes : (items : List (List ℕ)) (item text : List ℕ) → grammar.silent item → story.told items text → story.told (items ++ item ∷ []) text
  pub stops : (items : List (List ℕ)) (text : List ℕ) → story.told items text → story.lost items text

-- What each answer to an item says, where `sent` was taken from the text before, which grew from
-- old to new.
abbrev pub Tells : {E : Type 0} → Story E → List (List ℕ) → List ℕ → List ℕ → List ℕ → List ℕ → Step E → Type 0
Tells story items sent item old new Told = story.told (items ++ item ∷ []) (sent ++ new)
Tells story items sent item old new (Fault fault) = story.lost items (sent ++ new) × story.refused items item fault
Tells story items sent item old new NoMemory = story.spent items item (sent ++ take (length old) new)
