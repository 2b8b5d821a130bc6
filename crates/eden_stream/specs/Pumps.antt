-- How a pumping of items ends: from a reader whose bytes go from r0 to r1, to a writer whose bytes
-- go from w0 to w1.
use Rattle.std.specs.Prelude.{◌≡◌, Bool, true, false, ℕ, ◌+◌, ◌⊎◌, List, [], ◌∷◌, ◌++◌, length, Option, Result, Ok, Err}
use Rattle.std.specs.Io.KnownBytes.{Appends, Consumes, IsAtEnd}
use Rattle.eden_stream.specs.Grammars.{Grammar}
use Rattle.eden_stream.specs.Stories.{Story}
use Rattle.eden_stream.specs.declared.pump.Stop as stop
use Rattle.eden_stream.specs.declared.pump.Stop.TheVariants.{Item, Read, Write, TurnsSpent, NoMemory}

-- What was read is `count` items, and `held` of a rest. What `Says` of them and their text, of
-- which `waiting` isn't written.
pub record Ran {E : Type 0} (grammar : Grammar E) (Says : List ℕ → List (List ℕ) → List ℕ → Type 0) (r0 r1 w0 w1 : Option (List ℕ))
    (ended : Bool) (count : ℕ) (held waiting : List ℕ) : Type 0 where
  pub stream : List ℕ
  pub items : List (List ℕ)
  pub sent : List ℕ
  pub read : Consumes r0 r1 stream
  pub at_end : ended ≡ true → IsAtEnd r1
  pub cut : grammar.cut ended stream items held
  pub count_is : count ≡ length items
  pub says : Says stream items (sent ++ waiting)
  pub written : Appends w0 w1 sent

-- the items were answered with the text, and the server can go on
abbrev pub Tellings : {E : Type 0} → Story E → List ℕ → List (List ℕ) → List ℕ → Type 0
Tellings story stream items text = story.told items text

-- the items were answered with the text; the server may have been given the one after them too
abbrev pub Losses : {E : Type 0} → Grammar E → Story E → Bool → List ℕ → List (List ℕ) → List ℕ → Type 0
Losses grammar story ended stream items text = story.lost items text
    ⊎ ((item : List ℕ) × (left : List ℕ) × grammar.cut ended stream (items ++ item ∷ []) left × story.spent items item text)

-- the same where no answer was refused: the server can go on, or was given the item after them too,
-- for which there was no memory
abbrev pub Halts : {E : Type 0} → Grammar E → Story E → Bool → List ℕ → List (List ℕ) → List ℕ → Type 0
Halts grammar story ended stream items text = story.told items text
    ⊎ ((item : List ℕ) × (left : List ℕ) × grammar.cut ended stream (items ++ item ∷ []) left × story.spent items item text)

-- the items were answered with the text; after them the bytes are faulty, or begin with an item
-- that the server refuses
abbrev pub Faults : {E : Type 0} → Grammar E → Story E → Bool → List ℕ → E → List ℕ → List (List ℕ) → List ℕ → Type 0
Faults grammar story ended held fault stream items text = (story.told items text × grammar.faulty ended stream items held fault)
    ⊎ (story.lost items text × ((item : List ℕ) × (left : List ℕ) × grammar.cut ended stream (items ++ item ∷ []) left × story.refused items item fault))

-- How the pumping ended, by its result.
abbrev pub Ends : {E : Type 0} → Grammar E → Story E → Option (List ℕ) → Option (List ℕ) → Option (List ℕ) → Option (List ℕ) → Result ℕ (stop.Stop E) → Type 0
Ends grammar story r0 r1 w0 w1 (Ok count) = (held : List ℕ) × grammar.partial true held × Ran grammar (Tellings story) r0 r1 w0 w1 true count held []
Ends grammar story r0 r1 w0 w1 (Err (Item number fault)) = (ended : Bool) × (count : ℕ) × (held : List ℕ) × (number ≡ count + 1)
    × Ran grammar (Faults grammar story ended held fault) r0 r1 w0 w1 ended count held []
Ends grammar story r0 r1 w0 w1 (Err Read) = (count : ℕ) × (held : List ℕ) × grammar.partial false held × Ran grammar (Tellings story) r0 r1 w0 w1 false count held []
Ends grammar story r0 r1 w0 w1 (Err TurnsSpent) = (count : ℕ) × (held : List ℕ) × grammar.partial false held × Ran grammar (Tellings story) r0 r1 w0 w1 false count held []
Ends grammar story r0 r1 w0 w1 (Err NoMemory) = (ended : Bool) × (count : ℕ) × (held : List ℕ) × Ran grammar (Halts grammar story ended) r0 r1 w0 w1 ended count held []
Ends grammar story r0 r1 w0 w1 (Err Write) = (ended : Bool) × (count : ℕ) × (held : List ℕ) × (waiting : List ℕ) × Ran grammar (Losses grammar story ended) r0 r1 w0 w1 ended count held waiting
