-- What the steps of the pump say, one by one.
use Rattle.std.specs.Prelude.{◌≡◌, Bool, ℕ, List, [], ◌∷◌, ◌++◌, Option}
use Rattle.std.specs.Io.KnownBytes.{Appends, Consumes, IsAtEnd}
use Rattle.eden_stream.specs.Grammars.{Grammar}
use Rattle.eden_stream.specs.Stories.{Story}
use Rattle.eden_stream.specs.Pumps.{Faults}
use Rattle.eden_stream.specs.declared.pump.Turn as turn
use Rattle.eden_stream.specs.declared.pump.Turn.TheVariants as turns
use Rattle.eden_stream.specs.declared.transfer.Received as received
use Rattle.eden_stream.specs.declared.transfer.Received.TheVariants as receives

-- What each turn says, of the bytes that are held now and of the text now, where `sent` was taken
-- from the text before.
abbrev pub TakesTurn : {E : Type 0} → Grammar E → Story E → Bool → List ℕ → List (List ℕ) → List ℕ → List ℕ → List ℕ → turn.Turn E → Type 0
TakesTurn grammar story ended stream items sent held text turns.Taken =
    (item : List ℕ) × grammar.cut ended stream (items ++ item ∷ []) held × story.told (items ++ item ∷ []) (sent ++ text)
TakesTurn grammar story ended stream items sent held text (turns.Faulty fault) =
    grammar.cut ended stream items held × Faults grammar story ended held fault stream items (sent ++ text)
TakesTurn grammar story ended stream items sent held text turns.NoMemory =
    grammar.cut ended stream items held × ((item : List ℕ) × (left : List ℕ) × grammar.cut ended stream (items ++ item ∷ []) left × story.spent items item (sent ++ text))
TakesTurn grammar story ended stream items sent held text turns.Waiting =
    grammar.cut ended stream items held × grammar.partial ended held × story.told items (sent ++ text)

-- some bytes were read, and are held after the others
abbrev pub Receives : Option (List ℕ) → Option (List ℕ) → List ℕ → List ℕ → Type 0
Receives r0 r1 held now = (got : List ℕ) × Consumes r0 r1 got × (now ≡ held ++ got)

-- What a read says, of the bytes that were held and of those that are held now.
abbrev pub HasReceived : Option (List ℕ) → Option (List ℕ) → List ℕ → List ℕ → received.Received → Type 0
HasReceived r0 r1 held now receives.More = Receives r0 r1 held now
HasReceived r0 r1 held now receives.Ended = Consumes r0 r1 [] × IsAtEnd r1 × (now ≡ held)
HasReceived r0 r1 held now receives.Failed = Consumes r0 r1 [] × (now ≡ held)
HasReceived r0 r1 held now receives.NoMemory = (got : List ℕ) × Consumes r0 r1 got

-- the front of the waiting text was written, and the rest waits still
abbrev pub Sends : Option (List ℕ) → Option (List ℕ) → List ℕ → List ℕ → Type 0
Sends w0 w1 waiting left = (sent : List ℕ) × Appends w0 w1 sent × (waiting ≡ sent ++ left)
