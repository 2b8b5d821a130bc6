-- Objects as items of a stream, which are put.
use Rattle.std.specs.Prelude.{◌≡◌, ◌≢◌, true, ℕ, ◌⊎◌, List, [], ◌++◌}
use Rattle.std.specs.List.{concat}
use Rattle.eden_objects.specs.Objects.{Held}
use Rattle.eden_stream.specs.Grammars.{Grammar}
use Rattle.eden_batch.specs.Batches.{HasLargeHeader, HasNoHeader, IsObject, IsPartial, LacksLineFeed, written}
use Rattle.eden_batch.specs.declared.fault.ObjectFault.{ObjectFault}
use Rattle.eden_batch.specs.declared.fault.ObjectFault.TheVariants.{BadHeader, CutShort, OtherId, Refused, TooLarge}

-- the bytes are those of an object
abbrev pub IsPrinted : List ℕ → Type 0
IsPrinted item = (object : Held) × IsObject object × (item ≡ written object)

-- the bytes begin with what can't become an object, for this cause
abbrev pub IsFaulty : List ℕ → ObjectFault → Type 0
IsFaulty bytes BadHeader = HasNoHeader bytes ⊎ LacksLineFeed bytes
IsFaulty bytes TooLarge = HasLargeHeader bytes
IsFaulty bytes CutShort = ⊥
IsFaulty bytes (Refused cause) = ⊥
IsFaulty bytes OtherId = ⊥

abbrev pub object_grammar : Grammar ObjectFault
object_grammar = record {
  cut = λ ended stream items held. stream ≡ concat items ++ held;
  item = IsPrinted;
  silent = λ item. ⊥;
  partial = λ ended held. IsPartial held × (ended ≡ true → held ≡ []);
  faulty = λ ended stream items held fault. IsFaulty held fault ⊎ ((ended ≡ true) × IsPartial held × (held ≢ []) × (fault ≡ CutShort));
}
