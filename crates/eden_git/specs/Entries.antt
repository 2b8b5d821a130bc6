-- The results of the readers of entries, as values of the specification.
use Rattle.std.specs.Prelude.{ℕ, List, Option, Some, None, Result, Ok, Err}
use Rattle.std.specs.Borrow.{Bor}
use Rattle.eden_git.specs.declared.entry.RawEntry.{RawEntry}
use Rattle.eden_git.specs.declared.fault.EntryFault.{EntryFault}
use Rattle.eden_git.specs.Trees.{Entry}

abbrev pub plain : RawEntry → Entry
plain e = record { name = e.name.now; kind = e.kind; id = e.id }

abbrev pub parts_of : Option (Bor (List ℕ) × Bor (List ℕ)) → Option (List ℕ × List ℕ)
parts_of None = None
parts_of (Some parts) = Some (parts.0.now, parts.1.now)

abbrev pub reading_of : Result (RawEntry × Bor (List ℕ)) EntryFault → Result (Entry × List ℕ) EntryFault
reading_of (Err fault) = Err fault
reading_of (Ok read) = Ok (plain read.0, read.1.now)

abbrev pub option_plain : Option RawEntry → Option Entry
option_plain None = None
option_plain (Some e) = Some (plain e)
