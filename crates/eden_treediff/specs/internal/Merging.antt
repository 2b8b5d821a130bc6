-- One step over the rests of two directories.
use Rattle.std.specs.Prelude.{◌≡◌, List, ◌++◌, Option, Some, None}
use Rattle.eden_git.specs.Entries.{option_plain}
use Rattle.eden_git.specs.Trees.{Entry}
use Rattle.eden_treediff.specs.declared.pair.Pair.{Pair}
use Rattle.eden_treediff.specs.internal.Pairs.{Next, next_pair}

-- the rest of each side
abbrev pub Rests : Type 0
Rests = List Entry × List Entry

-- entries with which both sides begin are left out
abbrev pub IsLeftOut : Rests → Rests → Type 0
IsLeftOut old new = (front : List Entry) × (old.0 ≡ front ++ new.0) × (old.1 ≡ front ++ new.1)

abbrev pub next_of : Pair → Rests → Next
next_of pair rests = (option_plain pair.first, option_plain pair.second, rests.0, rests.1)

abbrev pub option_next : Option Pair → Rests → Option Next
option_next None rests = None
option_next (Some pair) rests = Some (next_of pair rests)

-- the next pair, and the rest after it, after some entries of both sides were left out
abbrev pub IsNextOf : Rests → Rests → Option Pair → Type 0
IsNextOf old new pair = (rests : Rests) × IsLeftOut old rests × (option_next pair new ≡ next_pair rests.0 rests.1)
