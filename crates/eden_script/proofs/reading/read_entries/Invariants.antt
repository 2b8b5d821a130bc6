use Rattle.std.proofs.Common.{◌≡◌, length}
use Rattle.eden_script.specs.ScriptLines.{entries_of}
use Rattle.eden_script.proofs.EntryLemmas.{all_before}
use Rattle.eden_script.proofs.reading.read_entries.Given as goal

-- the entries read so far, and then those of the words that are left, are those of all the words
abbrev pub invariant-loop-words : goal.invariant-loop-words
invariant-loop-words l = all_before l.entries.items (entries_of l.words) ≡ entries_of l.fn.words

abbrev pub decreases-loop-words : goal.decreases-loop-words
decreases-loop-words l = length l.words
