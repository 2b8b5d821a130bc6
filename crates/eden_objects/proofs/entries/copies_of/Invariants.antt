use Rattle.std.proofs.Common.{◌≡◌, ◌++◌, map}
use Rattle.eden_objects.specs.Copies.{copied}
use Rattle.eden_objects.proofs.entries.copies_of.Given as goal

abbrev pub invariant-entries : goal.invariant-entries
invariant-entries l = l.rows ≡ map copied l.found.items ++ l.entry-iterator
