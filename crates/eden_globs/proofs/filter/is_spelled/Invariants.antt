use Rattle.std.proofs.Common.{◌≡◌, false, drop}
use Rattle.eden_globs.specs.Filters.{is_spelled}
use Rattle.eden_globs.proofs.filter.is_spelled.Given as goal

abbrev pub invariant-loop-byte : goal.invariant-loop-byte
invariant-loop-byte l = is_spelled l.escaped (drop l.byte-index l.part) ≡ is_spelled false l.part
