use Rattle.std.proofs.Common.{◌≡◌, ◌++◌}
use Rattle.std.specs.Prelude.{filter}
use Rattle.eden_globs.specs.Filters.{admits}
use Rattle.eden_ids.specs.FileMaps.{paths}
use Rattle.eden_world.proofs.reply.admitted_paths.Given as goal

-- what was admitted, with what is still admitted of the rest, is all that is
abbrev pub invariant-loop-path : goal.invariant-loop-path
invariant-loop-path l = l.list.items ++ filter (admits l.filter) l.path-iterator ≡ filter (admits l.filter) (paths l.files)
