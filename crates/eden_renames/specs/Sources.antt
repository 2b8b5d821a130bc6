-- The answer to the question what of a commit is seen at a path.
use Rattle.std.specs.Prelude.{ℕ, List, ◌++◌, Option, Some, None}
use Rattle.eden_renames.specs.declared.source.Source.{Source}
use Rattle.eden_renames.specs.declared.source.Source.TheVariants.{Own, Nothing, Below}

-- the commit's path that is meant
abbrev pub path_meant : Source → List ℕ → Option (List ℕ)
path_meant Own path = Some path
path_meant Nothing path = None
path_meant (Below directory rest) path = Some (directory.now ++ rest.now)
