use Rattle.std.proofs.Common.{rules, ◌≡◌, ◌∙◌, ◌∷◌, ◌++◌, [], Some}
use Rattle.eden_git.specs.Entries.{plain}
use Rattle.eden_git.specs.internal.Searched.{first_from}
use Rattle.eden_git.proofs.Searching.{dir_first}
use Rattle.eden_git.proofs.rows.Rows.directory.Goals as goal

pub returns-in-Some : goal.returns-in-Some
returns-in-Some c =
    let found : Some (plain c.in-Some.entry) ≡ first_from (c.args.name.now ++ 47 ∷ []) c.args.self.now = search rules in
    let dir = dir_first c.args.name.now c.args.self.now (plain c.in-Some.entry) c.requires found in
    c.directory_if_named.ensures ∙ dir
