use Rattle.std.proofs.Common.{rules, ap, ◌∙◌, [], ◌∷◌, ◌++◌, append_assoc}
use Rattle.eden_git.specs.Entries.{plain}
use Rattle.eden_git.proofs.Noting.{one_more}
use Rattle.eden_git.proofs.columns.Columns.push.Goals as goal

pub returns : goal.returns
returns c = λ es so_far end.
    let old = c.args.self.now in
    let name = c.args.entry.now.name.now in
    one_more old (plain c.args.entry.now) c.args.end c.push.new.self.items c.push-2.new.self c.push-3.new.self.items c.push-4.new.self.items
    (search rules) (search rules) (search rules)
    (c.in_ok-push-4.ensures.items ∙ ap (λ names. names ++ 47 ∷ []) c.in_ok-extend_from_slice.ensures.items ∙ append_assoc old.names.items name (47 ∷ []))
    es so_far end
