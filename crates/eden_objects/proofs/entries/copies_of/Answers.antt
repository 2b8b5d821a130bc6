use Rattle.std.proofs.Common.{◌++◌, ◌∷◌, [], ◌∙◌, List, sym, ap, map, append_assoc}
use Rattle.eden_git.specs.Entries.{plain}
use Rattle.eden_git.specs.Trees.{Entry}
use Rattle.eden_objects.specs.Copies.{copied}
use Rattle.eden_objects.proofs.entries.copies_of.Goals as goal

pub entries-preserved : goal.entries-preserved
entries-preserved c =
    let e : Entry = plain c.in-Some.entry in
    let done : List Entry = map copied c.entries.found.items in
    let rest : List Entry = c.next.new.self in
    c.entries.invariant ∙ ap (λ more. done ++ more) c.in-Some.ensures.steps ∙ sym (append_assoc done (e ∷ []) rest)
    ∙ ap (λ front. front ++ rest) (sym c.in_ok-push_copy.ensures)
