use Rattle.std.proofs.Common.{sym, ◌∙◌, ap, rules}
use Rattle.std.proofs.lemmas.Iterator.Consumers.{YieldsList-from_rest}
use Rattle.std.proofs.lemmas.Iterator.Search.{any_from_yields_List}
use Rattle.std.specs.BTreeMap as tree
use Rattle.std.specs.List.{list_any}
use Rattle.eden_ids.specs.Paths.{lies_below}
use Rattle.eden_ids.specs.FileMaps.{has_file_below}
use Rattle.eden_ids.proofs.TreeMaps.{keys-map_of}
use Rattle.eden_ids.proofs.files.FilesFileTree.has_file_below.Goals as goal

pub returns : goal.returns
returns c =
    any_from_yields_List (λ p. lies_below p c.args.path.now) _ _ _ c.any.ensures.ran
    (YieldsList-from_rest (tree.keys c.self.inside.entries) c.keys.ensures.rest) (λ x b q k. search rules)
    ∙ ap (list_any (λ p. lies_below p c.args.path.now)) (sym (keys-map_of c.self.inside.entries c.keys.ensures.ordered))
    ∙ ap (λ files. has_file_below files c.args.path.now) c.self.view_is
