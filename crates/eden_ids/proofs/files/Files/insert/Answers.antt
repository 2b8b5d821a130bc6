use Rattle.std.proofs.Common.{◌∙◌, ap}
use Rattle.std.specs.FinMap as fin
use Rattle.eden_ids.proofs.TreeMaps.{map_of-insert}
use Rattle.eden_ids.proofs.files.Files.insert.Goals as goal

pub returns-in-Ok-clause-ok : goal.returns-in-Ok-clause-ok
returns-in-Ok-clause-ok c =
    map_of-insert c.self.inside.entries c.insert.new.self c.args.path c.args.content c.in-Ok.ensures.updates
    ∙ ap (λ files. fin.insert files c.args.path c.args.content) c.self.view_is
