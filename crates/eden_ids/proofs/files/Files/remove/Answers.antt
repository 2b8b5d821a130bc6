use Rattle.std.proofs.Common.{◌∙◌, ap}
use Rattle.std.specs.FinMap as fin
use Rattle.eden_ids.proofs.TreeMaps.{map_of-remove}
use Rattle.eden_ids.proofs.files.Files.remove.Goals as goal

pub returns : goal.returns
returns c =
    map_of-remove c.self.inside.entries c.remove.new.self c.args.path.now c.remove.ensures.updates
    ∙ ap (λ files. fin.remove files c.args.path.now) c.self.view_is
