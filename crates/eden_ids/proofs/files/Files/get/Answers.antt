use Rattle.std.proofs.Common.{sym, ◌∙◌, ap}
use Rattle.eden_ids.specs.FileMaps.{file_at}
use Rattle.eden_ids.proofs.TreeMaps.{get-map_of}
use Rattle.eden_ids.proofs.files.Files.get.Goals as goal

pub returns : goal.returns
returns c = c.get.ensures.value ∙ sym (get-map_of c.self.inside.entries c.args.path.now) ∙ ap (λ files. file_at files c.args.path.now) c.self.view_is
