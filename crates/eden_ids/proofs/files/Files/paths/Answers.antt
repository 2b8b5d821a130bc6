use Rattle.std.proofs.Common.{sym, ◌∙◌, ap}
use Rattle.eden_ids.specs.FileMaps.{paths}
use Rattle.eden_ids.proofs.TreeMaps.{keys-map_of}
use Rattle.eden_ids.proofs.files.Files.paths.Goals as goal

pub returns-clause-rest : goal.returns-clause-rest
returns-clause-rest c =
    c.keys-keys.ensures.rest ∙ sym (keys-map_of c.self.inside.entries c.keys-keys.ensures.ordered) ∙ ap paths c.self.view_is
