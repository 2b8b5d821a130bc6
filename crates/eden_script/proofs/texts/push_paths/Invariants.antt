use Rattle.std.proofs.Common.{◌≡◌, ◌++◌, take}
use Rattle.std.specs.List.{flat_map}
use Rattle.eden_ids.specs.Fronts.{KeepsFront}
use Rattle.eden_script.specs.ToldText.{path_text}
use Rattle.eden_script.proofs.texts.push_paths.Given as goal

abbrev pub invariant-loop-path : goal.invariant-loop-path
invariant-loop-path l = (l.text.items ≡ l.initial.text.items ++ flat_map path_text (take l.path-index l.paths)) × KeepsFront l.initial.text.items l.text.items
