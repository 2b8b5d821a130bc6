use Rattle.std.proofs.Common.{◌≡◌, ◌++◌, take}
use Rattle.std.specs.List.{flat_map}
use Rattle.eden_ids.specs.Fronts.{KeepsFront}
use Rattle.eden_script.specs.ToldText.{marked_text}
use Rattle.eden_script.proofs.texts.push_all_marked.Given as goal

abbrev pub invariant-loop-one : goal.invariant-loop-one
invariant-loop-one l = (l.text.items ≡ l.initial.text.items ++ flat_map marked_text (take l.one-index l.marked)) × KeepsFront l.initial.text.items l.text.items
