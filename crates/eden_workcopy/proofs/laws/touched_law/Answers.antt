use Rattle.eden_workcopy.specs.Meanings.{base_of}
use Rattle.eden_overlay.proofs.Touched.{touched_listed, touched_present, touched_elsewhere}
use Rattle.eden_overlay.proofs.WovenRows.{layer_shown, marks_up}
use Rattle.eden_workcopy.proofs.laws.touched_law.Goals as goal

pub returns-clause-listed : goal.returns-clause-listed
returns-clause-listed c = λ work. touched_listed work.overlay

pub returns-clause-present : goal.returns-clause-present
returns-clause-present c = λ held work. touched_present (base_of held work) work.overlay

pub returns-clause-elsewhere : goal.returns-clause-elsewhere
returns-clause-elsewhere c = λ held work. touched_elsewhere (base_of held work) work.overlay

pub returns-clause-sorted : goal.returns-clause-sorted
returns-clause-sorted c = λ work. marks_up work.overlay

pub returns-clause-shown : goal.returns-clause-shown
returns-clause-shown c = λ held work. layer_shown (base_of held work) work.overlay
