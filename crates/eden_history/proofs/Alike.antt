-- When `==` says that two values are the same: where they are one.
use Rattle.std.proofs.Common.{◌≡◌, List, rules}
use Rattle.std.specs.Bool.{Decides}
use Rattle.std.specs.Cmp.Lexicographic.{pointwise, bytes_decides, pointwise_decides}
use Rattle.std.proofs.lemmas.Bool.Decides.{Decides-and, Decides-like}
use Rattle.eden_ids.proofs.Alike.{id_decides, kind_decides, paths_decide}
use Rattle.eden_objects.specs.declared.import.Object.{Object}
use Rattle.eden_objects.specs.contracts.import.ObjectPartialEq.TheImpl as object
use Rattle.eden_history.specs.declared.answer.Answer.{Answer}
use Rattle.eden_history.specs.declared.answer.Answer.TheVariants.{At, Checked, Refused}
use Rattle.eden_history.specs.declared.change.Change.{Change}
use Rattle.eden_history.specs.declared.mark.Marked.{Marked}
use Rattle.eden_history.specs.declared.position.Position.{Position}
use Rattle.eden_history.specs.contracts.answer.AnswerPartialEq.TheImpl as answer
use Rattle.eden_history.specs.contracts.change.ChangePartialEq.TheImpl as change
use Rattle.eden_history.specs.contracts.mark.MarkedPartialEq.TheImpl as marked
use Rattle.eden_history.specs.contracts.position.PositionPartialEq.TheImpl as position

pub position_decides : (a b : Position) → Decides (position.ghosts.eq a b) (a ≡ b)
position_decides a b = search (rules, id_decides)

pub marked_decides : (a b : Marked) → Decides (marked.ghosts.eq a b) (a ≡ b)
marked_decides a b = search (rules, bytes_decides)

pub marks_decide : (a b : List Marked) → Decides (pointwise marked.ghosts.eq a b) (a ≡ b)
marks_decide = pointwise_decides marked_decides

pub answer_decides : (a b : Answer) → Decides (answer.ghosts.eq a b) (a ≡ b)
answer_decides (At p) (At q) = search (rules, position_decides)
answer_decides (Checked p ps) (Checked q qs) =
    Decides-like _ (λ (h : (p ≡ q) × (ps ≡ qs)). λ i. Checked (h.0 i) (h.1 i)) (λ e. ((cc), (cc))) (Decides-and _ _ (position_decides p q) (paths_decide ps qs))
answer_decides (Refused f) (Refused g) = search rules
answer_decides a b = search rules

object_decides : (a b : Object) → Decides (object.ghosts.eq a b) (a ≡ b)
object_decides a b = search (rules, bytes_decides)

objects_decide : (a b : List Object) → Decides (pointwise object.ghosts.eq a b) (a ≡ b)
objects_decide = pointwise_decides object_decides

pub change_decides : (a b : Change) → Decides (change.ghosts.eq a b) (a ≡ b)
change_decides a b = search (rules, bytes_decides, id_decides, kind_decides, objects_decide)
