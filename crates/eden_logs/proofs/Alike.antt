-- When `==` says that two calls are the same, or two answers: if they are one.
use Rattle.std.proofs.Common.{◌≡◌, rules}
use Rattle.std.specs.Bool.{Decides}
use Rattle.std.proofs.lemmas.Bool.Decides.{Decides-and, Decides-like}
use Rattle.eden_ids.proofs.Alike.{paths_decide}
use Rattle.eden_history.proofs.Alike.{change_decides, position_decides}
use Rattle.eden_messages.proofs.Alike.{reply_decides, request_decides}
use Rattle.eden_logs.specs.declared.call.CallAnswer.{CallAnswer}
use Rattle.eden_logs.specs.declared.call.CallAnswer.TheVariants as answer
use Rattle.eden_logs.specs.declared.call.Call.{Call}
use Rattle.eden_logs.specs.declared.call.Call.TheVariants.{Change, Ask}
use Rattle.eden_logs.specs.contracts.call.CallAnswerPartialEq.TheImpl as answers
use Rattle.eden_logs.specs.contracts.call.CallPartialEq.TheImpl as call

pub call_decides : (a b : Call) → Decides (call.ghosts.eq a b) (a ≡ b)
call_decides (Change c) (Change d) = Decides-like _ (λ (h : c ≡ d). λ i. Change (h i)) (λ e. (cc)) (change_decides c d)
call_decides (Ask q) (Ask r) = Decides-like _ (λ (h : q ≡ r). λ i. Ask (h i)) (λ e. (cc)) (request_decides q r)
call_decides a b = search rules

pub answer_decides : (a b : CallAnswer) → Decides (answers.ghosts.eq a b) (a ≡ b)
answer_decides (answer.At p) (answer.At q) = search (rules, position_decides)
answer_decides (answer.Checked p ps) (answer.Checked q qs) =
    Decides-like _ (λ (h : (p ≡ q) × (ps ≡ qs)). λ i. answer.Checked (h.0 i) (h.1 i)) (λ e. ((cc), (cc))) (Decides-and _ _ (position_decides p q) (paths_decide ps qs))
answer_decides (answer.Refused f) (answer.Refused g) = search rules
answer_decides (answer.Replied r) (answer.Replied s) = search (rules, reply_decides)
answer_decides answer.Unanswered answer.Unanswered = search rules
answer_decides a b = search rules
