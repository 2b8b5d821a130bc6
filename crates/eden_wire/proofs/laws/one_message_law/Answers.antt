use Rattle.eden_wire.proofs.BodyLaws.{same_request, same_reply, request_is_no_reply}
use Rattle.eden_wire.proofs.laws.one_message_law.Goals as goal

pub returns-clause-requests : goal.returns-clause-requests
returns-clause-requests c = same_request

pub returns-clause-replies : goal.returns-clause-replies
returns-clause-replies c = same_reply

pub returns-clause-either : goal.returns-clause-either
returns-clause-either c = request_is_no_reply
