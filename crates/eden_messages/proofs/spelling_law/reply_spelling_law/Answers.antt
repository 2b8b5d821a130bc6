use Rattle.eden_messages.proofs.Replying.{reply_spelled}
use Rattle.eden_messages.proofs.spelling_law.reply_spelling_law.Goals as goal

pub returns : goal.returns
returns c = reply_spelled
