use Rattle.std.proofs.Common.{◌∙◌, ap}
use Rattle.eden_query.specs.Raws.{patterns_of, told}
use Rattle.eden_query.proofs.Spelled.{told_spelled}
use Rattle.eden_query.proofs.answering.answer_held.Goals as goal

pub returns-in-Ok-clause-spelled : goal.returns-in-Ok-clause-spelled
returns-in-Ok-clause-spelled g c =
    told_spelled c.args.request.now (told c.args.store.now (patterns_of c.args.request.now) c.args.raw.now) c.in-Ok.reply c.request_text_law.ensures
    (c.in-Ok.ensures.reply ∙ ap (λ patterns. told c.args.store.now patterns c.args.raw.now) c.filter_of-filter.ensures)
