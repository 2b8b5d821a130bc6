use Rattle.std.proofs.Common.{get_or, ◌∙◌}
use Rattle.eden_lanes.proofs.Words.{all_five, words_tell}
use Rattle.eden_lanes.proofs.vectors.same_row.Goals as goal

pub returns : goal.returns
returns c d =
    let a = c.args.a.now in
    let b = c.args.b.now in
    let row = c.args.row in
    all_five (c.same_word_at.ensures.same d) (c.same_word_at-2.ensures.same d) (c.same_word_at-3.ensures.same d) (c.same_word_at-4.ensures.same d) (c.same_word_at-5.ensures.same d)
    ∙ words_tell (get_or a row d) (get_or b row d) (c.same_word_at.ensures.first row d c.requires.first) (c.same_word_at.ensures.second row d c.requires.second)
