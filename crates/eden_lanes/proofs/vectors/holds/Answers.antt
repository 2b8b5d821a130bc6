use Rattle.std.proofs.Common.{get_or, rules, ◌∙◌}
use Rattle.eden_ids.proofs.ColumnLemmas.{is_of_its_words}
use Rattle.eden_lanes.proofs.Words.{all_five, words_tell}
use Rattle.eden_lanes.proofs.vectors.holds.Goals as goal

pub returns : goal.returns
returns c d =
    let id = c.args.id in
    let ids = c.args.column.now in
    let row = c.args.row in
    all_five (c.has_word.ensures.same d) (c.has_word-2.ensures.same d) (c.has_word-3.ensures.same d) (c.has_word-4.ensures.same d) (c.has_word-5.ensures.same d)
    ∙ words_tell id (get_or ids row d) (is_of_its_words id (search rules) (search rules)) (c.has_word.ensures.ids row d c.requires)
