use Rattle.std.proofs.Common.{rules}
use Rattle.std.specs.Prelude.{replicate}
use Rattle.std.specs.Simd.Lanes.{chunk}
use Rattle.std.proofs.lemmas.Simd.{Each1-replicate, length-chunk, length-replicate}
use Rattle.eden_ids.specs.Columns.{IsOfItsWords}
use Rattle.eden_ids.proofs.ColumnLemmas.{is_of_its_words}
use Rattle.eden_lanes.proofs.Masks.{five, id_compared, no_first_word, some_of_eight}
use Rattle.eden_lanes.proofs.Words.{each_of}
use Rattle.eden_lanes.proofs.vectors.holds_some.Goals as goal

pub returns-then-first-eq0 : goal.returns-then-first-eq0
returns-then-first-eq0 c =
    let id = c.args.id in
    let ids = c.args.column.now in
    let row = c.args.row in
    no_first_word id (chunk row 8 ids) _ (length-chunk row 8 ids c.requires) (is_of_its_words id (search rules) (search rules))
    (each_of ids row 8 c.words.ensures.ids) (id_compared 0 row _ id ids _ c.word.ensures c.words.ensures.words) c.if-first-eq0.true

pub returns : goal.returns
returns c =
    let id = c.args.id in
    let ids = c.args.column.now in
    let row = c.args.row in
    let long = length-chunk row 8 ids c.requires in
    let whole : IsOfItsWords id = is_of_its_words id (search rules) (search rules) in
    some_of_eight id (chunk row 8 ids) _ long
    (five (replicate 8 id) (chunk row 8 ids) _ _ _ _ _ (length-replicate 8 id) long (Each1-replicate IsOfItsWords 8 id whole) (each_of ids row 8 c.words.ensures.ids)
    (id_compared 0 row _ id ids _ c.word.ensures c.words.ensures.words)
    (id_compared 1 row _ id ids _ c.word-2.ensures c.words-2.ensures.words)
    (id_compared 2 row _ id ids _ c.word-3.ensures c.words-3.ensures.words)
    (id_compared 3 row _ id ids _ c.word-4.ensures c.words-4.ensures.words)
    (id_compared 4 row _ id ids _ c.word-5.ensures c.words-5.ensures.words))
