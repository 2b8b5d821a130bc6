use Rattle.std.proofs.Common.{rules, sym, ◌∙◌}
use Rattle.std.specs.Prelude.{◌==◌}
use Rattle.std.proofs.lemmas.Iterator.Splits.{YieldsList-from_slice_split}
use Rattle.std.proofs.lemmas.Iterator.Consumers.{YieldsList-at}
use Rattle.eden_script.proofs.WordLemmas.{words_so_far, words_of-all, words_of-missing, list_at_end, list_at_item}
use Rattle.eden_script.proofs.lines.words.Goals as goal

pub loop-part-preserved : goal.loop-part-preserved
loop-part-preserved c =
    words_so_far _ c.loop-part.yielded c.in-Some.part c.loop-part.words.items c.push.new.self.items c.in-Some-2.word c.loop-part.invariant
    (sym c.in-Some-2.is ∙ c.in_ok-word.ensures) c.in_ok-push-in-Some-2.ensures.items

pub returns-in-None-2 : goal.returns-in-None-2
returns-in-None-2 c =
    let here = list_at_item c.loop-part.yielded _ c.loop-part.yielded_by _ _ _ c.in-Some.is c.next.ensures.steps
    (YieldsList-at c.into_iter-part-iterator.ensures.into_iter_gives (YieldsList-from_slice_split _ (λ b. b == 32) c.args.line.now
    c.split-part-items.ensures.rest c.split-part-items.ensures.done c.split-part-items.ensures.closure (λ x b q k. search rules))) in
    words_of-missing c.args.line.now _ c.in-Some.part.now here.0 here.1 (sym c.in-None-2.is ∙ c.in_ok-word.ensures)

pub returns : goal.returns
returns c =
    words_of-all c.args.line.now _ _
    (list_at_end c.loop-part.yielded _ c.loop-part.yielded_by _ _ c.in-None.is c.next.ensures.steps
    (YieldsList-at c.into_iter-part-iterator.ensures.into_iter_gives (YieldsList-from_slice_split _ (λ b. b == 32) c.args.line.now
    c.split-part-items.ensures.rest c.split-part-items.ensures.done c.split-part-items.ensures.closure (λ x b q k. search rules))))
    c.loop-part.invariant
