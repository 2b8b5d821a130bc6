use Rattle.std.proofs.Common.{sym, ap, ◌∙◌}
use Rattle.std.proofs.lemmas.List.{take_all}
use Rattle.eden_script.specs.Sessions.{tree_payload}
use Rattle.eden_edend.proofs.PayloadLemmas.{payload_more, payload_missing}
use Rattle.eden_edend.proofs.objects.tree_payload.Goals as goal

pub loop-entry-preserved : goal.loop-entry-preserved
loop-entry-preserved c =
    payload_more c.args.labels.now c.args.entries.now c.loop-entry.entry-index c.entry-item.result c.loop-entry.payload.items c.push_entry.new.payload.items c.in-Some.id
    c.loop-entry.invariant c.loop-entry-test.true c.entry-item.is (sym c.in-Some.ensures) c.in_ok-push_entry-in-Some.ensures

pub returns-in-None : goal.returns-in-None
returns-in-None c =
    sym (payload_missing c.args.labels.now c.args.entries.now c.loop-entry.entry-index c.entry-item.result c.loop-entry.payload.items
    c.loop-entry.invariant c.loop-entry-test.true c.entry-item.is (sym c.get.ensures ∙ c.in-None.is))

pub returns : goal.returns
returns c =
    sym (sym (ap (tree_payload c.args.labels.now) (take_all c.loop-entry.entry-index c.args.entries.now c.loop-entry-test.false)) ∙ c.loop-entry.invariant)
