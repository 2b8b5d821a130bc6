use Rattle.std.proofs.Common.{◌≡◌, ◌||◌, ◌+◌, ◌∷◌, drop, IfOk, sym, ap, subst, ◌∙◌, arith}
use Rattle.std.proofs.lemmas.List.{drop_all, drop_more}
use Rattle.eden_ids.specs.FileMaps.{has, listing}
use Rattle.eden_ids.proofs.FileMapLemmas.{has-none}
use Rattle.eden_renames.specs.Renames.{seen_through}
use Rattle.eden_renames.proofs.Unsettling.{any_entry, entries_end, one_entry}
use Rattle.eden_renames.proofs.renames.Renames.unsettled.Goals as goal

pub loop-entry-init : goal.loop-entry-init
loop-entry-init g c = λ p.
    let files = c.args.commit.now in
    let seen = seen_through c.args.commit.now c.args.self.now in
    ap (λ t. has t p || any_entry files seen c.entries-entry-items.result.now p) c.new-table.ensures
    ∙ ap (λ b. b || any_entry files seen c.entries-entry-items.result.now p) (has-none p)
    ∙ ap (λ es. any_entry files seen es p) c.entries-entry-items.ensures

pub loop-entry-preserved : goal.loop-entry-preserved
loop-entry-preserved g c = λ p.
    let files = c.args.commit.now in
    let seen = seen_through c.args.commit.now c.args.self.now in
    let es = c.entries-entry-items.result.now in
    let at = c.loop-entry.entry-index in
    one_entry files seen c.entry-item.result (drop (at + 1) es) c.loop-entry.table c.add_entry.new.table p c.in_ok-add_entry.ensures
    ∙ ap (λ rs. has c.loop-entry.table p || any_entry files seen rs p)
    (sym (drop_more es at c.entry-item.result (omega arith) ∙ (λ i. sym c.entry-item.is i ∷ drop (at + 1) es)))
    ∙ c.loop-entry.invariant p

pub returns : goal.returns
returns g c =
    subst (λ t. IfOk c.list.result (λ list. list.items ≡ listing t))
    (entries_end c.args.commit.now c.args.self.now c.loop-entry.table c.texts_law.ensures
    (λ p. ap (λ rs. has c.loop-entry.table p || any_entry c.args.commit.now (seen_through c.args.commit.now c.args.self.now) rs p)
    (sym (drop_all c.loop-entry.entry-index c.entries-entry-items.result.now (omega arith)))
    ∙ c.loop-entry.invariant p))
    c.list.ensures
