use Rattle.std.proofs.Common.{ap, sym, ◌∙◌}
use Rattle.std.specs.FinMap as fin
use Rattle.std.specs.Global.{Vec}
use Rattle.eden_renames.specs.Renames.{Entry, by_bytes}
use Rattle.eden_renames.proofs.Finding.{nothing_sorted}
use Rattle.eden_renames.proofs.renames.Renames.take_with_room.Goals as goal

pub returns-clause-taken : goal.returns-clause-taken
returns-clause-taken c =
    ap (λ (v : Vec Entry). fin.from_sorted {R = by_bytes} v.items) c.replace.ensures.after
    ∙ ap (λ es. fin.from_sorted {R = by_bytes} es) c.new-none.ensures.items
    ∙ nothing_sorted

pub returns-clause-entries : goal.returns-clause-entries
returns-clause-entries c =
    ap (λ (v : Vec Entry). v.items) c.replace.ensures.value
    ∙ c.in_ok-reserve.ensures.items
    ∙ sym (fin.entries-from_sorted by_bytes c.self.inside.entries.items c.self.invariant)
    ∙ ap fin.entries c.self.view_is
