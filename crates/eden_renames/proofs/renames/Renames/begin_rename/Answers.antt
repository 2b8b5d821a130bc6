use Rattle.std.proofs.Common.{◌≡◌, T, sym, ap, subst, ◌∙◌, arith}
use Rattle.std.specs.FinMap as fin
use Rattle.std.specs.FinMap.{is_sorted}
use Rattle.eden_renames.specs.Renames.{by_bytes, dir_moved, source_dir}
use Rattle.eden_renames.specs.internal.Shifted.{arriving}
use Rattle.eden_renames.proofs.Finding.{listed_again}
use Rattle.eden_renames.proofs.renames.Renames.begin_rename.Goals as goal

pub invariant_of-result : goal.invariant_of-result
invariant_of-result c =
    let renames = c.args.self.now in
    let es = c.in_ok-entries.entries.items in
    let listed : es ≡ fin.entries renames = c.in_ok-entries.ensures.entries in
    let whole : fin.from_sorted {R = by_bytes} es ≡ renames = ap (λ fs. fin.from_sorted {R = by_bytes} fs) listed ∙ listed_again renames in (
      record {
        sorted = subst (λ fs. T (is_sorted by_bytes fs)) (sym listed) (fin.entries_sorted renames);
        arriving_is = c.in_ok-arriving.ensures.arriving ∙ (λ i. arriving (sym listed i) (sym c.in_ok-from.ensures i) (sym c.in_ok-to.ensures i));
        source_is = c.in_ok-source.ensures ∙ (λ i. source_dir (sym whole i) (sym c.in_ok-from.ensures i));
      },
      omega (arith, c.in_ok-entries.ensures.room, c.len.ensures),
    )

pub returns-clause-ready : goal.returns-clause-ready
returns-clause-ready c =
    let renames = c.args.self.now in
    let whole : fin.from_sorted {R = by_bytes} c.in_ok-entries.entries.items ≡ renames =
    ap (λ fs. fin.from_sorted {R = by_bytes} fs) c.in_ok-entries.ensures.entries ∙ listed_again renames in
    λ i. (whole i, dir_moved (whole i) (c.in_ok-from.ensures i) (c.in_ok-to.ensures i))
