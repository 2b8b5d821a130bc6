use Rattle.std.proofs.Common.{◌≡◌, length, ap, sym, ◌∙◌}
use Rattle.std.specs.Ordering.{nat_cmp}
use Rattle.std.specs.Cmp.Lexicographic.{slice_cmp}
use Rattle.std.specs.Prelude.{ℕ, List, Option, ◌==◌}
use Rattle.std.specs.FinMap as fin
use Rattle.eden_renames.proofs.InOrder.{none_there}
use Rattle.eden_renames.proofs.renames.Renames.is_empty.Goals as goal

pub returns : goal.returns
returns c =
    let many : length c.entries.result.now ≡ fin.len c.args.self.now = ap length c.entries.ensures ∙ sym (fin.len-entries c.args.self.now) in (
      λ none.
          let zero : fin.len c.args.self.now ≡ 0 = sym many ∙ none_there (length c.entries.result.now) (sym c.is_empty.ensures ∙ none) in
          fin.empty_of_len c.args.self.now zero,
      λ empty.
          c.is_empty.ensures ∙ ap (λ n. n == 0) (many ∙ ap fin.len empty ∙ fin.len-empty (slice_cmp nat_cmp) (Option (List ℕ))),
    )
