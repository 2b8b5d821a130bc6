use Rattle.std.proofs.Common.{◌≡◌, ◌∙◌, ◌+◌, ◌/◌, ◌-◌, suc, ℕ, true, false, sym, ap, refl, arith, drop, length}
use Rattle.std.specs.List.{slice_get}
use Rattle.eden_git.specs.Entries.{plain}
use Rattle.eden_git.specs.internal.Searched.{first_from, is_before}
use Rattle.eden_git.specs.Trees.{key}
use Rattle.eden_git.proofs.Searching.{none_at_end, passed, stays}
use Rattle.eden_git.proofs.rows.Rows.first_from.Goals as goal

pub probes-init : goal.probes-init
probes-init c =
    let wanted = key (plain c.args.wanted.now) in
    let all : c.len-high.result ≡ length c.args.self.now = c.len-high.ensures in
    record {
      order = omega arith;
      within = omega arith;
      passed = refl;
      stays = ap (λ row. slice_get c.args.self.now row) all ∙ none_at_end wanted c.args.self.now ∙ ap (λ row. first_from wanted (drop row c.args.self.now)) (sym all);
    }

pub probes-preserved-then-is_before : goal.probes-preserved-then-is_before
probes-preserved-then-is_before c =
    let wanted = key (plain c.args.wanted.now) in
    let middle : ℕ = c.probes.low + (c.probes.high - c.probes.low) / 2 in
    let before : is_before wanted (slice_get c.args.self.now middle) ≡ true = sym c.is_before.ensures ∙ c.if-is_before.true in
    let next : suc middle ≡ middle + 1 = omega arith in
    record {
      order = omega arith;
      within = omega arith;
      passed = passed wanted c.args.self.now middle c.requires before ∙ ap (λ row. first_from wanted (drop row c.args.self.now)) next;
      stays = c.probes.invariant.stays;
    }

pub probes-preserved : goal.probes-preserved
probes-preserved c =
    let wanted = key (plain c.args.wanted.now) in
    let middle : ℕ = c.probes.low + (c.probes.high - c.probes.low) / 2 in
    let later : is_before wanted (slice_get c.args.self.now middle) ≡ false = sym c.is_before.ensures ∙ c.if-is_before.false in
    record {
      order = omega arith;
      within = omega arith;
      passed = c.probes.invariant.passed;
      stays = stays wanted c.args.self.now middle later;
    }
