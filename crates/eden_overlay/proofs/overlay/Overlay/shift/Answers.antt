use Rattle.std.proofs.Common.{◌≡◌, None, Some, ap, ◌∙◌, sym}
use Rattle.std.proofs.lemmas.Result.{on_ok_weaker, on_err_weaker}
use Rattle.std.specs.FinMap as fin
use Rattle.eden_ids.proofs.FileMapLemmas.{same_path-turned}
use Rattle.eden_overlay.proofs.Shifted.{set_again, set_either, still_told, taken_back, other_path, same_bytes_are, told_of, not_told_of}
use Rattle.eden_overlay.proofs.overlay.Overlay.shift.Goals as goal

pub returns-then-eq-clause-ok : goal.returns-then-eq-clause-ok
returns-then-eq-clause-ok c =
    let one : c.args.from ≡ c.args.to = same_bytes_are c.args.from c.args.to (sym c.eq.ensures ∙ c.if-eq.true) in
    on_ok_weaker c.set.result
    (λ is. is ∙ set_again c.args.self.now c.args.to None (Some c.args.content) ∙ ap (λ k. fin.insert (fin.insert c.args.self.now k None) c.args.to (Some c.args.content)) (sym one))
    c.set.ensures.ok

pub returns-then-is_some-clause-ok : goal.returns-then-is_some-clause-ok
returns-then-is_some-clause-ok c =
    on_ok_weaker c.set-then-is_some-2.result
    (λ is. is ∙ ap (λ m. fin.insert m c.args.from None) c.in_ok-set.ensures.ok ∙ set_either c.args.self.now c.args.from c.args.to None (Some c.args.content)
    (other_path c.args.from c.args.to (sym c.eq.ensures ∙ c.if-eq.false)))
    c.set-then-is_some-2.ensures.ok

pub returns-then-is_some-clause-err : goal.returns-then-is_some-clause-err
returns-then-is_some-clause-err c =
    let other = same_path-turned c.args.from c.args.to ∙ other_path c.args.from c.args.to (sym c.eq.ensures ∙ c.if-eq.false) in
    on_err_weaker c.set-then-is_some-2.result
    (λ none. absurd (told_of c.get.result (fin.get c.args.self.now c.as_bytes.result.now) c.get.ensures (sym c.is_some.ensures ∙ c.if-is_some.true)
    (ap (fin.get c.args.self.now) c.as_bytes.ensures.bytes ∙ sym (still_told c.args.self.now c.args.from c.args.to (Some c.args.content) other)
    ∙ ap (λ m. fin.get m c.args.from) (sym c.in_ok-set.ensures.ok) ∙ none)))
    c.set-then-is_some-2.ensures.absent

pub returns-clause-err : goal.returns-clause-err
returns-clause-err c =
    let none = ap (fin.get c.args.self.now) (sym c.as_bytes.ensures.bytes)
    ∙ not_told_of c.get.result (fin.get c.args.self.now c.as_bytes.result.now) c.get.ensures (sym c.is_some.ensures ∙ c.if-is_some.false) in
    c.forget.ensures.left
    ∙ ap (fin.remove c.set-3.new.self) (c.as_bytes-in-Err.ensures.bytes ∙ c.in_ok-marked.ensures)
    ∙ ap (λ m. fin.remove m c.args.from) (c.in-Err.ensures.err ∙ c.in_ok-set-2.ensures.ok)
    ∙ taken_back c.args.self.now c.args.from None none
