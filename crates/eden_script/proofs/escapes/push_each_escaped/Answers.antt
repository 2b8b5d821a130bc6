use Rattle.std.proofs.Common.{◌≡◌, ◌++◌, ◌+◌, ◌-◌, ◌∙◌, take, drop, length-drop, ap, arith, subst}
use Rattle.std.proofs.lemmas.List.{take_rest}
use Rattle.std.proofs.lemmas.Result.{on_ok_weaker}
use Rattle.eden_script.specs.internal.Runs.{IsPlain, EndsPlain}
use Rattle.eden_script.proofs.EscapeLemmas.{written_on, written_all}
use Rattle.eden_script.proofs.escapes.push_each_escaped.Goals as goal

pub loop-size-preserved : goal.loop-size-preserved
loop-size-preserved c =
    let bytes = c.args.bytes.now in
    let start = c.loop-size.start in
    let size = c.in-Some.size in
    let ends = subst (λ part. EndsPlain part size) (take_rest bytes start) c.in-Some.ensures in
    let run : take (start + size - start) (drop start bytes) ≡ take size (drop start bytes) = ap (λ n. take n (drop start bytes)) (omega arith) in
    let before = c.loop-size.text.items in (
      omega (arith, ends.0, length-drop start bytes, c.loop-size.invariant.0),
      written_on bytes c.args.text.now.items before c.push_bytes.new.text.items c.push_escaped_byte.new.text.items start size
          c.loop-size.invariant.1 c.loop-size.invariant.0 ends (c.in_ok-push_bytes.ensures.ok ∙ ap (λ part. before ++ part) run)
          c.in_ok-push_escaped_byte.ensures.ok,
    )

pub returns-clause-ok : goal.returns-clause-ok
returns-clause-ok c =
    let bytes = c.args.bytes.now in
    let start = c.loop-size.start in
    let plain = subst IsPlain (take_rest bytes start) c.in_default.ensures in
    let before = c.loop-size.text.items in
    on_ok_weaker c.push_bytes-2.result
    (λ grown. written_all bytes c.args.text.now.items before c.push_bytes-2.new.text.items start c.loop-size.invariant.1 plain
    (grown ∙ ap (λ part. before ++ part) (take_rest bytes start)))
    c.push_bytes-2.ensures.ok
