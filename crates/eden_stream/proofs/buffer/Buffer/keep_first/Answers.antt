use Rattle.std.proofs.Common.{◌≡◌, ◌+◌, ◌≤◌, length, get_or, sym, ap, ◌∙◌, arith, length-drop}
use Rattle.std.proofs.lemmas.List.{length-take-le}
use Rattle.eden_stream.proofs.Breaks.{first_clear}
use Rattle.eden_stream.proofs.buffer.Buffer.keep_first.Goals as goal

pub invariant_of-self : goal.invariant_of-self
invariant_of-self c =
    let items = c.self.inside.bytes.items in
    let start = c.self.inside.start in
    let some : start + 1 ≤ length items = omega (arith, c.requires.some, length-drop start items, ap length c.self.view_is) in
    let len : length c.truncate.new.self.items ≡ start + 1 = ap length c.truncate.ensures.items ∙ length-take-le (start + 1) items some in (
      omega arith,
      omega (arith, len),
      λ k low high e. first_clear items c.args.self.now start c.self.view_is c.requires.some c.requires.unended k low high
          (sym (ap (λ bytes. get_or bytes k 0) c.truncate.ensures.items) ∙ e),
    )
