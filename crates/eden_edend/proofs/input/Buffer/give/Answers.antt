use Rattle.std.proofs.Common.{rules, ◌-◌, ◌≤◌, drop, length, ap, ◌∙◌, arith}
use Rattle.eden_edend.proofs.Giving.{given_front, range_length, range_rest}
use Rattle.eden_edend.proofs.input.Buffer.give.Goals as goal

pub returns-clause-given : goal.returns-clause-given
returns-clause-given c =
    let within : c.args.count ≤ c.self.inside.end - c.self.inside.start =
    omega (arith, c.requires.held, ap length c.self.view_is, range_length c.self.inside.bytes.items c.self.inside.start c.self.inside.end c.self.invariant.0 c.self.invariant.1) in
    given_front c.args.self.now c.copy_from_slice.new.self _ _ c.args.count c.requires.held (search rules)
    (range_rest c.self.inside.bytes.items c.self.inside.start c.self.inside.end c.args.count within ∙ ap (drop c.args.count) c.self.view_is)
