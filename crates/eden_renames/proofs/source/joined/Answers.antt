use Rattle.std.proofs.Common.{◌≡◌, ◌+◌, ◌<◌, length, arith, length-append, sym, ap, ◌∙◌}
use Rattle.eden_renames.proofs.Settled.{granted, refused}
use Rattle.eden_renames.proofs.source.joined.Goals as goal

pub returns-then-is_err : goal.returns-then-is_err
returns-then-is_err c =
    let all = length-append c.args.front.now c.args.rest.now in
    let none : length c.new-whole.result.items ≡ 0 = ap length c.new-whole.ensures in
    let long : 1024 < length c.new-whole.result.items + length c.args.front.now =
    refused c.try_extend_from_slice.result (length c.new-whole.result.items + length c.args.front.now) 1024 c.try_extend_from_slice.ensures.variant.1
    (sym c.is_err.ensures.value ∙ c.if-is_err.true) in
    omega (arith, all, none, long)

pub returns-then-is_err-2 : goal.returns-then-is_err-2
returns-then-is_err-2 c =
    let all = length-append c.args.front.now c.args.rest.now in
    let none : length c.new-whole.result.items ≡ 0 = ap length c.new-whole.ensures in
    let front = granted _ c.try_extend_from_slice.result (sym c.is_err.ensures.value ∙ c.if-is_err.false) c.try_extend_from_slice.ensures.len in
    let long : 1024 < length c.try_extend_from_slice.new.self.items + length c.args.rest.now =
    refused c.try_extend_from_slice-2.result (length c.try_extend_from_slice.new.self.items + length c.args.rest.now) 1024 c.try_extend_from_slice-2.ensures.variant.1
    (sym c.is_err-2.ensures.value ∙ c.if-is_err-2.true) in
    omega (arith, all, none, front, long)
