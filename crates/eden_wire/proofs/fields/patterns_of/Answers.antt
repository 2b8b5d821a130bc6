use Rattle.std.proofs.Common.{◌≡◌, ◌++◌, ◌∷◌, [], map, ◌∙◌, None}
use Rattle.std.proofs.lemmas.Result.{err_from_is_err_and}
use Rattle.std.proofs.lemmas.List.{map_push}
use Rattle.eden_wire.specs.Formats.{items_at}
use Rattle.eden_wire.specs.Messages.{text, any_order}
use Rattle.eden_wire.proofs.Loops.{items_go_on, items_end, items_done, in_any_place}
use Rattle.eden_wire.proofs.fields.patterns_of.Goals as goal

pub returns-in_err-pattern : goal.returns-in_err-pattern
returns-in_err-pattern c =
    let p = err_from_is_err_and c.from_residual.result c.from_residual.ensures.1 in
    rw (p.1, p.2) (items_end (text 256) any_order (map (λ p. p.now) c.loop.patterns.items) c.args.count c.loop.counter c.loop.rest.now
    (items_at (text 256) any_order c.args.count None c.args.bytes.now) c.in_err-pattern.field-0.0 c.loop-test.true
    (λ told. in_any_place ((text 256).read c.loop.rest.now) ∙ c.in_err-pattern.ensures told) c.loop.invariant)

pub loop-preserved : goal.loop-preserved
loop-preserved c =
    let pattern = c.in_ok-pattern.pattern in
    let more : map (λ p. p.now) c.push.new.self.items ≡ map (λ p. p.now) c.loop.patterns.items ++ pattern.now ∷ [] =
    rw c.in-Ok.ensures.items (map_push _ c.loop.patterns.items pattern) in
    rw more (items_go_on (text 256) any_order (map (λ p. p.now) c.loop.patterns.items) c.args.count c.loop.counter c.loop.rest.now
    (items_at (text 256) any_order c.args.count None c.args.bytes.now) pattern.now c.in_ok-pattern.after.now c.loop-test.true
    (in_any_place ((text 256).read c.loop.rest.now) ∙ c.in_ok-pattern.ensures) c.loop.invariant)

pub returns : goal.returns
returns c = items_done (text 256) any_order (map (λ p. p.now) c.loop.patterns.items) c.args.count c.loop.counter c.loop.rest.now
    (items_at (text 256) any_order c.args.count None c.args.bytes.now) c.loop-test.false c.loop.invariant
