-- What is at the front, by its header and the byte after the object.
use Rattle.std.proofs.Common.{◌∙◌, inl, inr, refl, sym}
use Rattle.eden_batch.proofs.Fronts.{lacks_line_feed, no_header, part_of_header, part_of_object, whole_object}
use Rattle.eden_batch.proofs.framing.measure_front.Goals as goal

pub returns-in-Err-Partial : goal.returns-in-Err-Partial
returns-in-Err-Partial c =
    let part = rw c.in-Err-Partial.field-0-is at c.in-Err-Partial.ensures in
    inl (part_of_header c.args.bytes.now part.0 part.1 part.2 part.3 part.4)

pub returns-in-Err-Bad : goal.returns-in-Err-Bad
returns-in-Err-Bad c =
    let bad = rw c.in-Err-Bad.field-0-is at c.in-Err-Bad.ensures in
    inl (no_header c.args.bytes.now bad)

pub returns-in-None : goal.returns-in-None
returns-in-None c =
    let read = c.in-Ok.ensures in
    inr (part_of_object c.args.bytes.now c.in-Ok.read.1.now c.in-Ok.read.0 read.0 c.if-header-gt-OBJECT_LIMIT.false read.1 c.in-None.ensures.lookup.3)

pub returns-in-Some-eq10 : goal.returns-in-Some-eq10
returns-in-Some-eq10 c =
    let read = c.in-Ok.ensures in
    let there = c.in-Some-eq10.ensures.lookup.3 in
    whole_object c.args.bytes.now c.in-Ok.read.1.now c.in-Ok.read.0 read.0 c.if-header-gt-OBJECT_LIMIT.false read.1 there.0
    (sym c.in-Some-eq10.field-0-test ∙ there.1 0) _ refl

pub returns-in-Some : goal.returns-in-Some
returns-in-Some c =
    let read = c.in-Ok.ensures in
    let there = c.in-Some.ensures.lookup.3 in
    inr (lacks_line_feed c.args.bytes.now c.in-Ok.read.1.now c.in-Ok.read.0 read.0 c.if-header-gt-OBJECT_LIMIT.false read.1 there.0
    c.in-Some.field-0.now (there.1 0) c.in-Some.field-0-test.1)
