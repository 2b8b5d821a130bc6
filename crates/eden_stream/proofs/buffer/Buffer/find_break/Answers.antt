-- What was searched before and what was searched now hold no break together.
use Rattle.std.proofs.Common.{◌≡◌, ◌+◌, ◌-◌, ◌<◌, ◌∙◌, length, sym, ap, subst, arith, length-drop}
use Rattle.eden_stream.specs.Lines.{HasNoBreak}
use Rattle.eden_stream.specs.internal.LineSteps.{BreaksAt}
use Rattle.eden_stream.proofs.Breaks.{breaks_from, clear_on, clear_to_end, rest_is, unended_from}
use Rattle.eden_stream.proofs.buffer.Buffer.find_break.Goals as goal

pub invariant_of-self : goal.invariant_of-self
invariant_of-self c =
    let items = c.self.inside.bytes.items in
    let searched = c.self.inside.searched in
    let here = subst (λ part. BreaksAt part c.in-Some.place) (rest_is items c.deref.result.now searched c.deref.ensures.value) c.in-Some.ensures in
    let fits : searched + c.in-Some.place < length items = omega (arith, here.within, length-drop searched items) in
    let clear = clear_on items c.self.inside.start searched c.in-Some.place (omega arith) c.self.invariant.2 here.before in
    (omega (arith, c.self.invariant.0), omega arith, clear)

pub invariant_of-self-in-None : goal.invariant_of-self-in-None
invariant_of-self-in-None c =
    let items = c.self.inside.bytes.items in
    let start = c.self.inside.start in
    let searched = c.self.inside.searched in
    let now = subst HasNoBreak (rest_is items c.deref.result.now searched c.deref.ensures.value) c.in-None.ensures in
    let len : c.len-self-inside.result ≡ length items = c.len-self-inside.ensures ∙ sym c.deref.ensures.len ∙ ap length c.deref.ensures.value in
    let clear = clear_to_end items start searched c.self.invariant.1 c.self.invariant.2 now in
    (omega (arith, len, c.self.invariant.0, c.self.invariant.1), omega (arith, len), λ k low high. clear k low (omega (arith, len, high)))

pub returns-in-Some-clause-found : goal.returns-in-Some-clause-found
returns-in-Some-clause-found c =
    let items = c.self.inside.bytes.items in
    let here = subst (λ part. BreaksAt part c.in-Some.place) (rest_is items c.deref.result.now c.self.inside.searched c.deref.ensures.value) c.in-Some.ensures in
    subst (λ held. BreaksAt held (c.self.inside.searched + c.in-Some.place - c.self.inside.start)) c.self.view_is
    (breaks_from items c.self.inside.start c.self.inside.searched c.in-Some.place c.self.invariant.0 c.self.invariant.1 c.self.invariant.2 here)

pub returns-in-None-clause-found : goal.returns-in-None-clause-found
returns-in-None-clause-found c =
    let items = c.self.inside.bytes.items in
    let now = subst HasNoBreak (rest_is items c.deref.result.now c.self.inside.searched c.deref.ensures.value) c.in-None.ensures in
    subst HasNoBreak c.self.view_is (unended_from items c.self.inside.start c.self.inside.searched c.self.invariant.0 c.self.invariant.1 c.self.invariant.2 now)
