-- Each turn carries the account on, and each exit closes it.
use Rattle.std.proofs.Common.{◌≡◌, Bool, true, false, ◌++◌, [], length, drop, inr, refl, ap, arith}
use Rattle.eden_stream.specs.Pumps.{Ran, Tellings}
use Rattle.eden_stream.proofs.Account.{ran_ended, ran_got, ran_halted, ran_no_more, ran_received, ran_rests, ran_sent, ran_start, ran_taken, ran_torn, ran_turned}
use Rattle.eden_stream.proofs.pump.pump_with.Given as given
use Rattle.eden_stream.proofs.pump.pump_with.Goals as goal
use Rattle.eden_stream.proofs.pump.pump_with.Goals.{In-Waiting}

pub loop-turn-init : goal.loop-turn-init
loop-turn-init g c = record {
  room = omega (arith, ap length c.new-held.ensures);
  few = omega arith;
  called = omega arith;
  turns = omega arith;
  read_grew = omega arith;
  write_grew = omega arith;
  ran = λ before s.
      rw (c.new-held.ensures, c.new-text.ensures.items) (ran_start g.met.F.Framing.lawful (g.S.Teller.story c.args.teller.now before c.args.server.now)
      (g.R.Read.remaining c.args.reader.now) (g.W.Write.contents c.args.writer.now) s);
}

pub returns-then-not-write_waiting-clause-ends : goal.returns-then-not-write_waiting-clause-ends
returns-then-not-write_waiting-clause-ends g c = λ before s.
    let ran = c.loop-turn.invariant.ran before s in
    let turned = ran_turned (g.met.S.Teller.lawful c.args.teller.now before c.answer_first-turn.new.server) ran c.answer_first-turn.new.held c.answer_first-turn.new.text.items
    c.answer_first-turn.result (c.answer_first-turn.ensures.turn before ran.stream ran.items ran.sent ran.cut ran.says) in
    let tears = c.if-not-write_waiting.ensures.torn in
    (c.loop-turn.ended, turned.0, c.answer_first-turn.new.held, drop tears.0 c.answer_first-turn.new.text.items, ran_torn turned.1 tears)

pub loop-turn-preserved-in-Taken : goal.loop-turn-preserved-in-Taken
loop-turn-preserved-in-Taken g c = record {
  room = omega (arith, c.loop-turn.invariant.room, c.in-Taken.ensures.shrinks refl);
  few = c.loop-turn.invariant.few;
  called = c.loop-turn.invariant.called;
  turns = c.loop-turn.invariant.turns;
  read_grew = c.loop-turn.invariant.read_grew;
  write_grew = omega (arith, c.loop-turn.invariant.write_grew, c.if-not-write_waiting.ensures.grew);
  ran = λ before s.
      let ran = c.loop-turn.invariant.ran before s in
      ran_sent (ran_taken ran (c.in-Taken.ensures.turn before ran.stream ran.items ran.sent ran.cut ran.says)) c.if-not-write_waiting.ensures.sent;
}

pub returns-in-Faulty-clause-ends : goal.returns-in-Faulty-clause-ends
returns-in-Faulty-clause-ends g c = λ before s.
    let ran = c.loop-turn.invariant.ran before s in
    let step = c.in-Faulty.ensures.turn before ran.stream ran.items ran.sent ran.cut ran.says in
    let none = c.if-not-write_waiting.ensures.none_left (λ taken. cc (taken, c.in-Faulty.is)) in
    (c.loop-turn.ended, c.loop-turn.count, c.answer_first-turn.new.held, refl, ran_rests ran step.0 step.1 c.if-not-write_waiting.ensures.sent none)

pub returns-in-NoMemory-clause-ends : goal.returns-in-NoMemory-clause-ends
returns-in-NoMemory-clause-ends g c = λ before s.
    let ran = c.loop-turn.invariant.ran before s in
    let step = c.in-NoMemory.ensures.turn before ran.stream ran.items ran.sent ran.cut ran.says in
    let none = c.if-not-write_waiting.ensures.none_left (λ taken. cc (taken, c.in-NoMemory.is)) in
    (c.loop-turn.ended, c.loop-turn.count, c.answer_first-turn.new.held, ran_rests ran step.0 (inr step.1) c.if-not-write_waiting.ensures.sent none)

-- where more bytes are waited for, all text is written
waits : (g : given.Over) (c : In-Waiting g) (before : _) → (g.S.Teller.story c.args.teller.now before c.args.server.now).told [] [] → (ended : Bool) → c.loop-turn.ended ≡ ended
    → g.F.Framing.grammar.partial ended c.answer_first-turn.new.held × (c.write_waiting.new.text.items ≡ [])
    × Ran g.F.Framing.grammar (Tellings (g.S.Teller.story c.args.teller.now before c.answer_first-turn.new.server)) (g.R.Read.remaining c.args.reader.now) (g.R.Read.remaining c.loop-turn.reader)
    (g.W.Write.contents c.args.writer.now) (g.W.Write.contents c.write_waiting.new.writer) ended c.loop-turn.count c.answer_first-turn.new.held []
waits g c before s ended is =
    let ran = c.loop-turn.invariant.ran before s in
    let step = c.in-Waiting.ensures.turn before ran.stream ran.items ran.sent ran.cut ran.says in
    let none = c.if-not-write_waiting.ensures.none_left (λ taken. cc (taken, c.in-Waiting.is)) in
    rw (← is) (step.1, none, ran_rests ran step.0 step.2 c.if-not-write_waiting.ensures.sent none)

pub returns-then-ended-clause-ends : goal.returns-then-ended-clause-ends
returns-then-ended-clause-ends g c = λ before s.
    let now = waits g (goal.at.returns-then-ended-clause-ends g c).In-Waiting before s true c.if-ended.true in
    (c.answer_first-turn.new.held, now.0, now.2)

pub returns-then-reads-most_reads-clause-ends : goal.returns-then-reads-most_reads-clause-ends
returns-then-reads-most_reads-clause-ends g c = λ before s.
    let now = waits g (goal.at.returns-then-reads-most_reads-clause-ends g c).In-Waiting before s false c.if-ended.false in
    (c.loop-turn.count, c.answer_first-turn.new.held, now.0, now.2)

pub returns-in-Failed-clause-ends : goal.returns-in-Failed-clause-ends
returns-in-Failed-clause-ends g c = λ before s.
    let now = waits g (goal.at.returns-in-Failed-clause-ends g c).In-Waiting before s false c.if-ended.false in
    (c.loop-turn.count, c.answer_first-turn.new.held, now.0, ran_no_more g.met.F.Framing.lawful now.2 c.in-Failed.ensures.bytes.0 refl)

pub returns-in-NoMemory-receive-clause-ends : goal.returns-in-NoMemory-receive-clause-ends
returns-in-NoMemory-receive-clause-ends g c = λ before s.
    let now = waits g (goal.at.returns-in-NoMemory-receive-clause-ends g c).In-Waiting before s false c.if-ended.false in
    let got = c.in-NoMemory-receive.ensures.bytes in
    (false, c.loop-turn.count, c.answer_first-turn.new.held ++ got.0, ran_halted (g.S.Teller.story c.args.teller.now before c.answer_first-turn.new.server) (ran_got g.met.F.Framing.lawful now.2 got.0 got.1))

pub loop-turn-preserved-in-More : goal.loop-turn-preserved-in-More
loop-turn-preserved-in-More g c = record {
  room = omega (arith, c.loop-turn.invariant.room, c.in-Waiting.ensures.room, c.in-More.ensures.room, c.loop-turn.auto.buffer, c.requires.size);
  few = omega (arith, c.loop-turn.invariant.few);
  called = omega (arith, c.loop-turn.invariant.called, c.in-More.ensures.called);
  turns = omega (arith, c.loop-turn.invariant.turns, c.in-More.ensures.called_once);
  read_grew = omega (arith, c.loop-turn.invariant.read_grew, c.in-More.ensures.grew);
  write_grew = omega (arith, c.loop-turn.invariant.write_grew, c.if-not-write_waiting.ensures.grew);
  ran = λ before s.
      let now = waits g (goal.at.loop-turn-preserved-in-More g c).In-Waiting before s false c.if-ended.false in
      rw (now.1, c.if-ended.false) (ran_received g.met.F.Framing.lawful now.2 c.in-More.ensures.bytes);
}

pub loop-turn-preserved : goal.loop-turn-preserved
loop-turn-preserved g c = record {
  room = omega (arith, c.loop-turn.invariant.room, c.in-Waiting.ensures.room, c.in-Ended.ensures.room, c.loop-turn.auto.buffer, c.requires.size);
  few = omega (arith, c.loop-turn.invariant.few);
  called = omega (arith, c.loop-turn.invariant.called, c.in-Ended.ensures.called);
  turns = omega (arith, c.loop-turn.invariant.turns, c.in-Ended.ensures.called_once);
  read_grew = omega (arith, c.loop-turn.invariant.read_grew, c.in-Ended.ensures.grew);
  write_grew = omega (arith, c.loop-turn.invariant.write_grew, c.if-not-write_waiting.ensures.grew);
  ran = λ before s.
      let now = waits g (goal.at.loop-turn-preserved g c).In-Waiting before s false c.if-ended.false in
      let bytes = c.in-Ended.ensures.bytes in
      rw now.1 (ran_ended g.met.F.Framing.lawful (ran_no_more g.met.F.Framing.lawful now.2 bytes.0 bytes.2) bytes.1);
}
