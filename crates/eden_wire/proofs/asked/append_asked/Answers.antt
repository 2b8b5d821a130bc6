use Rattle.std.proofs.Common.{ℕ, List, ◌++◌, ap, ◌∙◌, arith}
use Rattle.eden_wire.specs.Asked.{asked_bytes}
use Rattle.eden_wire.proofs.AskedLaws.{spells_framed}
use Rattle.eden_wire.proofs.Written.{framed}
use Rattle.eden_wire.proofs.asked.append_asked.Goals as goal

pub returns-clause-exact : goal.returns-clause-exact
returns-clause-exact c =
    let len = c.len_of_asked-len in
    let old = c.args.text.now.items in
    framed c.put_asked.result (asked_bytes c.args.asked.now) len.result old c.put_bytes.new.out.items c.put_asked.new.out.items len.ensures.len
    (c.in_ok-put_bytes.ensures.told ∙ ap (λ (text : List ℕ). old ++ text) c.to_be_bytes.ensures) c.put_asked.ensures.told

pub returns-clause-read_back : goal.returns-clause-read_back
returns-clause-read_back c =
    let len = c.len_of_asked-len in
    let old = c.args.text.now.items in
    spells_framed c.put_asked.result c.args.asked.now old c.put_asked.new.out.items c.question_text_law.ensures len.ensures.patience
    (omega (arith, len.ensures.len, len.ensures.few)) (framed c.put_asked.result (asked_bytes c.args.asked.now) len.result old c.put_bytes.new.out.items c.put_asked.new.out.items
    len.ensures.len (c.in_ok-put_bytes.ensures.told ∙ ap (λ (text : List ℕ). old ++ text) c.to_be_bytes.ensures) c.put_asked.ensures.told)
