use Rattle.std.proofs.Common.{ℕ, List, ◌++◌, ap, ◌∙◌, arith}
use Rattle.eden_wire.specs.Stats.{stat_bytes}
use Rattle.eden_wire.proofs.StatLaws.{spells_framed}
use Rattle.eden_wire.proofs.Written.{framed}
use Rattle.eden_wire.proofs.stat.append_stat.Goals as goal

pub returns-clause-exact : goal.returns-clause-exact
returns-clause-exact c =
    let len = c.len_of_stat-len in
    let old = c.args.text.now.items in
    framed c.put_stat_is.result (stat_bytes c.args.stat.now) len.result old c.put_bytes.new.out.items c.put_stat_is.new.out.items len.ensures.len
    (c.in_ok-put_bytes.ensures.told ∙ ap (λ (text : List ℕ). old ++ text) c.to_be_bytes.ensures) c.put_stat_is.ensures.told

pub returns-clause-read_back : goal.returns-clause-read_back
returns-clause-read_back c =
    let len = c.len_of_stat-len in
    let old = c.args.text.now.items in
    let new = c.put_stat_is.new.out.items in
    spells_framed c.put_stat_is.result c.args.stat.now old new c.stat_is_law.ensures (omega (arith, len.ensures.len, len.ensures.few))
    (framed c.put_stat_is.result (stat_bytes c.args.stat.now) len.result old c.put_bytes.new.out.items new len.ensures.len
    (c.in_ok-put_bytes.ensures.told ∙ ap (λ (text : List ℕ). old ++ text) c.to_be_bytes.ensures) c.put_stat_is.ensures.told)
