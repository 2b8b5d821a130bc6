use Rattle.std.proofs.Common.{◌≡◌, true, false, is_none, rules, sym, ap, ◌∙◌}
use Rattle.eden_messages.specs.Mirrors.{distinct, gathers, list_request, query_numbered, same_query}
use Rattle.eden_messages.specs.Mirrors.Round.{Asked}
use Rattle.eden_messages.specs.Spells.{paths_of}
use Rattle.eden_mirror.specs.internal.Rounds.{round_of}
use Rattle.eden_mirror.proofs.Delivering.{changes_delivered}
use Rattle.eden_mirror.proofs.mirror.Mirror.take_changes.Goals as goal

pub returns-clause-ok : goal.returns-clause-ok
returns-clause-ok c =
    let s = c.self.inside in
    let m = c.args.self.now in
    let asked = query_numbered m m.last in
    let round = ap (λ n. n.round) (sym c.self.view_is)
    ∙ ap (λ r. round_of (record { mirror = s.id; life = s.life; number = s.last }) s.place s.filter r) c.in-Asked.is
    ∙ ap (λ n. Asked (list_request (query_numbered n n.last) s.place s.filter)) c.self.view_is in
    let placed : is_none s.place ≡ false = search rules in
    let same : same_query c.args.query asked ≡ true = search rules in
    c.gather.ensures
    ∙ ap (λ paths. gathers m asked c.args.target paths c.in_ok-prefixes.prefixes) c.in_ok-awaited.ensures
    ∙ ap (λ prefixes. gathers m asked c.args.target (distinct (paths_of c.args.marked.now)) prefixes) c.in_ok-prefixes.ensures
    ∙ changes_delivered m asked s.place s.filter c.args.query c.args.target c.args.marked.now c.args.prefixes.now round placed same
