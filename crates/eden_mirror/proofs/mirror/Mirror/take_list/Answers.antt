use Rattle.std.proofs.Common.{◌≡◌, ◌==◌, ◌&&◌, nat_le, true, not, rules, sym, ap, ◌∙◌}
use Rattle.std.specs.FinMap.{retain_keys}
use Rattle.eden_messages.specs.Mirrors.{gathers, is_among, listed_files, query_numbered, same_query}
use Rattle.eden_messages.specs.Mirrors.Round.{Gathering}
use Rattle.eden_mirror.specs.internal.Rounds.{round_of}
use Rattle.eden_mirror.proofs.Delivering.{list_delivered}
use Rattle.eden_mirror.proofs.mirror.Mirror.take_list.Goals as goal

pub returns-clause-ok : goal.returns-clause-ok
returns-clause-ok c =
    let s = c.self.inside in
    let m = c.args.self.now in
    let asked = query_numbered m m.last in
    let g = c.in-Gathering in
    let round = ap (λ n. n.round) (sym c.self.view_is)
    ∙ ap (λ r. round_of (record { mirror = s.id; life = s.life; number = s.last }) s.place s.filter r) g.is
    ∙ ap (λ n. Gathering (query_numbered n n.last) g.target g.awaited g.prefixes) c.self.view_is in
    let of_round : (same_query c.args.query asked && c.args.position.generation == g.target.generation && nat_le g.target.sequence c.args.position.sequence) ≡ true = search rules in
    let among : is_among c.args.prefix.now g.prefixes ≡ true = search rules in
    let files = c.remove_all.ensures
    ∙ ap (λ ps. retain_keys s.files (λ path. not (is_among path ps))) c.as_slice.ensures.value
    ∙ c.in_ok-gone.ensures
    ∙ ap (λ n. listed_files n.files c.args.prefix.now c.args.paths.now) c.self.view_is in
    c.place_if_complete.ensures
    ∙ ap (λ n. gathers (record n { files = c.remove_all.new.files; round = Gathering (query_numbered n n.last) g.target c.extend.new.self c.take_out.new.self })
    (query_numbered n n.last) g.target c.extend.new.self c.take_out.new.self) c.self.view_is
    ∙ list_delivered m asked g.target g.awaited g.prefixes c.args.query c.args.position c.args.prefix.now c.args.paths.now round of_round among
    _ _ _ files c.in_ok-extend.ensures.ok c.take_out.ensures
