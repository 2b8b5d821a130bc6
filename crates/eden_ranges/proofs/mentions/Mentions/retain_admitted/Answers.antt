use Rattle.std.proofs.Common.{map, rules, of_calls, ap, ◌∙◌}
use Rattle.std.proofs.lemmas.Fn.{filter_same}
use Rattle.eden_globs.specs.Filters.{admits}
use Rattle.eden_ranges.specs.declared.mentions.Mention.{Mention}
use Rattle.eden_ranges.specs.internal.Mentions.{told}
use Rattle.eden_ranges.specs.internal.Wanted.{admitted_said}
use Rattle.eden_ranges.proofs.Lists.{map-filter}
use Rattle.eden_ranges.proofs.mentions.Mentions.retain_admitted.Goals as goal

pub returns : goal.returns
returns c =
    ap (map told)
    (filter_same _ (λ (m : Mention). admits c.args.wanted.now m.path.now) _ (λ x b f' k. search (rules, of_calls)) c.self.inside.list.items c.retain.new.self.items c.retain.ensures.filtered)
    ∙ map-filter told (λ one. admits c.args.wanted.now one.0) c.self.inside.list.items
    ∙ ap (admitted_said c.args.wanted.now) c.self.view_is
