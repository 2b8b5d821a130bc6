use Rattle.std.proofs.Common.{◌++◌, map, ap, ◌∙◌}
use Rattle.std.proofs.lemmas.List.{map-append}
use Rattle.eden_ranges.specs.internal.Mentions.{told}
use Rattle.eden_ranges.proofs.mentions.Mentions.append.Goals as goal

pub returns : goal.returns
returns c =
    ap (map told) c.in_ok-append.ensures.items
    ∙ map-append told c.self.inside.list.items c.more.inside.list.items
    ∙ (λ i. c.self.view_is i ++ c.more.view_is i)
