use Rattle.std.proofs.Common.{sym, ap, subst, ◌∙◌}
use Rattle.eden_mirror.specs.Counting.{awaited_in, prefixes_in}
use Rattle.eden_mirror.specs.internal.Pending.{AreDistinct}
use Rattle.eden_mirror.specs.internal.Rounds.{round_of}
use Rattle.eden_mirror.proofs.Counting.{IsDistinctRound, contents_count_down, ignores_others, lists_count_down, places, places_with_none_left}
use Rattle.eden_mirror.proofs.mirror.Mirror.round_law.Goals as goal
use Rattle.eden_mirror.proofs.mirror.Mirror.round_law.Goals.{After-distinct_law-in-Gathering}

-- neither a path nor a directory is awaited twice
distinct_here : (c : After-distinct_law-in-Gathering) → IsDistinctRound c.args.self.now.round
distinct_here c =
    let s = c.self.inside in
    let same = sym (ap (λ r. round_of (record { mirror = s.id; life = s.life; number = s.last }) s.place s.filter r) c.in-Gathering.is)
    ∙ ap (λ m. m.round) c.self.view_is in
    record {
      paths = subst (λ r. AreDistinct (awaited_in r)) same c.distinct_law.ensures;
      directories = subst (λ r. AreDistinct (prefixes_in r)) same c.distinct_law-in-Gathering.ensures;
    }

pub returns-in-Gathering-clause-contents : goal.returns-in-Gathering-clause-contents
returns-in-Gathering-clause-contents c = contents_count_down c.args.self.now (distinct_here c).paths

pub returns-in-Gathering-clause-lists : goal.returns-in-Gathering-clause-lists
returns-in-Gathering-clause-lists c = lists_count_down c.args.self.now (distinct_here c).directories

pub returns-in-Gathering-clause-placed : goal.returns-in-Gathering-clause-placed
returns-in-Gathering-clause-placed c = places_with_none_left c.args.self.now (distinct_here c)

pub returns-in-Gathering-clause-others : goal.returns-in-Gathering-clause-others
returns-in-Gathering-clause-others c = ignores_others c.args.self.now

pub returns-in-Gathering-clause-last : goal.returns-in-Gathering-clause-last
returns-in-Gathering-clause-last c = places c.args.self.now (distinct_here c)
