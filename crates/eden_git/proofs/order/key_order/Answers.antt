use Rattle.std.proofs.Common.{rules, ◌≡◌, ◌++◌, ◌∙◌, ap, refl}
use Rattle.std.specs.Ordering.{nat_cmp}
use Rattle.std.specs.Cmp.Lexicographic.{slice_cmp}
use Rattle.std.proofs.lemmas.Iterator.{YieldsList-from_slice}
use Rattle.std.proofs.lemmas.Iterator.Consumers.{YieldsList-from_chain}
use Rattle.std.proofs.lemmas.Iterator.Search.{cmp_from_yields_List}
use Rattle.eden_git.specs.Trees.{key}
use Rattle.eden_git.specs.Entries.{plain}
use Rattle.eden_git.specs.internal.Parts.{ending_of}
use Rattle.eden_git.proofs.Keys.{key_is}
use Rattle.eden_git.proofs.order.key_order.Goals as goal

pub returns : goal.returns
returns c =
    cmp_from_yields_List (λ x y. y ≡ x) _ nat_cmp _ c.cmp.ensures.ran
    (YieldsList-from_chain (YieldsList-from_slice c.args.first.now.name.now (search rules)) (YieldsList-from_slice (ending_of c.args.first.now.kind) (search rules)) (search rules) (search rules))
    (λ it is. YieldsList-from_chain {s = it} (YieldsList-from_slice c.args.second.now.name.now (search (rules, is))) (YieldsList-from_slice (ending_of c.args.second.now.kind) (search (rules, is))) (search (rules, is)) (search (rules, is)))
    (λ x y. refl)
    ∙ ap (λ k. slice_cmp nat_cmp k (c.args.second.now.name.now ++ ending_of c.args.second.now.kind)) (key_is c.args.first.now)
    ∙ ap (slice_cmp nat_cmp (key (plain c.args.first.now))) (key_is c.args.second.now)
