-- The comparison of filters is an equivalence.
use Rattle.std.specs.Cmp.{IsEquivalence, IsPartialEquivalence, and_equiv, nat_eq_equiv, on_equiv, partial_equiv_from_equiv}
use Rattle.std.specs.Cmp.Lexicographic.{lists_equiv}
use Rattle.eden_globs.specs.Filters.{Patterns, same_filter}

pub filters_equiv : IsEquivalence same_filter
filters_equiv = and_equiv (on_equiv (λ (f : Patterns). f.included) (lists_equiv (lists_equiv nat_eq_equiv))) (on_equiv (λ (f : Patterns). f.excluded) (lists_equiv (lists_equiv nat_eq_equiv)))

pub filters_per : IsPartialEquivalence same_filter
filters_per = partial_equiv_from_equiv filters_equiv
