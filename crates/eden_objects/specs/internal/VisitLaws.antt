-- The two visits are visits.
use Rattle.std.proofs.Common.{◌++◌, ◌||◌, Bool, true, List, Result, Ok, Err, refl, sym, ap, ◌∙◌, append_assoc}
use Rattle.std.proofs.lemmas.List.{append-nil}
use Rattle.std.proofs.lemmas.List.Elements.{filter-append}
use Rattle.std.proofs.lemmas.List.Folds.{list_any-append}
use Rattle.std.specs.Prelude.{filter}
use Rattle.std.specs.List.{list_any}
use Rattle.eden_ids.specs.declared.memory.NoMemory.{NoMemory}
use Rattle.eden_globs.specs.Filters.{admits}
use Rattle.eden_objects.specs.declared.list.Listing.{Listing}
use Rattle.eden_objects.specs.declared.search.Search.{Search}
use Rattle.eden_objects.specs.Commits.{Row}
use Rattle.eden_objects.specs.internal.Visits.{IsListing, IsSearch, IsVisit}

listed_both : (old visit new : Listing) (rows more : List Row) (result : Result (Unit {0}) NoMemory) → IsListing old rows (Ok tt) visit → IsListing visit more result new
    → IsListing old (rows ++ more) result new
listed_both old visit new rows more (Err refused) first then = tt
listed_both old visit new rows more (Ok done) first then =
    let test : Row → Bool = λ row. admits old.filter.now row.0 in (
      then.0 ∙ first.0,
      then.1 ∙ ap (λ wanted. visit.rows.items ++ filter (λ row. admits wanted row.0) more) first.0
          ∙ ap (λ found. found ++ filter test more) first.1
          ∙ append_assoc old.rows.items (filter test rows) (filter test more)
          ∙ ap (λ found. old.rows.items ++ found) (sym (filter-append test rows more)),
    )

pub listing_laws : IsVisit IsListing
listing_laws = record {
  nothing = λ visit. (refl, sym (append-nil visit.rows.items));
  goes_on = listed_both;
  stopped = λ old new rows more stop is. tt;
}

pub search_laws : IsVisit (λ (old : Search) rows result (new : Search). IsSearch rows result)
search_laws = record {
  nothing = λ visit. refl;
  goes_on = λ old visit new rows more result first then. then ∙ sym (list_any-append (λ row. true) rows more ∙ ap (λ b. b || list_any (λ row. true) more) (sym first));
  stopped = λ old new rows more stop is. sym (list_any-append (λ row. true) rows more ∙ ap (λ b. b || list_any (λ row. true) more) (sym is));
}
