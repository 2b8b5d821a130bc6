-- What is expanded of runs that the journal lends is what their range expands to.
use Rattle.std.proofs.Common.{◌≡◌, ℕ, List, ◌++◌, map, filter, is_some, reverse, sym, ap, ◌∙◌, append_assoc}
use Rattle.std.specs.List.{flat_map}
use Rattle.std.proofs.lemmas.List.{map-append}
use Rattle.std.proofs.lemmas.List.Elements.{filter-append}
use Rattle.eden_globs.specs.Filters.{Patterns, admits}
use Rattle.eden_ids.specs.FileMaps.{listing, path_set, union}
use Rattle.eden_ids.proofs.FileMapLemmas.{has-path_set, path_set-listing, same_path_set}
use Rattle.eden_objects.specs.Commits.{commit_map}
use Rattle.eden_objects.specs.Objects.{Held}
use Rattle.eden_journal.specs.declared.delta.Delta.{Delta}
use Rattle.eden_journal.specs.declared.file_touch.FileTouch.{FileTouch}
use Rattle.eden_history.specs.Marks.{admitted, mark_said}
use Rattle.eden_history.specs.Said.{Said, by_root, by_touch, ends, ends_at, joined, paths_said, touches_in}
use Rattle.eden_history.proofs.Ends.{ends-paths, ends_alike, ends_at-append, ends_at-ends}
use Rattle.eden_history.proofs.Saying.{rooted-names}
use Rattle.eden_ranges.specs.declared.ranges.Range.{Range}
use Rattle.eden_ranges.specs.Expanded.{differing, expanded, said_by_range}
use Rattle.eden_ranges.specs.Gathered.{unclean_in}
use Rattle.eden_ranges.specs.internal.Gathering.{nothing_gathered, with_all}
use Rattle.eden_ranges.specs.internal.Wanted.{admitted_said, only}
use Rattle.eden_ranges.proofs.Lists.{path_set-append}
use Rattle.eden_ranges.proofs.Only.{ends-admitted, marks-admitted, only-listed, roots-admitted}
use Rattle.eden_ranges.proofs.Said.{roots-alike, touched-again, touched-said, touches-said}
use Rattle.eden_ranges.proofs.TurnedRound.{touches_are, touches_by, unclean_are}

paths-append : (a b : List Said) → path_set (paths_said (a ++ b)) ≡ union (path_set (paths_said b)) (path_set (paths_said a))
paths-append a b = ap path_set (map-append (λ one. one.0) a b) ∙ path_set-append (paths_said a) (paths_said b)

-- what is said before comes to the same, and so does all
front-alike : (a b more : List Said) → path_set (paths_said a) ≡ path_set (paths_said b) → ((q : List ℕ) → ends_at q a ≡ ends_at q b) → ends (a ++ more) ≡ ends (b ++ more)
front-alike a b more same alike = ends_alike _ _
    (paths-append a more ∙ ap (union (path_set (paths_said more))) same ∙ sym (paths-append b more))
    (λ q. ends_at-append q a more ∙ ap (λ o. joined o (ends_at q more)) (alike q) ∙ sym (ends_at-append q b more))

-- what changes of files did, said as the ends of it
touches-said_again : (touches : List FileTouch) (more : List Said) → ends (map by_touch touches ++ more) ≡ ends (map by_touch (touches_in (ends (map by_touch touches))) ++ more)
touches-said_again touches more =
    front-alike said again more
    (same_path_set _ _ (λ q.
    has-path_set (paths_said said) q
    ∙ sym (has-path_set (paths_said again) q ∙ touches-said q (ends said) ∙ ap is_some (ends_at-ends q said) ∙ touched-said q touches)))
    (λ q. sym (touched-again q (ends said) ∙ ends_at-ends q said))
  where
    said : List Said
    said = map by_touch touches

    again : List Said
    again = map by_touch (touches_in (ends said))

-- paths that the root names, said as the ends of it
roots-said_again : (paths more : List (List ℕ)) → path_set (paths ++ more) ≡ path_set (paths_said (ends (map by_root paths)) ++ more)
roots-said_again paths more =
    path_set-append paths more
    ∙ ap (union (path_set more))
    (sym (ap path_set (ends-paths (map by_root paths) ∙ ap (λ ps. listing (path_set ps)) (rooted-names paths)) ∙ path_set-listing (path_set paths)))
    ∙ sym (path_set-append (paths_said (ends (map by_root paths))) more)

all-said_again : (touches : List FileTouch) (paths more : List (List ℕ)) → ends ((map by_touch touches ++ map by_root paths) ++ map by_root more)
    ≡ ends (map by_touch (touches_in (ends (map by_touch touches))) ++ map by_root (paths_said (ends (map by_root paths)) ++ more))
all-said_again touches paths more =
    ap ends (append_assoc (map by_touch touches) (map by_root paths) (map by_root more) ∙ ap (λ list. map by_touch touches ++ list) (sym (map-append by_root paths more)))
    ∙ roots-alike (map by_touch touches) (paths ++ more) (paths_said (ends (map by_root paths)) ++ more) (roots-said_again paths more)
    ∙ touches-said_again touches (map by_root (paths_said (ends (map by_root paths)) ++ more))

-- changes of files and unclean paths, as far as they are admitted, and what the roots differ in
lent_marked : (patterns : Patterns) (held : List Held) (range : Range) (touches : List FileTouch) (unclean differ : List (List ℕ))
    → touches_in (ends (map by_touch touches)) ≡ range.changes → paths_said (ends (map by_root unclean)) ≡ range.unclean
    → path_set differ ≡ only patterns (differing (commit_map held) range.roots)
    → map mark_said (ends (admitted_said patterns (map by_touch touches ++ map by_root unclean) ++ map by_root differ)) ≡ admitted patterns (expanded held range)
lent_marked patterns held range touches unclean differ changes_are unclean_is is =
    ap (map mark_said)
    (roots-alike wanted differ (filter (admits patterns) roots) (is ∙ ap (only patterns) (sym (path_set-listing (differing (commit_map held) range.roots))) ∙ sym (only-listed patterns roots))
    ∙ ap ends (ap (λ list. wanted ++ list) (sym (roots-admitted patterns roots)) ∙ sym (filter-append (λ (one : Said). admits patterns one.0) lent (map by_root roots)))
    ∙ ends-admitted patterns (lent ++ map by_root roots)
    ∙ ap (admitted_said patterns) (all-said_again touches unclean roots ∙ λ i. ends (map by_touch (changes_are i) ++ map by_root (unclean_is i ++ roots))))
    ∙ marks-admitted patterns (ends (said_by_range held range))
  where
    lent : List Said
    lent = map by_touch touches ++ map by_root unclean

    wanted : List Said
    wanted = admitted_said patterns lent

    roots : List (List ℕ)
    roots = listing (differing (commit_map held) range.roots)

-- what the deltas say of paths, oldest first, as far as it is admitted
pub deltas_marked : (patterns : Patterns) (held : List Held) (range : Range) (deltas : List Delta) (differ : List (List ℕ))
    → touches_in (ends (reverse (with_all nothing_gathered deltas).touches)) ≡ range.changes → paths_said (ends (with_all nothing_gathered deltas).unclean) ≡ range.unclean
    → path_set differ ≡ only patterns (differing (commit_map held) range.roots)
    → map mark_said (ends (admitted_said patterns (reverse (with_all nothing_gathered deltas).touches ++ (with_all nothing_gathered deltas).unclean) ++ map by_root differ))
    ≡ admitted patterns (expanded held range)
deltas_marked patterns held range deltas differ changes_are unclean_is is =
    (λ i. map mark_said (ends (admitted_said patterns (touches_are deltas i ++ unclean_are deltas i) ++ map by_root differ)))
    ∙ lent_marked patterns held range (touches_by deltas) (flat_map unclean_in deltas) differ
    (sym (ap (λ list. touches_in (ends list)) (touches_are deltas)) ∙ changes_are)
    (sym (ap (λ list. paths_said (ends list)) (unclean_are deltas)) ∙ unclean_is)
    is
