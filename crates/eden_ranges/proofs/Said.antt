-- What changes of files say of paths, beside what the root says of them.
use Rattle.std.proofs.Common.{◌≡◌, ℕ, Bool, true, false, cond, ◌||◌, List, [], ◌∷◌, ◌++◌, map, Option, Some, None, is_some, refl, sym, ap, ◌∙◌}
use Rattle.std.specs.List.{list_any}
use Rattle.std.proofs.lemmas.List.{map-append}
use Rattle.eden_ids.specs.FileMaps.{PathSet, path_set, same_path, union}
use Rattle.eden_journal.specs.declared.file_touch.FileTouch.{FileTouch}
use Rattle.eden_history.specs.declared.touches.Touch.{Touch}
use Rattle.eden_history.specs.Said.{Said, by_root, by_touch, ends, ends_at, joined, paths_said, touch_by, touches_in}
use Rattle.eden_history.proofs.Ends.{ends_alike, ends_at-append, ends_at-roots}
use Rattle.eden_history.proofs.Saying.{rooted-names}
use Rattle.eden_ranges.proofs.Lists.{path_set-append}

-- ---- by the root

pub paths-with_roots : (list : List Said) (ps : List (List ℕ)) → path_set (paths_said (list ++ map by_root ps)) ≡ union (path_set ps) (path_set (paths_said list))
paths-with_roots list ps =
    ap path_set (map-append (λ one. one.0) list (map by_root ps) ∙ ap (λ rest. paths_said list ++ rest) (rooted-names ps))
    ∙ path_set-append (paths_said list) ps

-- it is all one in which order the root names paths, and how often
pub roots-alike : (list : List Said) (ps qs : List (List ℕ)) → path_set ps ≡ path_set qs → ends (list ++ map by_root ps) ≡ ends (list ++ map by_root qs)
roots-alike list ps qs same = ends_alike _ _
    (paths-with_roots list ps ∙ ap (λ (s : PathSet). union s (path_set (paths_said list))) same ∙ sym (paths-with_roots list qs))
    (λ q. ends_at-append q list (map by_root ps) ∙ ap (joined (ends_at q list)) (ends_at-roots q ps ∙ sym (ends_at-roots q qs)) ∙ sym (ends_at-append q list (map by_root qs)))

-- ---- by changes of files

pub some-joined : (x y : Option Touch) → is_some (joined x y) ≡ (is_some x || is_some y)
some-joined None y = refl
some-joined (Some x) None = refl
some-joined (Some x) (Some y) = refl

-- each path at which a file was changed has its ends
pub touched-said : (q : List ℕ) (touches : List FileTouch) → is_some (ends_at q (map by_touch touches)) ≡ list_any (λ p. same_path q p) (paths_said (map by_touch touches))
touched-said q [] = refl
touched-said q (touch ∷ more) = by (same_path q touch.path) (ends_at q (map by_touch more)) (touched-said q more)
  where
    by : (b : Bool) (o : Option Touch) → is_some o ≡ list_any (λ p. same_path q p) (paths_said (map by_touch more))
        → is_some (cond b (joined (by_touch touch).1 o) o) ≡ (b || list_any (λ p. same_path q p) (paths_said (map by_touch more)))
    by true None h = refl
    by true (Some t) h = refl
    by false o h = h

-- said again as changes of files, they come to the same
pub touched-again : (q : List ℕ) (list : List Said) → ends_at q (map by_touch (touches_in list)) ≡ ends_at q list
touched-again q [] = refl
touched-again q (one ∷ more) = by one.1 (touched-again q more)
  where
    both : (c : Bool) → ends_at q more ≡ cond c (ends_at q more) (ends_at q more)
    both true = refl
    both false = refl

    by : (o : Option Touch) → ends_at q (map by_touch (touches_in more)) ≡ ends_at q more
        → ends_at q (map by_touch (touch_by one.0 o ++ touches_in more)) ≡ cond (same_path q one.0) (joined o (ends_at q more)) (ends_at q more)
    by None h = h ∙ both (same_path q one.0)
    by (Some t) h = ap (λ o. cond (same_path q one.0) (joined (Some t) o) o) h

pub touches-said : (q : List ℕ) (list : List Said) → list_any (λ p. same_path q p) (paths_said (map by_touch (touches_in list))) ≡ is_some (ends_at q list)
touches-said q list = sym (touched-said q (touches_in list)) ∙ ap is_some (touched-again q list)
