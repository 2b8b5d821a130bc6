-- What a plan is made of.
use Rattle.std.proofs.Common.{◌≡◌, ℕ, Bool, true, false, ◌&&◌, ◌||◌, List, [], Option, Some, None, refl, sym, ap, subst, ◌∙◌}
use Rattle.std.specs.Prelude.{IsSome, filter, if◌then◌else◌}
use Rattle.eden_ids.specs.declared.id.Id.{Id}
use Rattle.eden_ids.specs.FileMaps.{FileMap, IsFileMap, PathSet, differ, has, listing, no_paths, path_set, union}
use Rattle.eden_ids.specs.Texts.{AreTexts}
use Rattle.eden_ids.proofs.FileMapLemmas.{has-none, has-union, path_set-listing, same_path_set}
use Rattle.eden_objects.specs.Objects.{Held}
use Rattle.eden_objects.specs.Commits.{commit_map}
use Rattle.eden_objects.specs.Files.{files_of}
use Rattle.eden_treediff.specs.Merges.{differences}
use Rattle.eden_history.specs.Checkouts.{checked_out, conflicts, is_conflict, is_dry, unclean}
use Rattle.eden_history.proofs.CheckoutLaws.{checked_out_no_clash, conflict_differs, has-conflicts}
use Rattle.eden_history.proofs.Spelled.{texts_checked_out}
use Rattle.eden_workcopy.specs.Meanings.{FitsIn, base_of, means}
use Rattle.eden_workcopy.specs.declared.work.WorkCopy.{WorkCopy}
use Rattle.eden_ids.proofs.Sifted.{listing_of}
use Rattle.eden_history.specs.declared.change.Mode.{Mode}
use Rattle.eden_history.specs.declared.change.Mode.TheVariants.{Normal, Dry, Force}
use Rattle.std.proofs.Math.Bool.{or-false}

-- the paths on which two commits differ
pub differing : (a b : Option FileMap) (ps : List (List ℕ)) → differences a b ≡ Some ps → ps ≡ listing (differ (files_of a) (files_of b))
differing None b ps e = absurd (let bad : ◌≡◌ {A = Option (List (List ℕ))} None (Some ps) = e in cc)
differing (Some f) None ps e = absurd (let bad : ◌≡◌ {A = Option (List (List ℕ))} None (Some ps) = e in cc)
differing (Some f) (Some g) ps e = let same : ◌≡◌ {A = Option (List (List ℕ))} (Some (listing (differ f g))) (Some ps) = e in cc

-- two commits have a difference
pub two_differ : (a b : Option FileMap) → IsSome a → IsSome b → differences a b ≡ None → ⊥
two_differ None b some other e = absurd (cc)
two_differ (Some f) None some other e = absurd (cc)
two_differ (Some f) (Some g) some other e = absurd (let bad : ◌≡◌ {A = Option (List (List ℕ))} (Some (listing (differ f g))) None = e in cc)

-- the conflicts are those of the paths on which root and target differ
pub conflicts_listed : (work root target : FileMap) (ps : List (List ℕ)) → IsFileMap work → ps ≡ listing (differ root target)
    → filter (is_conflict work root target) ps ≡ listing (conflicts work root target)
conflicts_listed work root target ps ok is =
    ap (filter (is_conflict work root target)) is
    ∙ sym (listing_of (conflicts work root target) (differ root target) (is_conflict work root target)
    (λ p. has-conflicts work root target p ∙ within (is_conflict work root target p) (has (differ root target) p) (conflict_differs work root target p ok)))
  where
    within : (a b : Bool) → (a ≡ true → b ≡ true) → a ≡ (a && b)
    within true b h = sym (h refl)
    within false b h = refl

pub not_dry : (mode : Mode) → (mode ≡ Dry → ⊥) → is_dry mode ≡ false
not_dry Normal kept = refl
not_dry Dry kept = absurd (kept refl)
not_dry Force kept = refl

-- after a checkout that is not dry, its commit is the root
pub root_moved : (mode : Mode) (root commit : Id) → (mode ≡ Dry → ⊥) → (if is_dry mode then root else commit) ≡ commit
root_moved mode root commit kept = ap (λ b. if b then root else commit) (not_dry mode kept)

-- one that is only tried gives back what it began with, and any other what its rule makes
pub files_planned : (held : List Held) (mode : Mode) (work start next : WorkCopy) (w r t root target : FileMap) → w ≡ means held work → r ≡ root → t ≡ target
    → (mode ≡ Dry → start ≡ work) → (mode ≡ Dry → next ≡ start) → ((mode ≡ Dry → ⊥) → means held next ≡ checked_out mode w r t)
    → means held next ≡ checked_out mode (means held work) root target
files_planned held mode work start next w r t root target w_is r_is t_is begun kept made =
    by mode begun kept (λ other. made other ∙ ap (λ m. checked_out mode m r t) w_is ∙ ap (λ m. checked_out mode (means held work) m t) r_is ∙ ap (checked_out mode (means held work) root) t_is)
  where
    by : (mode : Mode) → (mode ≡ Dry → start ≡ work) → (mode ≡ Dry → next ≡ start) → ((mode ≡ Dry → ⊥) → means held next ≡ checked_out mode (means held work) root target)
        → means held next ≡ checked_out mode (means held work) root target
    by Normal begun kept made = made (λ e. absurd (let bad : Normal ≡ Dry = e in cc))
    by Dry begun kept made = ap (means held) (kept refl ∙ begun refl)
    by Force begun kept made = made (λ e. absurd (let bad : Force ≡ Dry = e in cc))

pub made_fits : (held : List Held) (mode : Mode) (start next : WorkCopy) (work root target : FileMap) → IsFileMap work → AreTexts work → FitsIn held start → means held start ≡ target
    → next.root ≡ start.root → next.renames ≡ start.renames → means held next ≡ checked_out mode work root target → FitsIn held next
made_fits held mode start next work root target ok texts fits begun same renames files = record {
  root = subst (λ (id : Id). IsSome (commit_map held id)) (sym same) fits.root;
  files = subst IsFileMap (sym files) (checked_out_no_clash mode work root target ok (subst IsFileMap begun fits.files));
  texts = subst AreTexts (sym files) (texts_checked_out mode work root target texts (subst AreTexts begun fits.texts));
  below = subst AreTexts (λ i. base_of held (record start { root = sym same i; renames = sym renames i })) fits.below;
}

-- a set that nothing is added to
union_nothing : (s : PathSet) → union s no_paths ≡ s
union_nothing s = same_path_set (union s no_paths) s (λ q. has-union s no_paths q ∙ ap (λ b. has s q || b) (has-none q) ∙ or-false (has s q))

-- the paths of two lists, added to no path
pub both_listed : (mode : Mode) (before after ps : List (List ℕ)) (late first second third : PathSet) → (mode ≡ Dry → ⊥) → after ≡ listing late
    → first ≡ no_paths → second ≡ union (path_set after) first → third ≡ union (path_set before) second → ps ≡ listing third
    → ps ≡ (if is_dry mode then [] else listing (union (path_set before) late))
both_listed mode before after ps late first second third kept is none one both all =
    all
    ∙ ap listing (both ∙ ap (union (path_set before)) (one ∙ ap (union (path_set after)) none ∙ union_nothing (path_set after) ∙ ap path_set is ∙ path_set-listing late))
    ∙ sym (ap (λ b. if b then [] else listing (union (path_set before) late)) (not_dry mode kept))

-- the unclean paths of a checkout
pub unclean_planned : (mode : Mode) (work root next below target : FileMap) (before ps : List (List ℕ)) → before ≡ listing (differ work root) → ((mode ≡ Dry → ⊥) → below ≡ target)
    → ps ≡ (if is_dry mode then [] else listing (union (path_set before) (differ next below))) → ps ≡ (if is_dry mode then [] else listing (unclean work root next target))
unfolding unclean
unclean_planned Dry work root next below target before ps before_is below_is is = is
unclean_planned Normal work root next below target before ps before_is below_is is =
    is ∙ ap (λ m. listing (union (path_set before) (differ next m))) (below_is (λ e. absurd (let bad : Normal ≡ Dry = e in cc)))
    ∙ ap (λ s. listing (union s (differ next target))) (ap path_set before_is ∙ path_set-listing (differ work root))
unclean_planned Force work root next below target before ps before_is below_is is =
    is ∙ ap (λ m. listing (union (path_set before) (differ next m))) (below_is (λ e. absurd (let bad : Force ≡ Dry = e in cc)))
    ∙ ap (λ s. listing (union s (differ next target))) (ap path_set before_is ∙ path_set-listing (differ work root))
