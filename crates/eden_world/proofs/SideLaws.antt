-- What a change of the root makes of the files, and what is said of each path, as the code finds it.
use Rattle.std.proofs.Common.{◌≡◌, ℕ, Bool, true, false, cond, not, ◌&&◌, ◌||◌, List, ◌++◌, Option, Some, None, is_some, refl, sym, ap, ◌∙◌}
use Rattle.std.specs.Prelude.{filter}
use Rattle.std.specs.List.{list_any}
use Rattle.std.proofs.lemmas.List.Folds.{list_any-append}
use Rattle.std.specs.FinMap as fin
use Rattle.eden_ids.specs.declared.content.Content.{Content}
use Rattle.eden_ids.specs.FileMaps.{FileMap, PathSet, differ, file_at, has, listing, no_paths, path_set, paths, same_file, same_path, tabulate, union}
use Rattle.eden_ids.proofs.FileMapLemmas.{file_at-tabulate, has-append, has-listing, has-none, has-path_set, has-union, has-where, path_set-listing, same_file_map, same_path_set}
use Rattle.eden_ids.proofs.Sifted.{listing_of}
use Rattle.eden_history.specs.declared.change.Mode.{Mode}
use Rattle.eden_history.specs.declared.change.Mode.TheVariants.{Normal, Dry, Force}
use Rattle.eden_history.specs.Checkouts.{checked_out, conflicts, force_files, is_conflict, normal_files, paths_of_all, rule_of, unclean}
use Rattle.eden_history.specs.DirtyFiles.{dirty_files}
use Rattle.eden_history.proofs.DirtyFiles.{clean_unless_listed, file_at-dirty}
use Rattle.eden_world.proofs.Tabulating.{same_members}

-- ---- sets as lists

-- the paths on which two maps differ
pub differ_listed : (f g : FileMap) (ps : List (List ℕ)) → ps ≡ listing (path_set (paths_of_all f g g))
    → filter (λ p. not (same_file (file_at f p) (file_at g p))) ps ≡ listing (differ f g)
unfolding differ
differ_listed f g ps are =
    ap (filter (λ p. not (same_file (file_at f p) (file_at g p)))) are
    ∙ sym (listing_of (differ f g) (path_set (paths_of_all f g g)) (λ p. not (same_file (file_at f p) (file_at g p))) (λ p.
    has-where (path_set (paths f ++ paths g)) (λ q. not (same_file (file_at f q) (file_at g q))) p
    ∙ ap (λ b. not (same_file (file_at f p) (file_at g p)) && b) (members p)))
  where
    twice : (a b : Bool) → (a || b) ≡ (a || (b || b))
    twice true b = refl
    twice false true = refl
    twice false false = refl

    members : (p : List ℕ) → has (path_set (paths f ++ paths g)) p ≡ has (path_set (paths_of_all f g g)) p
    members p =
        has-append (paths f) (paths g) p ∙ twice (has (path_set (paths f)) p) (has (path_set (paths g)) p)
        ∙ sym (has-append (paths f) (paths g ++ paths g) p ∙ ap (λ b. has (path_set (paths f)) p || b) (has-append (paths g) (paths g) p))

pub conflicts_listed : (work root target : FileMap) (ps : List (List ℕ)) → ps ≡ listing (path_set (paths_of_all work root target))
    → filter (is_conflict work root target) ps ≡ listing (conflicts work root target)
unfolding conflicts
conflicts_listed work root target ps are =
    ap (filter (is_conflict work root target)) are
    ∙ sym (listing_of (conflicts work root target) (path_set (paths_of_all work root target)) (is_conflict work root target)
    (has-where (path_set (paths_of_all work root target)) (is_conflict work root target)))

pub union_nothing : (s : PathSet) → union s no_paths ≡ s
union_nothing s = same_path_set (union s no_paths) s (λ p. has-union s no_paths p ∙ ap (λ b. has s p || b) (has-none p) ∙ or_false (has s p))
  where
    or_false : (b : Bool) → (b || false) ≡ b
    or_false true = refl
    or_false false = refl

pub unclean_joined : (work root next target : FileMap) (before after : List (List ℕ)) → before ≡ listing (differ work root) → after ≡ listing (differ next target)
    → listing (union (path_set before) (path_set after)) ≡ listing (unclean work root next target)
unfolding unclean
unclean_joined work root next target before after before_is after_is =
    λ i. listing (union ((ap path_set before_is ∙ path_set-listing (differ work root)) i) ((ap path_set after_is ∙ path_set-listing (differ next target)) i))

pub named_joined : (work root next target : FileMap) (told between : List (List ℕ)) → told ≡ listing (unclean work root next target) → between ≡ listing (differ root target)
    → listing (union (path_set told) (path_set between)) ≡ listing (union (unclean work root next target) (differ root target))
named_joined work root next target told between told_is between_is =
    λ i. listing (union ((ap path_set told_is ∙ path_set-listing (unclean work root next target)) i) ((ap path_set between_is ∙ path_set-listing (differ root target)) i))

-- ---- maps by what they hold at some paths

-- the dirty files, by the paths that are not clean
pub dirty_tabulated : (work root : FileMap) (ps : List (List ℕ)) → ps ≡ listing (differ work root) → tabulate ps (file_at work) ≡ dirty_files work root
dirty_tabulated work root ps are = same_file_map (tabulate ps (file_at work)) (dirty_files work root) (λ p.
    file_at-tabulate ps (file_at work) p
    ∙ sym (file_at-dirty work root p ∙ ap (λ b. cond (not b) (file_at work p) None) (clean_unless_listed work root ps p are)
    ∙ ap (λ b. cond b (file_at work p) None) (twice (list_any (λ q. same_path p q) ps))))
  where
    twice : (b : Bool) → not (not b) ≡ b
    twice true = refl
    twice false = refl

-- the files after a checkout, by the paths of all three
pub all_tabulated : (mode : Mode) (work root target : FileMap) (ps : List (List ℕ)) → ps ≡ listing (path_set (paths_of_all work root target))
    → tabulate ps (rule_of mode work root target) ≡ checked_out mode work root target
unfolding normal_files force_files
all_tabulated mode work root target ps are =
    same_members (rule_of mode work root target) ps (paths_of_all work root target) (λ p.
    ap (list_any (λ q. same_path p q)) are ∙ sym (has-listing (path_set (paths_of_all work root target)) p) ∙ has-path_set (paths_of_all work root target) p)
    ∙ by mode
  where
    enough : (b : Bool) (file : Option Content) → cond (is_some file || b) file None ≡ file
    enough b (Some file) = refl
    enough true None = refl
    enough false None = refl

    by : (mode : Mode) → tabulate (paths_of_all work root target) (rule_of mode work root target) ≡ checked_out mode work root target
    by Normal = refl
    by Dry = same_file_map (tabulate (paths_of_all work root target) (file_at work)) work (λ p.
        file_at-tabulate (paths_of_all work root target) (file_at work) p
        ∙ ap (λ b. cond b (file_at work p) None) (list_any-append (λ q. same_path p q) (paths work) (paths root ++ paths target)
        ∙ ap (λ b. b || list_any (λ q. same_path p q) (paths root ++ paths target)) (sym (fin.contains_key-keys work p)))
        ∙ enough (list_any (λ q. same_path p q) (paths root ++ paths target)) (file_at work p))
    by Force = refl
