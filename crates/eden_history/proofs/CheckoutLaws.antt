-- What a checkout makes of the files, at each path, and that no two of them clash.
use Rattle.std.proofs.Common.{◌≡◌, ℕ, Bool, true, false, cond, not, ◌&&◌, ◌||◌, List, ◌++◌, Option, Some, None, is_some, refl, sym, ap, subst, ◌∙◌}
use Rattle.std.specs.Prelude.{IsSome}
use Rattle.std.specs.List.{list_any}
use Rattle.std.specs.FinMap as fin
use Rattle.std.proofs.lemmas.Bool.{and_parts, false_from_ne_true, not-false}
use Rattle.eden_ids.specs.declared.content.Content.{Content}
use Rattle.eden_ids.specs.Paths.{clashes, lies_below}
use Rattle.eden_ids.specs.FileMaps.{FileMap, IsFileMap, file_at, paths, same_file, same_path, differ, path_set, has, clashes_any}
use Rattle.eden_ids.proofs.FileMapLemmas.{file_at-tabulate, has-append, has-differ, has-path_set, has-union, same_file-is, unlisted, has-where, held}
use Rattle.eden_history.specs.declared.change.Mode.{Mode}
use Rattle.eden_history.specs.declared.change.Mode.TheVariants.{Normal, Dry, Force}
use Rattle.eden_history.specs.Checkouts.{is_clean, clashes_dirty, is_blocked, paths_of_all, normal_rule, normal_files, force_rule, force_files, rule_of, checked_out, is_conflict, conflicts, unclean}
use Rattle.std.proofs.Math.Bool.{or_comm}
use Rattle.eden_ids.proofs.TreeQuestions.{any_witness}

-- ---- at each path

stands_in : (m : FileMap) (p : List ℕ) → has (path_set (paths m)) p ≡ is_some (file_at m p)
stands_in m p = has-path_set (paths m) p ∙ sym (fin.contains_key-keys m p)

has-all : (work root target : FileMap) (p : List ℕ)
    → has (path_set (paths_of_all work root target)) p ≡ (is_some (file_at work p) || (is_some (file_at root p) || is_some (file_at target p)))
has-all work root target p =
    has-append (paths work) (paths root ++ paths target) p
    ∙ ap (λ b. b || has (path_set (paths root ++ paths target)) p) (stands_in work p)
    ∙ ap (λ b. is_some (file_at work p) || b)
    (has-append (paths root) (paths target) p
    ∙ ap (λ b. b || has (path_set (paths target)) p) (stands_in root p)
    ∙ ap (λ b. is_some (file_at root p) || b) (stands_in target p))

listed_in_all : (work root target : FileMap) (p : List ℕ)
    → list_any (λ q. same_path p q) (paths_of_all work root target) ≡ (is_some (file_at work p) || (is_some (file_at root p) || is_some (file_at target p)))
listed_in_all work root target p = sym (has-path_set (paths_of_all work root target) p) ∙ has-all work root target p

-- the files after a normal checkout are those of its rule
pub file_at-normal : (work root target : FileMap) (p : List ℕ) → file_at (normal_files work root target) p ≡ normal_rule work root target p
unfolding normal_files
file_at-normal work root target p =
    file_at-tabulate (paths_of_all work root target) (normal_rule work root target) p
    ∙ ap (λ b. cond b (normal_rule work root target p) None) (listed_in_all work root target p)
    ∙ enough (is_clean work root p) (clashes_dirty work root p) (file_at work p) (file_at root p) (file_at target p)
  where
    enough : (clean dirty : Bool) (w r t : Option Content)
        → cond (is_some w || (is_some r || is_some t)) (cond clean (cond (is_some t && dirty) None t) w) None ≡ cond clean (cond (is_some t && dirty) None t) w
    enough clean dirty (Some w) r t = refl
    enough clean dirty None (Some r) t = refl
    enough clean dirty None None (Some t) = refl
    enough true dirty None None None = refl
    enough false dirty None None None = refl

-- the files after a forced checkout are those of its rule
pub file_at-force : (work root target : FileMap) (p : List ℕ) → file_at (force_files work root target) p ≡ force_rule work root target p
unfolding force_files
file_at-force work root target p =
    file_at-tabulate (paths_of_all work root target) (force_rule work root target) p
    ∙ ap (λ b. cond b (force_rule work root target p) None) (listed_in_all work root target p)
    ∙ enough (clashes_any target p) (file_at work p) (file_at root p) (file_at target p)
  where
    enough : (any : Bool) (w r t : Option Content)
        → cond (is_some w || (is_some r || is_some t)) (cond (is_some r || is_some t) t (cond any None w)) None ≡ cond (is_some r || is_some t) t (cond any None w)
    enough any (Some w) r t = refl
    enough any None (Some r) t = refl
    enough any None None (Some t) = refl
    enough true None None None = refl
    enough false None None None = refl

-- the files after a checkout are those of its mode's rule
pub file_at-checked_out : (mode : Mode) (work root target : FileMap) (p : List ℕ) → file_at (checked_out mode work root target) p ≡ rule_of mode work root target p
file_at-checked_out Normal work root target p = file_at-normal work root target p
file_at-checked_out Dry work root target p = refl
file_at-checked_out Force work root target p = file_at-force work root target p

-- the conflicts have each path that is one
pub has-conflicts : (work root target : FileMap) (p : List ℕ) → has (conflicts work root target) p ≡ is_conflict work root target p
unfolding conflicts
has-conflicts work root target p =
    has-where (path_set (paths_of_all work root target)) (is_conflict work root target) p
    ∙ ap (λ b. is_conflict work root target p && b) (has-all work root target p)
    ∙ enough (is_clean work root p) (clashes_dirty work root p) (file_at work p) (file_at root p) (file_at target p)
  where
    all : (b : Bool) → (b && true) ≡ b
    all true = refl
    all false = refl

    enough : (clean dirty : Bool) (w r t : Option Content)
        → (cond clean (is_some t && dirty) (not (same_file r t) && not (same_file w t)) && (is_some w || (is_some r || is_some t))) ≡ cond clean (is_some t && dirty) (not (same_file r t) && not (same_file w t))
    enough clean dirty (Some w) r t = all _
    enough clean dirty None (Some r) t = all _
    enough clean dirty None None (Some t) = all _
    enough true dirty None None None = refl
    enough false dirty None None None = refl

pub has-unclean : (work root next target : FileMap) (p : List ℕ) → has (unclean work root next target) p ≡ (has (differ work root) p || has (differ next target) p)
unfolding unclean
has-unclean work root next target p = has-union (differ work root) (differ next target) p

-- ---- no two paths clash

clashes_turned : (p q : List ℕ) → clashes p q ≡ clashes q p
clashes_turned p q = or_comm (lies_below p q) (lies_below q p)

-- a path that clashes with no dirty one that has a file
apart_from_dirty : (work root : FileMap) (p q : List ℕ) → clashes_dirty work root p ≡ false → is_clean work root q ≡ false → IsSome (file_at work q) → clashes p q ≡ false
apart_from_dirty work root p q none dirty here =
    false_from_ne_true (clashes p q)
    (λ e. let bad : false ≡ true =
    sym (unlisted (λ r. clashes p r && not (is_clean work root r)) (paths work) q none (held work q here))
    ∙ ap (λ b. b && not (is_clean work root q)) e ∙ ap not dirty in cc)

apart_from_any : (m : FileMap) (p q : List ℕ) → clashes_any m p ≡ false → IsSome (file_at m q) → clashes p q ≡ false
apart_from_any m p q none here = unlisted (λ r. clashes p r) (paths m) q none (held m q here)

-- the files after a normal checkout are a file map
pub normal_no_clash : (work root target : FileMap) → IsFileMap work → IsFileMap target → IsFileMap (normal_files work root target)
normal_no_clash work root target ok_work ok_target p q hp hq =
    cases (is_clean work root p) (is_clean work root q) refl refl
    (subst IsSome (file_at-normal work root target p) hp) (subst IsSome (file_at-normal work root target q) hq)
  where
    free : (dirty : Bool) (t : Option Content) → IsSome (cond (is_some t && dirty) None t) → (dirty ≡ false) × IsSome t
    free dirty None h = absurd (let bad : false ≡ true = h in cc)
    free true (Some t) h = absurd (let bad : false ≡ true = h in cc)
    free false (Some t) h = (refl, refl)

    cases : (a b : Bool) → is_clean work root p ≡ a → is_clean work root q ≡ b
        → IsSome (cond a (cond (is_blocked work root target p) None (file_at target p)) (file_at work p))
        → IsSome (cond b (cond (is_blocked work root target q) None (file_at target q)) (file_at work q)) → clashes p q ≡ false
    cases true true cp cq x y = ok_target p q (free (clashes_dirty work root p) (file_at target p) x).1 (free (clashes_dirty work root q) (file_at target q) y).1
    cases true false cp cq x y = apart_from_dirty work root p q (free (clashes_dirty work root p) (file_at target p) x).0 cq y
    cases false true cp cq x y = clashes_turned p q ∙ apart_from_dirty work root q p (free (clashes_dirty work root q) (file_at target q) y).0 cp x
    cases false false cp cq x y = ok_work p q x y

-- the files after a forced checkout are a file map
pub force_no_clash : (work root target : FileMap) → IsFileMap work → IsFileMap target → IsFileMap (force_files work root target)
force_no_clash work root target ok_work ok_target p q hp hq =
    cases (is_some (file_at root p) || is_some (file_at target p)) (is_some (file_at root q) || is_some (file_at target q))
    (subst IsSome (file_at-force work root target p) hp) (subst IsSome (file_at-force work root target q) hq)
  where
    free : (any : Bool) (w : Option Content) → IsSome (cond any None w) → (any ≡ false) × IsSome w
    free true w h = absurd (let bad : false ≡ true = h in cc)
    free false w h = (refl, h)

    cases : (a b : Bool)
        → IsSome (cond a (file_at target p) (cond (clashes_any target p) None (file_at work p)))
        → IsSome (cond b (file_at target q) (cond (clashes_any target q) None (file_at work q))) → clashes p q ≡ false
    cases true true x y = ok_target p q x y
    cases true false x y = clashes_turned p q ∙ apart_from_any target q p (free (clashes_any target q) (file_at work q) y).0 x
    cases false true x y = apart_from_any target p q (free (clashes_any target p) (file_at work p) x).0 y
    cases false false x y = ok_work p q (free (clashes_any target p) (file_at work p) x).1 (free (clashes_any target q) (file_at work q) y).1

-- the files after a checkout are a file map
pub checked_out_no_clash : (mode : Mode) (work root target : FileMap) → IsFileMap work → IsFileMap target → IsFileMap (checked_out mode work root target)
checked_out_no_clash Normal work root target ok_work ok_target = normal_no_clash work root target ok_work ok_target
checked_out_no_clash Dry work root target ok_work ok_target = ok_work
checked_out_no_clash Force work root target ok_work ok_target = force_no_clash work root target ok_work ok_target

-- ---- where a checkout changes anything

-- a clean path of the target that is blocked is one on which root and target differ
pub clash_is_new : (work root target : FileMap) (p : List ℕ) → IsFileMap work → is_clean work root p ≡ true → is_blocked work root target p ≡ true
    → has (differ root target) p ≡ true
clash_is_new work root target p ok clean blocked =
    has-differ root target p ∙ ap not (false_from_ne_true (same_file (file_at root p) (file_at target p)) clash)
  where
    clash : same_file (file_at root p) (file_at target p) ≡ true → ⊥
    clash same =
        let parts = and_parts (is_some (file_at target p)) (clashes_dirty work root p) blocked in
        let here : is_some (file_at work p) ≡ true =
        ap is_some (same_file-is (file_at work p) (file_at root p) clean ∙ same_file-is (file_at root p) (file_at target p) same) ∙ parts.0 in
        let found = any_witness (λ q. clashes p q && not (is_clean work root q)) (paths work) parts.1 in
        let there : is_some (file_at work found.0) ≡ true = fin.contains_key-keys work found.0 ∙ found.1 in
        let clashing = and_parts (clashes p found.0) (not (is_clean work root found.0)) found.2 in
        let bad : true ≡ false = sym clashing.0 ∙ ok p found.0 here there in
        cc

-- so root and target differ on each conflict
pub conflict_differs : (work root target : FileMap) (p : List ℕ) → IsFileMap work → is_conflict work root target p ≡ true → has (differ root target) p ≡ true
conflict_differs work root target p ok e = cases (is_clean work root p) refl e
  where
    cases : (a : Bool) → is_clean work root p ≡ a
        → cond a (is_blocked work root target p) (not (same_file (file_at root p) (file_at target p)) && not (same_file (file_at work p) (file_at target p))) ≡ true
        → has (differ root target) p ≡ true
    cases true clean h = clash_is_new work root target p ok clean h
    cases false dirty h = has-differ root target p ∙ (and_parts (not (same_file (file_at root p) (file_at target p))) (not (same_file (file_at work p) (file_at target p))) h).0

pub conflicts_in_differ : (work root target : FileMap) (p : List ℕ) → IsFileMap work → has (conflicts work root target) p ≡ true → has (differ root target) p ≡ true
conflicts_in_differ work root target p ok e = conflict_differs work root target p ok (sym (has-conflicts work root target p) ∙ e)

pub same_where : (f g : FileMap) (p : List ℕ) → has (differ f g) p ≡ false → file_at f p ≡ file_at g p
same_where f g p e = same_file-is (file_at f p) (file_at g p) (not-false (same_file (file_at f p) (file_at g p)) (sym (has-differ f g p) ∙ e))

-- a clean path that is no conflict becomes the target's
pub normal_elsewhere : (work root target : FileMap) (p : List ℕ) → is_clean work root p ≡ true → is_conflict work root target p ≡ false
    → normal_rule work root target p ≡ file_at target p
normal_elsewhere work root target p clean none = cases (is_clean work root p) clean none
  where
    cases : (a : Bool) → a ≡ true → cond a (is_blocked work root target p) (not (same_file (file_at root p) (file_at target p)) && not (same_file (file_at work p) (file_at target p))) ≡ false
        → cond a (cond (is_blocked work root target p) None (file_at target p)) (file_at work p) ≡ file_at target p
    cases true c h = ap (λ b. cond b None (file_at target p)) h
    cases false c h = absurd (cc)

-- a clean path becomes the target's where a checkout is forced
pub force_elsewhere : (work root target : FileMap) (p : List ℕ) → is_clean work root p ≡ true → force_rule work root target p ≡ file_at target p
force_elsewhere work root target p clean = cases (file_at work p) (file_at root p) (file_at target p) (clashes_any target p) (same_file-is (file_at work p) (file_at root p) clean)
  where
    cases : (w r t : Option Content) (any : Bool) → w ≡ r → cond (is_some r || is_some t) t (cond any None w) ≡ t
    cases w None None false same = same
    cases w r t any same = refl
