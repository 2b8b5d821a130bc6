-- The same files over another commit.
use Rattle.std.proofs.Common.{◌≡◌, ◌≢◌, ℕ, suc, zero, ◌+◌, ◌<◌, ◌≤◌, Bool, true, false, cond, not, List, [], ◌∷◌, ◌||◌, map, drop, length, Option, Some, None, is_some, refl, sym, ap, subst, ◌∙◌, arith, add-one}
use Rattle.std.specs.Prelude.{IsSome}
use Rattle.std.specs.List.{list_any, slice_index_or}
use Rattle.std.specs.Ordering.{nat_cmp}
use Rattle.std.specs.Cmp.Lexicographic.{slice_cmp, nat_list_cmp_total}
use Rattle.std.specs.FinMap as fin
use Rattle.eden_ids.specs.declared.content.Content.{Content}
use Rattle.eden_ids.specs.FileMaps.{FileMap, file_at, same_file, same_path, differ, has, listing, path_set, put_option}
use Rattle.eden_ids.proofs.FileMapLemmas.{same_path-is, same_path-refl, same_file-is, same_file_map, has-differ, has-listing, put_option-at}
use Rattle.eden_objects.specs.Files.{files_of}
use Rattle.eden_objects.specs.declared.fault.CommitFault.{CommitFault}
use Rattle.eden_objects.specs.declared.fault.CommitFault.TheVariants.{NoCommit, NoMemory}
use Rattle.eden_treediff.specs.Merges.{differences}
use Rattle.eden_workcopy.specs.internal.Agreements.{Agrees, AllAgree, IsKept, IsLean, IsNearer, kept_below, kept_each, kept_entry}
use Rattle.eden_overlay.specs.Layers.{Layer, Entry, over}
use Rattle.eden_overlay.proofs.Overs.{file_below, over-nothing}
use Rattle.eden_overlay.proofs.Touched.{has-touched, set_over}
use Rattle.std.proofs.lemmas.Bool.{not-false}
use Rattle.std.proofs.Math.Bool.{or-true}

-- ---- one path

pub same_here : (wanted files : FileMap) (p : List ℕ) → same_file (file_at wanted p) (file_at files p) ≡ true → Agrees wanted files p
same_here wanted files p e = sym (same_file-is (file_at wanted p) (file_at files p) e)

pub put_here : (wanted before after : FileMap) (p : List ℕ) (file : Option Content) → after ≡ put_option before p file → file ≡ file_at wanted p → Agrees wanted after p
put_here wanted before after p file is file_is =
    ap (λ m. file_at m p) is ∙ put_option-at before p file p ∙ ap (λ b. cond b file (file_at before p)) (same_path-refl p) ∙ file_is

pub put_nearer : (wanted before after : FileMap) (p : List ℕ) (file : Option Content) → after ≡ put_option before p file → file ≡ file_at wanted p → IsNearer wanted before after
put_nearer wanted before after p file is file_is q agrees =
    ap (λ m. file_at m q) is
    ∙ put_option-at before p file q
    ∙ (elim (same_path q p) as (λ b. same_path q p ≡ b → cond b file (file_at before q) ≡ file_at wanted q) [
      | true ↦ λ e. file_is ∙ ap (file_at wanted) (sym (same_path-is q p e))
      | false ↦ λ e. agrees
    ] refl)

-- where another file is wanted than the commit's, the path may be said
pub lean_put : (wanted base : FileMap) (before after : Layer) (p : List ℕ) (file : Option Content) → after ≡ fin.insert before p file
    → same_file (file_at wanted p) (file_at base p) ≡ false → IsLean wanted base before → IsLean wanted base after
lean_put wanted base before after p file is other lean q touched =
    by (same_path q p) refl (sym (ap is_some (ap (λ l. fin.get l q) is ∙ fin.get-insert nat_list_cmp_total before p file q)) ∙ touched)
  where
    by : (b : Bool) → same_path q p ≡ b → is_some (cond (same_path q p) (Some file) (fin.get before q)) ≡ true → same_file (file_at wanted q) (file_at base q) ≡ false
    by true e there = ap (λ r. same_file (file_at wanted r) (file_at base r)) (same_path-is q p e) ∙ other
    by false e there = lean q (sym (ap (λ b. is_some (cond b (Some file) (fin.get before q))) e) ∙ there)

pub put_lean : (wanted base : FileMap) (before after : Layer) (p : List ℕ) (file : Option Content) → after ≡ fin.insert before p file
    → same_file (file_at wanted p) (file_at (over base before) p) ≡ false → IsLean wanted base before → IsLean wanted base after
put_lean wanted base before after p file is other lean = lean_put wanted base before after p file is (here (fin.get before p) refl) lean
  where
    here : (o : Option (Option Content)) → fin.get before p ≡ o → same_file (file_at wanted p) (file_at base p) ≡ false
    here None e = sym (ap (same_file (file_at wanted p)) (file_below base before p e)) ∙ other
    here (Some f) e = lean p (ap is_some e)

pub none_lean : (wanted base : FileMap) (layer : Layer) → layer ≡ fin.empty → IsLean wanted base layer
none_lean wanted base layer none p there = let bad : false ≡ true = sym (ap is_some (ap (λ l. fin.get l p) none ∙ fin.get-empty (slice_cmp nat_cmp) p)) ∙ there in absurd (cc)

pub lean_differs : (wanted next base : FileMap) (layer : Layer) → next ≡ wanted → IsLean wanted base layer → (p : List ℕ) → has (path_set (fin.keys layer)) p ≡ true → has (differ next base) p ≡ true
lean_differs wanted next base layer is lean p touched =
    has-differ next base p
    ∙ ap (λ m. not (same_file (file_at m p) (file_at base p))) is
    ∙ ap not (lean p (sym (has-touched layer p) ∙ touched))

-- ---- many paths

pub all_nearer : (wanted before after : FileMap) (ps : List (List ℕ)) → IsNearer wanted before after → AllAgree wanted before ps → AllAgree wanted after ps
all_nearer wanted before after [] nearer all = tt
all_nearer wanted before after (p ∷ ps) nearer all = (nearer p all.0, all_nearer wanted before after ps nearer all.1)

pub nearer_still : (wanted a b c : FileMap) → IsNearer wanted a b → IsNearer wanted b c → IsNearer wanted a c
nearer_still wanted a b c first second p agrees = second p (first p agrees)

-- ---- the loop: what agrees at the entries and the paths that are left agrees at all of them

abbrev pub Leaves : FileMap → FileMap → List (List ℕ) → List (List ℕ) → Type 0
Leaves wanted files left all = (next : FileMap) → IsNearer wanted files next → AllAgree wanted next left → AllAgree wanted next all

pub leaves_rest : (wanted before after : FileMap) (e : Entry) (es fs whole : List Entry) → es ≡ e ∷ fs → Leaves wanted before (map (λ e. e.0) es) (map (λ e. e.0) whole)
    → IsNearer wanted before after → Agrees wanted after e.0 → Leaves wanted after (map (λ e. e.0) fs) (map (λ e. e.0) whole)
leaves_rest wanted before after e es fs whole is leaves nearer here next later all =
    leaves next (nearer_still wanted before after next nearer later)
    (subst (λ (gs : List Entry). AllAgree wanted next (map (λ e. e.0) gs)) (sym is) (later e.0 here, all))

pub none_leave : (wanted files next : FileMap) (es whole : List Entry) → es ≡ [] → Leaves wanted files (map (λ e. e.0) es) (map (λ e. e.0) whole) → IsNearer wanted files next
    → AllAgree wanted next (map (λ e. e.0) whole)
none_leave wanted files next es whole is leaves nearer = leaves next nearer (subst (λ (gs : List Entry). AllAgree wanted next (map (λ e. e.0) gs)) (sym is) tt)

pub cut : (ps : List (List ℕ)) (i : ℕ) (p : List ℕ) → i < length ps → p ≡ slice_index_or ps i p → drop i ps ≡ p ∷ drop (suc i) ps
cut [] i p within is = absurd (omega arith)
cut (x ∷ xs) zero p within is = ap (λ y. y ∷ xs) (sym is)
cut (x ∷ xs) (suc i) p within is = cut xs i p (omega arith) is

pub leaves_paths : (wanted before after : FileMap) (ps : List (List ℕ)) (i : ℕ) (p : List ℕ) → i < length ps → p ≡ slice_index_or ps i p → Leaves wanted before (drop i ps) ps
    → IsNearer wanted before after → Agrees wanted after p → Leaves wanted after (drop (i + 1) ps) ps
leaves_paths wanted before after ps i p within is leaves nearer here next later all =
    leaves next (nearer_still wanted before after next nearer later)
    (subst (AllAgree wanted next) (sym (cut ps i p within is)) (later p here, subst (λ n. AllAgree wanted next (drop n ps)) (add-one i) all))

pub past : (ps : List (List ℕ)) (n : ℕ) → length ps ≤ n → drop n ps ≡ []
past [] zero h = refl
past [] (suc n) h = refl
past (p ∷ ps) zero h = absurd (omega arith)
past (p ∷ ps) (suc n) h = past ps n (omega arith)

pub no_paths_left : (wanted files next : FileMap) (ps : List (List ℕ)) (n : ℕ) → length ps ≤ n → Leaves wanted files (drop n ps) ps → IsNearer wanted files next → AllAgree wanted next ps
no_paths_left wanted files next ps n within leaves nearer = leaves next nearer (subst (AllAgree wanted next) (sym (past ps n within)) tt)

-- ---- the layer after each path

pub each_next : (root : FileMap) (layer before after : Layer) (ps : List (List ℕ)) (i : ℕ) (p : List ℕ) (last : Layer) → i < length ps → p ≡ slice_index_or ps i p → after ≡ kept_below root layer before p
    → kept_each root layer before (drop i ps) ≡ last → kept_each root layer after (drop (i + 1) ps) ≡ last
each_next root layer before after ps i p last within is put all =
    ap (λ n. kept_each root layer after (drop n ps)) (add-one i)
    ∙ ap (λ l. kept_each root layer l (drop (suc i) ps)) put
    ∙ ap (kept_each root layer before) (sym (cut ps i p within is))
    ∙ all

pub each_last : (root : FileMap) (layer next : Layer) (ps : List (List ℕ)) (n : ℕ) (last : Layer) → length ps ≤ n → kept_each root layer next (drop n ps) ≡ last → next ≡ last
each_last root layer next ps n last within all = ap (kept_each root layer next) (sym (past ps n within)) ∙ all

-- ---- the whole

at_all : (wanted files : FileMap) (ps : List (List ℕ)) (p : List ℕ) → list_any (λ q. same_path p q) ps ≡ true → AllAgree wanted files ps → Agrees wanted files p
at_all wanted files [] p e all = absurd (cc)
at_all wanted files (q ∷ qs) p e all =
    elim (same_path p q) as (λ b. same_path p q ≡ b → (b || list_any (λ q. same_path p q) qs) ≡ true → Agrees wanted files p) [
      | true ↦ λ s _. subst (Agrees wanted files) (sym (same_path-is p q s)) all.0
      | false ↦ λ s more. at_all wanted files qs p more all.1
    ] refl e

-- ---- one path of a layer over the other commit

pub record Keeps (wanted base : FileMap) (before after : Layer) (p : List ℕ) : Type 0 where
  pub here : Agrees wanted (over base after) p
  pub there : IsNearer wanted (over base before) (over base after)
  pub lean : IsLean wanted base before → IsLean wanted base after

same_keeps : (wanted base : FileMap) (before after : Layer) (p : List ℕ) → after ≡ before → Agrees wanted (over base before) p → Keeps wanted base before after p
same_keeps wanted base before after p is agrees = record {
  here = subst (λ (l : Layer). Agrees wanted (over base l) p) (sym is) agrees;
  there = subst (λ (l : Layer). IsNearer wanted (over base before) (over base l)) (sym is) (λ q here. here);
  lean = subst (λ (l : Layer). IsLean wanted base before → IsLean wanted base l) (sym is) (λ lean. lean);
}

set_keeps : (wanted base : FileMap) (before after : Layer) (p : List ℕ) (file : Option Content) → after ≡ fin.insert before p file → file ≡ file_at wanted p
    → (IsLean wanted base before → IsLean wanted base after) → Keeps wanted base before after p
set_keeps wanted base before after p file is file_is lean =
    let map = set_over base before after p file is in record {
      here = put_here wanted (over base before) (over base after) p file map file_is;
      there = put_nearer wanted (over base before) (over base after) p file map file_is;
      lean = lean;
    }

pub entry_keeps : (wanted base : FileMap) (before after : Layer) (p : List ℕ) (file : Option Content) → after ≡ kept_entry base before p file → file ≡ file_at wanted p
    → Keeps wanted base before after p
entry_keeps wanted base before after p file is file_is = by (same_file file (file_at (over base before) p)) refl is
  where
    wanted_file : same_file (file_at wanted p) (file_at (over base before) p) ≡ same_file file (file_at (over base before) p)
    wanted_file = ap (λ f. same_file f (file_at (over base before) p)) (sym file_is)

    by : (b : Bool) → same_file file (file_at (over base before) p) ≡ b → after ≡ cond b before (fin.insert before p file) → Keeps wanted base before after p
    by true same is = same_keeps wanted base before after p is (same_here wanted (over base before) p (wanted_file ∙ same))
    by false other is = set_keeps wanted base before after p file is file_is (put_lean wanted base before after p file is (wanted_file ∙ other))

pub below_keeps : (root base : FileMap) (layer before after : Layer) (p : List ℕ) → after ≡ kept_below root layer before p → has (differ root base) p ≡ true
    → AllAgree (over root layer) (over base before) (fin.keys layer) → Keeps (over root layer) base before after p
below_keeps root base layer before after p is differs touched = by (fin.get layer p) refl is
  where
    other : (b : Bool) → not b ≡ true → b ≡ false
    other true e = absurd (cc)
    other false e = refl

    by : (o : Option (Option Content)) → fin.get layer p ≡ o → after ≡ cond (is_some o) before (fin.insert before p (file_at root p)) → Keeps (over root layer) base before after p
    by (Some file) there is =
        same_keeps (over root layer) base before after p is
        (at_all (over root layer) (over base before) (fin.keys layer) p (sym (fin.contains_key-keys layer p) ∙ ap is_some there) touched)
    by None none is =
        let below : file_at (over root layer) p ≡ file_at root p = file_below root layer p none in
        let apart : same_file (file_at (over root layer) p) (file_at base p) ≡ false =
        ap (λ f. same_file f (file_at base p)) below ∙ other (same_file (file_at root p) (file_at base p)) (sym (has-differ root base p) ∙ differs) in
        set_keeps (over root layer) base before after p (file_at root p) is (sym below) (lean_put (over root layer) base before after p (file_at root p) is apart)

-- ---- the entries that are left

pub record Left (wanted base : FileMap) (layer next : Layer) (es : List Entry) : Type 0 where
  pub here : Leaves wanted (over base next) (map (λ e. e.0) es) (map (λ e. e.0) (fin.entries layer))
  pub there : IsNearer wanted base (over base next)
  pub lean : IsLean wanted base next

pub left_first : (wanted base : FileMap) (layer next : Layer) (es : List Entry) → next ≡ fin.empty → es ≡ fin.entries layer → Left wanted base layer next es
left_first wanted base layer next es none is = record {
  here = λ later nearer all. subst (λ (es : List Entry). AllAgree wanted later (map (λ e. e.0) es)) is all;
  there = λ p agrees. ap (λ l. file_at (over base l) p) none ∙ ap (λ m. file_at m p) (over-nothing base) ∙ agrees;
  lean = none_lean wanted base next none;
}

pub left_next : (wanted base : FileMap) (layer before after : Layer) (e : Entry) (es fs : List Entry) → es ≡ e ∷ fs → Keeps wanted base before after e.0
    → Left wanted base layer before es → Left wanted base layer after fs
left_next wanted base layer before after e es fs is keeps left = record {
  here = leaves_rest wanted (over base before) (over base after) e es fs (fin.entries layer) is left.here keeps.there keeps.here;
  there = nearer_still wanted base (over base before) (over base after) left.there keeps.there;
  lean = keeps.lean left.lean;
}

pub left_none : (wanted base : FileMap) (layer next : Layer) (es : List Entry) → es ≡ [] → Left wanted base layer next es → IsKept wanted base next (fin.keys layer)
left_none wanted base layer next es is left = record {
  here = none_leave wanted (over base next) (over base next) es (fin.entries layer) is left.here (λ p agrees. agrees);
  there = left.there;
  lean = left.lean;
}

-- ---- the paths on which the commits differ

pub kept_still : (wanted base : FileMap) (before after : Layer) (p : List ℕ) (ps : List (List ℕ)) → Keeps wanted base before after p → IsKept wanted base before ps → IsKept wanted base after ps
kept_still wanted base before after p ps keeps kept = record {
  here = all_nearer wanted (over base before) (over base after) ps keeps.there kept.here;
  there = nearer_still wanted base (over base before) (over base after) kept.there keeps.there;
  lean = keeps.lean kept.lean;
}

any_at : (ps : List (List ℕ)) (i : ℕ) (p : List ℕ) → i < length ps → p ≡ slice_index_or ps i p → list_any (λ q. same_path p q) ps ≡ true
any_at [] i p within is = absurd (omega arith)
any_at (x ∷ xs) zero p within is = ap (λ b. b || list_any (λ q. same_path p q) xs) (ap (same_path p) (sym is) ∙ same_path-refl p)
any_at (x ∷ xs) (suc i) p within is = ap (λ b. same_path p x || b) (any_at xs i p (omega arith) is) ∙ or-true (same_path p x)

-- a path of the difference is one on which the commits differ
pub differs_at : (root base : FileMap) (ps : List (List ℕ)) (i : ℕ) (p : List ℕ) → ps ≡ listing (differ root base) → i < length ps → p ≡ slice_index_or ps i p
    → has (differ root base) p ≡ true
differs_at root base ps i p is within at =
    has-listing (differ root base) p ∙ ap (list_any (λ q. same_path p q)) (sym is) ∙ any_at ps i p within at

-- ---- the commits

pub listed_differ : (first second : Option FileMap) (ps : List (List ℕ)) → differences first second ≡ Some ps → IsSome second × (ps ≡ listing (differ (files_of first) (files_of second)))
listed_differ None second ps e = absurd (cc)
listed_differ (Some f) None ps e = absurd (cc)
listed_differ (Some f) (Some g) ps e = (refl, cc)

pub no_second : (first second : Option FileMap) → IsSome first → differences first second ≡ None → second ≡ None
no_second None second some e = absurd (cc)
no_second (Some f) None some e = refl
no_second (Some f) (Some g) some e = absurd (cc)

pub same_files : (base target next : FileMap) (layer : Layer) (ps : List (List ℕ)) → ps ≡ listing (differ base target)
    → AllAgree (over base layer) next (fin.keys layer) → AllAgree (over base layer) next ps → IsNearer (over base layer) target next → next ≡ over base layer
same_files base target next layer ps is touched differing nearer =
    same_file_map next (over base layer) (λ p. at p (fin.get layer p) refl)
  where
    here : (p : List ℕ) (b : Bool) → has (differ base target) p ≡ b → file_at (over base layer) p ≡ file_at base p → Agrees (over base layer) next p
    here p true e below =
        at_all (over base layer) next ps p (ap (list_any (λ q. same_path p q)) is ∙ sym (has-listing (differ base target) p) ∙ e) differing
    here p false e below =
        let same : same_file (file_at base p) (file_at target p) ≡ true = not-false _ (sym (has-differ base target p) ∙ e) in
        nearer p (sym (same_file-is (file_at base p) (file_at target p) same) ∙ sym below)

    at : (p : List ℕ) (o : Option (Option Content)) → fin.get layer p ≡ o → Agrees (over base layer) next p
    at p None e = here p (has (differ base target) p) refl (file_below base layer p e)
    at p (Some file) e = at_all (over base layer) next (fin.keys layer) p (sym (fin.contains_key-keys layer p) ∙ ap is_some e) touched

pub no_memory_else : (fault : CommitFault) → fault ≡ NoCommit → fault ≢ NoMemory
no_memory_else fault is other = let bad : NoCommit ≡ NoMemory = sym is ∙ other in absurd (cc)
