-- What file maps and sets of paths hold after each change of them.
use Rattle.std.proofs.Common.{◌≡◌, ◌≢◌, ℕ, Bool, true, false, cond, not, ◌&&◌, ◌||◌, nat_eq, List, [], ◌∷◌, ◌++◌, Option, Some, None, is_some, refl, sym, ap, subst, ◌∙◌, ◌↔◌, length, arith}
use Rattle.std.proofs.lemmas.Slice.Eq.{bytes_eq-Decides}
use Rattle.std.proofs.lemmas.List.{drop_all}
use Rattle.std.proofs.lemmas.List.Folds.{list_any-append}
use Rattle.std.proofs.lemmas.Bool.{and_parts, or_from, or_parts}
use Rattle.std.specs.declared.cmp.Ordering.TheVariants.{Equal}
use Rattle.std.specs.Prelude.{IsTrue, IsSome}
use Rattle.std.specs.Ordering.{nat_cmp, is_eq}
use Rattle.std.specs.Cmp.{tied_itself, Equal-is, eq_by_cmp_equiv}
use Rattle.std.specs.Cmp.Lexicographic.{slice_cmp, nat_list_cmp_total, texts_ties}
use Rattle.std.specs.List.{list_any, starts_with}
use Rattle.std.specs.FinMap as fin
use Rattle.std.specs.FinMap.{slice_cmp-IsAntisymmetric, nat_cmp-IsAntisymmetric}
use Rattle.eden_ids.specs.declared.content.Kind.{Kind}
use Rattle.eden_ids.specs.declared.content.Kind.TheVariants.{Plain, Exec, Link}
use Rattle.eden_ids.specs.declared.content.Content.{Content}
use Rattle.eden_ids.specs.Paths.{clashes, lies_below}
use Rattle.eden_ids.specs.Sameness.{same_bytes}
use Rattle.eden_ids.proofs.BelowLemmas.{below_in_steps}
use Rattle.eden_ids.specs.FileMaps.{FileMap, no_files, file_at, paths, PathSet, has, listing, no_paths, path_set, union, same_path, same_kind, same_file, differ, put_option, tabulate, has_file_above, has_file_below, IsFileMap}
use Rattle.std.proofs.Math.Bool.{and-false}

pub same_order : (p q : List ℕ) → slice_cmp nat_cmp p q ≡ Equal → p ≡ q
same_order = slice_cmp-IsAntisymmetric nat_cmp-IsAntisymmetric

pub same_path-refl : (p : List ℕ) → same_path p p ≡ true
same_path-refl p = ap is_eq (tied_itself nat_list_cmp_total p)

pub same_path-is : (p q : List ℕ) → same_path p q ≡ true → p ≡ q
same_path-is p q e = same_order p q ((Equal-is (slice_cmp nat_cmp p q)).0 e)

-- the map's order and the bytes say the same
pub same_path-bytes : (p q : List ℕ) → same_path p q ≡ same_bytes p q
same_path-bytes p q = sym (texts_ties p q)

pub same_path-other : (p q : List ℕ) → p ≢ q → same_path p q ≡ false
same_path-other p q apart = elim (same_path p q) as (λ b. same_path p q ≡ b → b ≡ false) [ true ↦ λ e. absurd (apart (same_path-is p q e)) | false ↦ λ e. refl ] refl

pub same_path-turned : (p q : List ℕ) → same_path p q ≡ same_path q p
same_path-turned p q = (eq_by_cmp_equiv nat_list_cmp_total).symm p q

pub file_at-none : (p : List ℕ) → file_at no_files p ≡ None
file_at-none p = fin.get-empty (slice_cmp nat_cmp) p

pub file_at-insert : (m : FileMap) (k : List ℕ) (f : Content) (p : List ℕ) → file_at (fin.insert m k f) p ≡ cond (same_path p k) (Some f) (file_at m p)
file_at-insert m k f p = fin.get-insert nat_list_cmp_total m k f p

pub file_at-insert_here : (m : FileMap) (k : List ℕ) (f : Content) → file_at (fin.insert m k f) k ≡ Some f
file_at-insert_here m k f = file_at-insert m k f k ∙ ap (λ b. cond b (Some f) (file_at m k)) (same_path-refl k)

pub file_at-insert_other : (m : FileMap) (k : List ℕ) (f : Content) (p : List ℕ) → p ≢ k → file_at (fin.insert m k f) p ≡ file_at m p
file_at-insert_other m k f p apart = file_at-insert m k f p ∙ ap (λ b. cond b (Some f) (file_at m p)) (same_path-other p k apart)

pub file_at-remove : (m : FileMap) (k p : List ℕ) → file_at (fin.remove m k) p ≡ cond (same_path p k) None (file_at m p)
file_at-remove m k p = fin.get-remove nat_list_cmp_total m k p

pub file_at-remove_here : (m : FileMap) (k : List ℕ) → file_at (fin.remove m k) k ≡ None
file_at-remove_here m k = file_at-remove m k k ∙ ap (λ b. cond b None (file_at m k)) (same_path-refl k)

pub file_at-remove_other : (m : FileMap) (k p : List ℕ) → p ≢ k → file_at (fin.remove m k) p ≡ file_at m p
file_at-remove_other m k p apart = file_at-remove m k p ∙ ap (λ b. cond b None (file_at m p)) (same_path-other p k apart)

-- two maps that answer alike are one
pub same_file_map : (m n : FileMap) → ((p : List ℕ) → file_at m p ≡ file_at n p) → m ≡ n
same_file_map = fin.same_map nat_list_cmp_total same_order

pub unit_is : (x y : Option (Unit {0})) → is_some x ≡ is_some y → x ≡ y
unit_is None None e = refl
unit_is None (Some y) e = cc
unit_is (Some x) None e = cc
unit_is (Some x) (Some y) e = refl

-- two sets of the same members are one
pub same_path_set : (s t : PathSet) → ((p : List ℕ) → has s p ≡ has t p) → s ≡ t
same_path_set s t h = fin.same_map nat_list_cmp_total same_order s t (λ p. unit_is _ _ (h p))

pub some_cond : (b : Bool) (x : Option (Unit {0})) → is_some (cond b (Some tt) x) ≡ (b || is_some x)
some_cond true x = refl
some_cond false x = refl

pub has-none : (p : List ℕ) → has no_paths p ≡ false
has-none p = ap is_some (fin.get-empty (slice_cmp nat_cmp) p)

pub has-path_set : (ps : List (List ℕ)) (p : List ℕ) → has (path_set ps) p ≡ list_any (λ q. same_path p q) ps
has-path_set [] p = has-none p
has-path_set (q ∷ ps) p =
    ap is_some (fin.get-insert nat_list_cmp_total (path_set ps) q tt p)
    ∙ some_cond (same_path p q) _
    ∙ ap (λ b. same_path p q || b) (has-path_set ps p)

pub has-listing : (s : PathSet) (p : List ℕ) → has s p ≡ list_any (λ q. same_path p q) (listing s)
has-listing s p = fin.contains_key-keys s p

pub has-append : (ps qs : List (List ℕ)) (p : List ℕ) → has (path_set (ps ++ qs)) p ≡ (has (path_set ps) p || has (path_set qs) p)
has-append ps qs p =
    has-path_set (ps ++ qs) p ∙ list_any-append (λ q. same_path p q) ps qs
    ∙ ap (λ b. b || list_any (λ q. same_path p q) qs) (sym (has-path_set ps p))
    ∙ ap (λ b. has (path_set ps) p || b) (sym (has-path_set qs p))

pub has-union : (s t : PathSet) (p : List ℕ) → has (union s t) p ≡ (has s p || has t p)
unfolding union
has-union s t p =
    has-path_set (listing s ++ listing t) p ∙ list_any-append (λ q. same_path p q) (listing s) (listing t)
    ∙ ap (λ b. b || list_any (λ q. same_path p q) (listing t)) (sym (has-listing s p))
    ∙ ap (λ b. has s p || b) (sym (has-listing t p))

-- a set is the set of its listing
pub path_set-listing : (s : PathSet) → path_set (listing s) ≡ s
path_set-listing s = same_path_set _ _ (λ p. has-path_set (listing s) p ∙ sym (has-listing s p))

-- ---- where two maps differ

pub same_kind-is : (k l : Kind) → same_kind k l ≡ true → k ≡ l
same_kind-is Plain Plain e = refl
same_kind-is Plain Exec e = cc
same_kind-is Plain Link e = cc
same_kind-is Exec Plain e = cc
same_kind-is Exec Exec e = refl
same_kind-is Exec Link e = cc
same_kind-is Link Plain e = cc
same_kind-is Link Exec e = cc
same_kind-is Link Link e = refl

pub same_kind-refl : (k : Kind) → same_kind k k ≡ true
same_kind-refl Plain = refl
same_kind-refl Exec = refl
same_kind-refl Link = refl

-- the test of byte strings says whether they are equal
pub bytes_same : (xs ys : List ℕ) → same_bytes xs ys ≡ true → xs ≡ ys
bytes_same xs ys e = (bytes_eq-Decides xs ys).0 e

pub bytes_itself : (xs : List ℕ) → same_bytes xs xs ≡ true
bytes_itself xs = (bytes_eq-Decides xs xs).1 refl

pub same_content : (f g : Content) → f.kind ≡ g.kind → f.bytes ≡ g.bytes → f ≡ g
same_content f g k b = λ i. record { kind = k i; bytes = b i }

pub same_file-is : (f g : Option Content) → same_file f g ≡ true → f ≡ g
same_file-is None None e = refl
same_file-is None (Some g) e = cc
same_file-is (Some f) None e = cc
same_file-is (Some f) (Some g) e =
    let parts : (same_kind f.kind g.kind ≡ true) × (same_bytes f.bytes g.bytes ≡ true) = and_parts _ _ e in
    ap Some (same_content f g (same_kind-is f.kind g.kind parts.0) (bytes_same f.bytes g.bytes parts.1))

pub same_file-refl : (f : Option Content) → same_file f f ≡ true
same_file-refl None = refl
same_file-refl (Some f) = ap (λ b. b && same_bytes f.bytes f.bytes) (same_kind-refl f.kind) ∙ bytes_itself f.bytes

-- a path on which two maps differ is a path of one of them
among : (f g : FileMap) (p : List ℕ) → same_file (file_at f p) (file_at g p) ≡ false → has (path_set (paths f ++ paths g)) p ≡ true
among f g p apart =
    has-path_set (paths f ++ paths g) p ∙ list_any-append (λ q. same_path p q) (paths f) (paths g)
    ∙ ap (λ b. b || list_any (λ q. same_path p q) (paths g)) (sym (fin.contains_key-keys f p))
    ∙ ap (λ b. is_some (file_at f p) || b) (sym (fin.contains_key-keys g p))
    ∙ one_there (file_at f p) (file_at g p) apart
  where
    one_there : (a b : Option Content) → same_file a b ≡ false → (is_some a || is_some b) ≡ true
    one_there None None e = cc
    one_there None (Some y) e = refl
    one_there (Some x) None e = refl
    one_there (Some x) (Some y) e = refl

-- the members that pass a test
pub has-where : (s : PathSet) (test : List ℕ → Bool) (p : List ℕ) → has (fin.retain_keys s test) p ≡ (test p && has s p)
has-where s test p =
    ap is_some (fin.get-retain_keys s test p (λ x e. ap test (sym (same_order p x e))))
    ∙ of_cond (test p) (fin.get s p)
  where
    of_cond : (b : Bool) (x : Option (Unit {0})) → is_some (cond b x None) ≡ (b && is_some x)
    of_cond true x = refl
    of_cond false x = refl

pub has-differ : (f g : FileMap) (p : List ℕ) → has (differ f g) p ≡ not (same_file (file_at f p) (file_at g p))
unfolding differ
has-differ f g p =
    has-where (path_set (paths f ++ paths g)) (λ q. not (same_file (file_at f q) (file_at g q))) p
    ∙ settled (same_file (file_at f p) (file_at g p)) (has (path_set (paths f ++ paths g)) p) (among f g p)
  where
    settled : (b c : Bool) → (b ≡ false → c ≡ true) → (not b && c) ≡ not b
    settled true c h = refl
    settled false c h = h refl

-- the set of the paths on which two maps differ has these and no others
pub differ-tells : (f g : FileMap) (p : List ℕ) → IsTrue (has (differ f g) p) ↔ (file_at f p ≢ file_at g p)
differ-tells f g p = (there, back)
  where
    there : IsTrue (has (differ f g) p) → file_at f p ≢ file_at g p
    there h e = let same : same_file (file_at f p) (file_at g p) ≡ true = ap (λ x. same_file x (file_at g p)) e ∙ same_file-refl (file_at g p) in
        let bad : false ≡ true = sym (has-differ f g p ∙ ap not same) ∙ h in cc

    back : file_at f p ≢ file_at g p → IsTrue (has (differ f g) p)
    back apart = elim (same_file (file_at f p) (file_at g p)) as (λ b. same_file (file_at f p) (file_at g p) ≡ b → IsTrue (has (differ f g) p)) [
      | true ↦ λ e. absurd (apart (same_file-is _ _ e))
      | false ↦ λ e. has-differ f g p ∙ ap not e
    ] refl

-- the map with a value put at one path
pub put_option-at : (m : FileMap) (k : List ℕ) (f : Option Content) (p : List ℕ) → file_at (put_option m k f) p ≡ cond (same_path p k) f (file_at m p)
put_option-at m k None p = file_at-remove m k p
put_option-at m k (Some f) p = file_at-insert m k f p

-- a tabulated map has what the rule gives at the paths listed, and no file elsewhere
pub file_at-tabulate : (ps : List (List ℕ)) (rule : List ℕ → Option Content) (p : List ℕ) → file_at (tabulate ps rule) p ≡ cond (list_any (λ q. same_path p q) ps) (rule p) None
unfolding tabulate
file_at-tabulate [] rule p = file_at-none p
file_at-tabulate (q ∷ ps) rule p =
    put_option-at (tabulate ps rule) q (rule q) p
    ∙ ap (cond (same_path p q) (rule q)) (file_at-tabulate ps rule p)
    ∙ joined (same_path p q) (λ e. ap rule (sym (same_path-is p q e)))
  where
    joined : (b : Bool) → (b ≡ true → rule q ≡ rule p) → cond b (rule q) (cond (list_any (λ r. same_path p r) ps) (rule p) None) ≡ cond (b || list_any (λ r. same_path p r) ps) (rule p) None
    joined true h = h refl
    joined false h = refl

-- ---- no clash

pub lies_below-itself : (p : List ℕ) → lies_below p p ≡ false
lies_below-itself p = below_in_steps p p ∙ ap (λ xs. starts_with nat_eq p p && starts_with nat_eq xs (47 ∷ [])) (drop_all (length p) p (omega arith)) ∙ and-false (starts_with nat_eq p p)

-- where no path of a list passes a test, one of the list does not
pub unlisted : (test : List ℕ → Bool) (ks : List (List ℕ)) (p : List ℕ) → list_any test ks ≡ false → list_any (λ q. same_path p q) ks ≡ true → test p ≡ false
unlisted test [] p none e = cc
unlisted test (k ∷ ks) p none e =
    elim (same_path p k) as (λ b. same_path p k ≡ b → test p ≡ false) [
      | true ↦ λ s. ap test (same_path-is p k s) ∙ (or_parts _ _ none).0
      | false ↦ λ s. unlisted test ks p (or_parts _ _ none).1 (sym (ap (λ b. b || list_any (λ q. same_path p q) ks) s) ∙ e)
    ] refl

-- a path that has a file is one of the map's paths
pub held : (m : FileMap) (p : List ℕ) → IsSome (file_at m p) → list_any (λ q. same_path p q) (paths m) ≡ true
held m p h = sym (fin.contains_key-keys m p) ∙ h

pub not_above : (m : FileMap) (k p : List ℕ) → has_file_above m k ≡ false → IsSome (file_at m p) → lies_below k p ≡ false
not_above m k p none h = unlisted (λ top. lies_below k top) (paths m) p none (held m p h)

pub not_below : (m : FileMap) (k p : List ℕ) → has_file_below m k ≡ false → IsSome (file_at m p) → lies_below p k ≡ false
not_below m k p none h = unlisted (λ q. lies_below q k) (paths m) p none (held m p h)

pub IsFileMap-none : IsFileMap no_files
IsFileMap-none p q hp hq = let bad : false ≡ true = subst IsSome (file_at-none p) hp in cc

pub IsFileMap-insert : (m : FileMap) (k : List ℕ) (f : Content) → IsFileMap m → has_file_above m k ≡ false → has_file_below m k ≡ false → IsFileMap (fin.insert m k f)
IsFileMap-insert m k f ok above below p q hp hq =
    cases (same_path p k) (same_path q k) refl refl (subst IsSome (file_at-insert m k f p) hp) (subst IsSome (file_at-insert m k f q) hq)
  where
    cases : (a b : Bool) → same_path p k ≡ a → same_path q k ≡ b → IsSome (cond a (Some f) (file_at m p)) → IsSome (cond b (Some f) (file_at m q)) → clashes p q ≡ false
    cases true true sp sq x y =
        ap (λ r. clashes r q) (same_path-is p k sp) ∙ ap (λ r. clashes k r) (same_path-is q k sq) ∙ or_from _ _ (lies_below-itself k) (lies_below-itself k)
    cases true false sp sq x y = ap (λ r. clashes r q) (same_path-is p k sp) ∙ or_from _ _ (not_above m k q above y) (not_below m k q below y)
    cases false true sp sq x y = ap (λ r. clashes p r) (same_path-is q k sq) ∙ or_from _ _ (not_below m k p below x) (not_above m k p above x)
    cases false false sp sq x y = ok p q x y

pub IsFileMap-remove : (m : FileMap) (k : List ℕ) → IsFileMap m → IsFileMap (fin.remove m k)
IsFileMap-remove m k ok p q hp hq = ok p q (left (same_path p k) (file_at m p) (subst IsSome (file_at-remove m k p) hp)) (left (same_path q k) (file_at m q) (subst IsSome (file_at-remove m k q) hq))
  where
    left : (b : Bool) (x : Option Content) → IsSome (cond b None x) → IsSome x
    left true x h = cc
    left false x h = h
