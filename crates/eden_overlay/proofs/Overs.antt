-- What is seen where an overlay lies over a file map.
use Rattle.std.proofs.Common.{◌≡◌, ℕ, Bool, true, false, cond, not, ◌&&◌, ◌||◌, List, [], ◌∷◌, ◌++◌, Option, Some, None, is_some, refl, sym, ap, ◌∙◌}
use Rattle.std.specs.Ordering.{nat_cmp}
use Rattle.std.specs.Cmp.Lexicographic.{slice_cmp, nat_list_cmp_total}
use Rattle.std.specs.List.{list_any}
use Rattle.std.specs.FinMap as fin
use Rattle.eden_ids.specs.declared.content.Content.{Content}
use Rattle.eden_ids.specs.Paths.{lies_below}
use Rattle.eden_ids.specs.FileMaps.{FileMap, file_at, paths, same_path, has_file_below}
use Rattle.eden_ids.proofs.FileMapLemmas.{file_at-tabulate, file_at-insert, file_at-remove, same_file_map}
use Rattle.eden_ids.proofs.TreeQuestions.{any_none, any_some, any_witness}
use Rattle.eden_overlay.specs.Layers.{Layer, or_below, over_rule, over}

any-append : {A : Type 0} (test : A → Bool) (xs ys : List A) → list_any test (xs ++ ys) ≡ (list_any test xs || list_any test ys)
any-append test [] ys = refl
any-append test (x ∷ xs) ys = ap (λ b. test x || b) (any-append test xs ys) ∙ sym (assoc (test x) _ _)
  where
    assoc : (a b c : Bool) → (a || b) || c ≡ (a || (b || c))
    assoc true b c = refl
    assoc false b c = refl

settled : (o : Option (Option Content)) (f : Option Content) → cond (is_some f || is_some o) (or_below o f) None ≡ or_below o f
settled None None = refl
settled None (Some f) = refl
settled (Some g) None = refl
settled (Some g) (Some f) = refl

-- at every path
pub file_at-over : (base : FileMap) (layer : Layer) (p : List ℕ) → file_at (over base layer) p ≡ over_rule base layer p
unfolding over
file_at-over base layer p =
    file_at-tabulate (paths base ++ fin.keys layer) (over_rule base layer) p
    ∙ ap (λ b. cond b (over_rule base layer p) None)
    (any-append (λ q. same_path p q) (paths base) (fin.keys layer)
    ∙ ap (λ b. b || list_any (λ q. same_path p q) (fin.keys layer)) (sym (fin.contains_key-keys base p))
    ∙ ap (λ b. is_some (file_at base p) || b) (sym (fin.contains_key-keys layer p)))
    ∙ settled (fin.get layer p) (file_at base p)

or_below-cond : (b : Bool) (v o : Option (Option Content)) (f : Option Content) → or_below (cond b v o) f ≡ cond b (or_below v f) (or_below o f)
or_below-cond true v o f = refl
or_below-cond false v o f = refl

over_set : (base : FileMap) (layer : Layer) (k : List ℕ) (v : Option Content) (p : List ℕ) → file_at (over base (fin.insert layer k v)) p ≡ cond (same_path p k) v (file_at (over base layer) p)
over_set base layer k v p =
    file_at-over base (fin.insert layer k v) p
    ∙ ap (λ o. or_below o (file_at base p)) (fin.get-insert nat_list_cmp_total layer k v p)
    ∙ or_below-cond (same_path p k) (Some v) (fin.get layer p) (file_at base p)
    ∙ ap (cond (same_path p k) v) (sym (file_at-over base layer p))

-- at a path of the overlay, and at another
pub file_told : (base : FileMap) (layer : Layer) (p : List ℕ) (file : Option Content) → fin.get layer p ≡ Some file → file_at (over base layer) p ≡ file
file_told base layer p file is = file_at-over base layer p ∙ ap (λ o. or_below o (file_at base p)) is

pub file_below : (base : FileMap) (layer : Layer) (p : List ℕ) → fin.get layer p ≡ None → file_at (over base layer) p ≡ file_at base p
file_below base layer p is = file_at-over base layer p ∙ ap (λ o. or_below o (file_at base p)) is

-- a file that is set
pub over-insert : (base : FileMap) (layer : Layer) (k : List ℕ) (f : Content) → over base (fin.insert layer k (Some f)) ≡ fin.insert (over base layer) k f
over-insert base layer k f = same_file_map _ _ (λ p. over_set base layer k (Some f) p ∙ sym (file_at-insert (over base layer) k f p))

-- a path that is marked as without a file
pub over-remove : (base : FileMap) (layer : Layer) (k : List ℕ) → over base (fin.insert layer k None) ≡ fin.remove (over base layer) k
over-remove base layer k = same_file_map _ _ (λ p. over_set base layer k None p ∙ sym (file_at-remove (over base layer) k p))

pub over-move : (base : FileMap) (layer : Layer) (old new : List ℕ) (f : Content)
    → over base (fin.insert (fin.insert layer old None) new (Some f)) ≡ fin.insert (fin.remove (over base layer) old) new f
over-move base layer old new f = over-insert base (fin.insert layer old None) new f ∙ ap (λ m. fin.insert m new f) (over-remove base layer old)

-- without an overlay
pub over-nothing : (base : FileMap) → over base fin.empty ≡ base
over-nothing base = same_file_map _ _ (λ p. file_at-over base fin.empty p ∙ ap (λ o. or_below o (file_at base p)) (fin.get-empty (slice_cmp nat_cmp) p))

-- ---- a file below a path

listed : (m : FileMap) (p : List ℕ) (f : Content) → file_at m p ≡ Some f → list_any (λ q. same_path p q) (paths m) ≡ true
listed m p f is = sym (fin.contains_key-keys m p) ∙ ap is_some is

pub here_below : (base : FileMap) (layer : Layer) (p q : List ℕ) (f : Content) → fin.get layer q ≡ Some (Some f) → lies_below q p ≡ true → has_file_below (over base layer) p ≡ true
here_below base layer p q f is e =
    any_some (λ r. lies_below r p) (paths (over base layer)) q (listed (over base layer) q f (file_at-over base layer q ∙ ap (λ o. or_below o (file_at base q)) is)) e

-- the overlay has no file below a path: then one is seen there if the overlay says nothing of some file that is below it
pub left_below : (base : FileMap) (layer : Layer) (p : List ℕ) → ((q : List ℕ) (f : Content) → fin.get layer q ≡ Some (Some f) → lies_below q p ≡ false)
    → has_file_below (over base layer) p ≡ list_any (λ q. lies_below q p && not (is_some (fin.get layer q))) (paths base)
left_below base layer p none = by_any (list_any (λ q. lies_below q p && not (is_some (fin.get layer q))) (paths base)) refl
  where
    first : (a b : Bool) → (a && b) ≡ true → a ≡ true
    first true b e = refl
    first false b e = absurd (cc)

    second : (a b : Bool) → (a && b) ≡ true → b ≡ true
    second true b e = e
    second false b e = absurd (cc)

    untouched : (o : Option (Option Content)) → not (is_some o) ≡ true → o ≡ None
    untouched None e = refl
    untouched (Some x) e = absurd (cc)

    none_left : (q : List ℕ) → list_any (λ q. lies_below q p && not (is_some (fin.get layer q))) (paths base) ≡ false → lies_below q p ≡ true → (o : Option (Option Content)) → fin.get layer q ≡ o
        → (f : Content) → or_below o (file_at base q) ≡ Some f → ⊥
    none_left q gone e None at f seen =
        let t : (lies_below q p && not (is_some (fin.get layer q))) ≡ true = ap (λ b. b && not (is_some (fin.get layer q))) e ∙ ap (λ o. not (is_some o)) at in
        let bad : true ≡ false = sym (any_some (λ q. lies_below q p && not (is_some (fin.get layer q))) (paths base) q (listed base q f seen) t) ∙ gone in absurd (cc)
    none_left q gone e (Some None) at f seen = absurd (cc)
    none_left q gone e (Some (Some g)) at f seen = let bad : true ≡ false = sym e ∙ none q g at in absurd (cc)

    file_there : (m : FileMap) (q : List ℕ) (o : Option Content) → file_at m q ≡ o → list_any (λ r. same_path q r) (paths m) ≡ true → (f : Content) × (file_at m q ≡ Some f)
    file_there m q None is at = let bad : false ≡ true = sym (ap is_some is) ∙ fin.contains_key-keys m q ∙ at in absurd (cc)
    file_there m q (Some f) is at = (f, is)

    by_any : (b : Bool) → list_any (λ q. lies_below q p && not (is_some (fin.get layer q))) (paths base) ≡ b → has_file_below (over base layer) p ≡ b
    by_any true e =
        let found = any_witness (λ q. lies_below q p && not (is_some (fin.get layer q))) (paths base) e in
        let file = file_there base found.0 (file_at base found.0) refl found.1 in
        let free = untouched (fin.get layer found.0) (second _ _ found.2) in
        any_some (λ r. lies_below r p) (paths (over base layer)) found.0
        (listed (over base layer) found.0 file.0 (file_at-over base layer found.0 ∙ ap (λ o. or_below o (file_at base found.0)) free ∙ file.1)) (first _ _ found.2)
    by_any false e =
        any_none (λ r. lies_below r p) (paths (over base layer))
        (λ q at. elim (lies_below q p) as (λ b. lies_below q p ≡ b → b ≡ false) [
          | true ↦ λ t.
              let file = file_there (over base layer) q (file_at (over base layer) q) refl at in
              absurd (none_left q e t (fin.get layer q) refl file.0 (sym (file_at-over base layer q) ∙ file.1))
          | false ↦ λ t. refl
        ] refl)
