-- What a rename of a directory makes of the files, at each path, and that no two of them clash.
use Rattle.std.proofs.Common.{◌≡◌, ℕ, ◌⊎◌, inl, inr, Bool, true, false, cond, ◌&&◌, ◌||◌, nat_eq, List, [], ◌∷◌, ◌++◌, length, drop, map, Option, Some, None, is_some, refl, sym, ap, subst, ◌∙◌}
use Rattle.std.specs.Prelude.{IsSome, if◌then◌else◌}
use Rattle.std.specs.List.{list_any}
use Rattle.std.proofs.lemmas.Bool.{and_from, and_parts, eq-eqb, eqb-true, or_from, or_left, or_right}
use Rattle.std.proofs.lemmas.Bool.Decides.{Decides-eqb}
use Rattle.std.proofs.lemmas.List.{append_assoc}
use Rattle.std.proofs.lemmas.List.Folds.{list_any-append}
use Rattle.std.proofs.lemmas.Slice.Eq.{starts_is}
use Rattle.std.proofs.Math.Seq.{drop-append_seam}
use Rattle.std.proofs.Math.Bool.{or_comm}
use Rattle.eden_ids.specs.declared.content.Content.{Content}
use Rattle.eden_ids.specs.Paths.{clashes, lies_below}
use Rattle.eden_ids.specs.FileMaps.{FileMap, IsFileMap, file_at, has_file_above, paths, same_path}
use Rattle.eden_ids.proofs.ByteOrder.{begins_with_none}
use Rattle.eden_ids.proofs.FileMapLemmas.{file_at-tabulate, held, not_above, same_path-is, same_path-refl}
use Rattle.eden_overlay.specs.Carried.{carried, carried_files, carried_rule}

-- ---- below a path

-- what comes after a directory's name and a slash lies below it
inside : (top rest : List ℕ) → lies_below (top ++ 47 ∷ rest) top ≡ true
inside top rest = (starts_is Decides-eqb (top ++ 47 ∷ rest) (top ++ 47 ∷ []) (lies_below (top ++ 47 ∷ rest) top) refl).1 rest (sym (append_assoc top (47 ∷ []) rest))

-- the path is the other one, a slash and a rest
pub rest_below : (path top : List ℕ) → lies_below path top ≡ true → (rest : List ℕ) × (path ≡ top ++ 47 ∷ rest)
rest_below path top e =
    let rest = drop (length (top ++ 47 ∷ [])) path in
    (rest, (starts_is Decides-eqb path (top ++ 47 ∷ []) (lies_below path top) refl).0 e ∙ append_assoc top (47 ∷ []) rest)

pub below-trans : (path middle top : List ℕ) → lies_below path middle ≡ true → lies_below middle top ≡ true → lies_below path top ≡ true
below-trans path middle top under over =
    let low = rest_below path middle under in
    let high = rest_below middle top over in
    ap (λ q. lies_below q top) (low.1 ∙ ap (λ q. q ++ 47 ∷ low.0) high.1 ∙ append_assoc top (47 ∷ high.0) (47 ∷ low.0))
    ∙ inside top (high.0 ++ 47 ∷ low.0)

-- two directories of one path are one, or one lies below the other
pub nested : (path a b : List ℕ) → lies_below path a ≡ true → lies_below path b ≡ true → (a ≡ b) ⊎ ((lies_below a b ≡ true) ⊎ (lies_below b a ≡ true))
nested [] [] b under over = absurd (cc)
nested [] (x ∷ a) b under over = absurd (cc)
nested (y ∷ path) [] [] under over = inl refl
nested (y ∷ path) [] (z ∷ b) under over =
    let slash = eqb-true 47 y (and_parts (nat_eq 47 y) _ under).0 in
    let same = eqb-true z y (and_parts (nat_eq z y) _ over).0 in
    inr (inr (and_from _ _ (eq-eqb 47 z (slash ∙ sym same)) (begins_with_none b)))
nested (y ∷ path) (x ∷ a) [] under over =
    let slash = eqb-true 47 y (and_parts (nat_eq 47 y) _ over).0 in
    let same = eqb-true x y (and_parts (nat_eq x y) _ under).0 in
    inr (inl (and_from _ _ (eq-eqb 47 x (slash ∙ sym same)) (begins_with_none a)))
nested (y ∷ path) (x ∷ a) (z ∷ b) under over =
    let left = and_parts (nat_eq x y) (lies_below path a) under in
    let right = and_parts (nat_eq z y) (lies_below path b) over in
    let same : x ≡ z = eqb-true x y left.0 ∙ sym (eqb-true z y right.0) in
    by same (nested path a b left.1 right.1)
  where
    by : x ≡ z → (a ≡ b) ⊎ ((lies_below a b ≡ true) ⊎ (lies_below b a ≡ true))
        → (x ∷ a ≡ z ∷ b) ⊎ ((lies_below (x ∷ a) (z ∷ b) ≡ true) ⊎ (lies_below (z ∷ b) (x ∷ a) ≡ true))
    by same (inl one) = inl (λ i. same i ∷ one i)
    by same (inr (inl below)) = inr (inl (and_from _ _ (eq-eqb z x (sym same)) below))
    by same (inr (inr below)) = inr (inr (and_from _ _ (eq-eqb x z same) below))

same_front : (front p q : List ℕ) → lies_below (front ++ p) (front ++ q) ≡ lies_below p q
same_front [] p q = refl
same_front (x ∷ front) p q = ap (λ b. b && lies_below (front ++ p) (front ++ q)) (eq-eqb x x refl) ∙ same_front front p q

-- ---- places below a path

pub carried_there : (old new rest : List ℕ) → carried old new (old ++ rest) ≡ new ++ rest
carried_there old new rest = ap (λ r. new ++ r) (drop-append_seam old rest)

pub carried-back : (old new path : List ℕ) → lies_below path old ≡ true → carried new old (carried old new path) ≡ path
carried-back old new path below =
    let at = rest_below path old below in
    ap (λ q. carried new old (carried old new q)) at.1
    ∙ ap (carried new old) (carried_there old new (47 ∷ at.0))
    ∙ carried_there new old (47 ∷ at.0)
    ∙ sym at.1

pub carried-below : (old new path : List ℕ) → lies_below path old ≡ true → lies_below (carried old new path) new ≡ true
carried-below old new path below =
    let at = rest_below path old below in
    ap (λ q. lies_below q new) (ap (carried old new) at.1 ∙ carried_there old new (47 ∷ at.0))
    ∙ inside new at.0

-- of two carried paths one lies below the other where it did before
pub carried-within : (old new p q : List ℕ) → lies_below p old ≡ true → lies_below q old ≡ true → lies_below (carried old new p) (carried old new q) ≡ lies_below p q
carried-within old new p q below other =
    let here = rest_below p old below in
    let there = rest_below q old other in
    (λ i. lies_below ((ap (carried old new) here.1 ∙ carried_there old new (47 ∷ here.0)) i) ((ap (carried old new) there.1 ∙ carried_there old new (47 ∷ there.0)) i))
    ∙ same_front new (47 ∷ here.0) (47 ∷ there.0)
    ∙ sym (same_front old (47 ∷ here.0) (47 ∷ there.0))
    ∙ (λ i. lies_below (sym here.1 i) (sym there.1 i))

-- ---- at each path

-- a path that is listed is listed by what a function makes of it
pub mapped : (f : List ℕ → List ℕ) (ks : List (List ℕ)) (p : List ℕ) → list_any (λ q. same_path p q) ks ≡ true → list_any (λ q. same_path (f p) q) (map f ks) ≡ true
mapped f [] p listed = absurd (cc)
mapped f (k ∷ ks) p listed =
    elim (same_path p k) as (λ b. same_path p k ≡ b → (b || list_any (λ q. same_path p q) ks) ≡ true → (same_path (f p) (f k) || list_any (λ q. same_path (f p) q) (map f ks)) ≡ true) [
      | true ↦ λ same _. or_left _ _ (ap (λ k. same_path (f p) (f k)) (sym (same_path-is p k same)) ∙ same_path-refl (f p))
      | false ↦ λ apart more. or_right (same_path (f p) (f k)) _ (mapped f ks p more)
    ] refl listed

-- a path at which the rule gives a file is one that is looked at
looked_at : (m : FileMap) (old new p : List ℕ) → IsSome (carried_rule m old new p) → list_any (λ q. same_path p q) (paths m ++ map (carried old new) (paths m)) ≡ true
looked_at m old new p some =
    list_any-append (λ q. same_path p q) (paths m) (map (carried old new) (paths m)) ∙ by (lies_below p new) (lies_below p old) refl some
  where
    by : (into outof : Bool) → lies_below p new ≡ into → IsSome (if into then file_at m (carried new old p) else if outof then None else file_at m p)
        → (list_any (λ q. same_path p q) (paths m) || list_any (λ q. same_path p q) (map (carried old new) (paths m))) ≡ true
    by true outof below there =
        or_right (list_any (λ q. same_path p q) (paths m)) _
        (subst (λ r. list_any (λ q. same_path r q) (map (carried old new) (paths m)) ≡ true) (carried-back new old p below)
        (mapped (carried old new) (paths m) (carried new old p) (held m (carried new old p) there)))
    by false true apart there = absurd (let bad : false ≡ true = there in cc)
    by false false apart there = or_left _ _ (held m p there)

-- the files are those of the rule
pub file_at-carried : (m : FileMap) (old new p : List ℕ) → file_at (carried_files m old new) p ≡ carried_rule m old new p
unfolding carried_files
file_at-carried m old new p =
    file_at-tabulate (paths m ++ map (carried old new) (paths m)) (carried_rule m old new) p
    ∙ enough (list_any (λ q. same_path p q) (paths m ++ map (carried old new) (paths m))) (carried_rule m old new p) (looked_at m old new p)
  where
    enough : (listed : Bool) (file : Option Content) → (IsSome file → listed ≡ true) → cond listed file None ≡ file
    enough true file h = refl
    enough false None h = refl
    enough false (Some file) h = absurd (let bad : false ≡ true = h refl in cc)

pub carried-elsewhere : (m : FileMap) (old new p : List ℕ) → lies_below p old ≡ false → lies_below p new ≡ false → file_at (carried_files m old new) p ≡ file_at m p
carried-elsewhere m old new p from to =
    file_at-carried m old new p
    ∙ (λ i. if to i then file_at m (carried new old p) else if from i then None else file_at m p)

-- each file below the old path is at its place below the new one
pub carried-arrives : (m : FileMap) (old new p : List ℕ) → lies_below p old ≡ true → file_at (carried_files m old new) (carried old new p) ≡ file_at m p
carried-arrives m old new p below =
    file_at-carried m old new (carried old new p)
    ∙ ap (λ b. if b then file_at m (carried new old (carried old new p)) else if lies_below (carried old new p) old then None else file_at m (carried old new p))
    (carried-below old new p below)
    ∙ ap (file_at m) (carried-back old new p below)

-- ---- no two paths clash

-- a path below the new one clashes with none that stays, where no file was at the new path or above it
stays_apart : (m : FileMap) (new p q : List ℕ) → file_at m new ≡ None → has_file_above m new ≡ false → lies_below p new ≡ true → lies_below q new ≡ false → IsSome (file_at m q)
    → clashes p q ≡ false
stays_apart m new p q free above into apart there = or_from _ _ (under (lies_below p q) refl) (over (lies_below q p) refl)
  where
    no : {A : Type 0} → true ≡ false → A
    no bad = absurd (cc)

    under : (b : Bool) → lies_below p q ≡ b → b ≡ false
    under false e = refl
    under true e = by (nested p q new e into)
      where
        by : (q ≡ new) ⊎ ((lies_below q new ≡ true) ⊎ (lies_below new q ≡ true)) → true ≡ false
        by (inl one) = sym there ∙ ap (λ r. is_some (file_at m r)) one ∙ ap is_some free
        by (inr (inl below)) = sym below ∙ apart
        by (inr (inr below)) = sym below ∙ not_above m new q above there

    over : (b : Bool) → lies_below q p ≡ b → b ≡ false
    over false e = refl
    over true e = sym (below-trans q p new e into) ∙ apart

-- if no file is at the new path or above it, the files are a file map
pub carried_fits : (m : FileMap) (old new : List ℕ) → IsFileMap m → file_at m new ≡ None → has_file_above m new ≡ false → IsFileMap (carried_files m old new)
carried_fits m old new fits free above p q hp hq =
    cases (lies_below p new) (lies_below q new) (lies_below p old) (lies_below q old) refl refl
    (subst IsSome (file_at-carried m old new p) hp) (subst IsSome (file_at-carried m old new q) hq)
  where
    left : (outof : Bool) (file : Option Content) → IsSome (if outof then None else file) → IsSome file
    left true file h = absurd (let bad : false ≡ true = h in cc)
    left false file h = h

    cases : (a b c d : Bool) → lies_below p new ≡ a → lies_below q new ≡ b
        → IsSome (if a then file_at m (carried new old p) else if c then None else file_at m p)
        → IsSome (if b then file_at m (carried new old q) else if d then None else file_at m q) → clashes p q ≡ false
    cases true true c d ip iq x y =
        (λ i. sym (carried-within new old p q ip iq) i || sym (carried-within new old q p iq ip) i)
        ∙ fits (carried new old p) (carried new old q) x y
    cases true false c d ip iq x y = stays_apart m new p q free above ip iq (left d (file_at m q) y)
    cases false true c d ip iq x y = or_comm (lies_below p q) (lies_below q p) ∙ stays_apart m new q p free above iq ip (left c (file_at m p) x)
    cases false false c d ip iq x y = fits p q (left c (file_at m p) x) (left d (file_at m q) y)
