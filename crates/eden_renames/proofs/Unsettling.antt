-- The unsettled paths are those that the entries unsettle, one after the other.
use Rattle.std.proofs.Common.{◌≡◌, ℕ, suc, zero, ◌<◌, Bool, true, false, cond, ◌&&◌, ◌||◌, List, [], ◌∷◌, map, length, Option, Some, None, is_some, refl, sym, ap, subst, ◌∙◌, arith}
use Rattle.std.specs.Prelude.{filter, if◌then◌else◌}
use Rattle.std.specs.Option.{is_none, option_or}
use Rattle.std.specs.Cmp.Lexicographic.{nat_list_cmp_total}
use Rattle.std.specs.List.{AllByRecursion, list_any, slice_index_or}
use Rattle.std.specs.FinMap as fin
use Rattle.std.proofs.lemmas.Bool.{and_parts, or_left, or_right}
use Rattle.eden_ids.specs.declared.content.Content.{Content}
use Rattle.eden_globs.specs.Filters.{Patterns, admits, all_paths}
use Rattle.eden_ids.specs.Paths.{IsPath, lies_below}
use Rattle.eden_ids.specs.FileMaps.{FileMap, PathSet, file_at, has, paths, same_path}
use Rattle.eden_ids.specs.Texts.{AreTexts}
use Rattle.eden_ids.proofs.FileMapLemmas.{same_path-is, same_path-refl, same_path_set}
use Rattle.eden_overlay.specs.Carried.{carried}
use Rattle.eden_overlay.proofs.CarriedLemmas.{carried-back, carried-below, carried_there, rest_below}
use Rattle.eden_objects.specs.Passing.{told}
use Rattle.eden_renames.specs.Renames.{Entry, Renames, by_bytes, file_from, is_governed, is_path, nearest, seen_through, source_by, unsettled}
use Rattle.eden_renames.specs.internal.Unsettling.{is_shown, is_unsettled_by, own_below, put_if, seen_below}
use Rattle.eden_renames.proofs.Nearest.{is_none as none_some, no}
use Rattle.eden_renames.specs.internal.Listed.{IsWith, is_listed}
use Rattle.eden_renames.proofs.Seen.{file_at-seen}
use Rattle.eden_renames.proofs.Settled.{has-unsettled}
use Rattle.eden_renames.proofs.Shifting.{both_ways}

and-both : (a b : Bool) → a ≡ true → b ≡ true → (a && b) ≡ true
and-both a b x y = λ i. (ap (λ c. c && b) x ∙ y) i

-- ---- read in place

pub in_place : (top p : List ℕ) → lies_below p top ≡ true → carried top top p ≡ p
in_place top p below = let at = rest_below p top below in ap (carried top top) at.1 ∙ carried_there top top (47 ∷ at.0) ∙ sym at.1

pub all_in_place : (top : List ℕ) (ps : List (List ℕ)) → map (told top top) (filter (λ p. lies_below p top) ps) ≡ filter (λ p. lies_below p top) ps
all_in_place top [] = refl
all_in_place top (p ∷ ps) = by (lies_below p top) refl (all_in_place top ps)
  where
    by : (b : Bool) → lies_below p top ≡ b → map (told top top) (filter (λ p. lies_below p top) ps) ≡ filter (λ p. lies_below p top) ps
        → map (told top top) (cond b (p ∷ filter (λ p. lies_below p top) ps) (filter (λ p. lies_below p top) ps)) ≡ cond b (p ∷ filter (λ p. lies_below p top) ps) (filter (λ p. lies_below p top) ps)
    by true is rest = λ i. in_place top p is i ∷ rest i
    by false is rest = rest

pub all_kept : (ps : List (List ℕ)) → filter (λ p. true) ps ≡ ps
all_kept [] = refl
all_kept (p ∷ ps) = ap (λ qs. p ∷ qs) (all_kept ps)

-- ---- what is listed below a directory

pub listed_below : (files : FileMap) (top p : List ℕ) → is_listed (filter (λ q. lies_below q top) (paths files)) p ≡ own_below files top p
listed_below files top p = sifted (paths files) ∙ ap (λ b. lies_below p top && b) (sym (fin.contains_key-keys files p))
  where
    sifted : (ps : List (List ℕ)) → is_listed (filter (λ q. lies_below q top) ps) p ≡ (lies_below p top && is_listed ps p)
    sifted [] = nothing (lies_below p top)
      where
        nothing : (b : Bool) → false ≡ (b && false)
        nothing true = refl
        nothing false = refl
    sifted (q ∷ ps) = by (lies_below q top) (same_path p q) refl refl (sifted ps)
      where
        by : (a b : Bool) → lies_below q top ≡ a → same_path p q ≡ b → is_listed (filter (λ q. lies_below q top) ps) p ≡ (lies_below p top && is_listed ps p)
            → is_listed (cond a (q ∷ filter (λ q. lies_below q top) ps) (filter (λ q. lies_below q top) ps)) p ≡ (lies_below p top && (b || is_listed ps p))
        by true true is same more =
            ap (λ c. c || is_listed (filter (λ q. lies_below q top) ps) p) same
            ∙ sym (ap (λ c. c && true) (ap (λ r. lies_below r top) (same_path-is p q same) ∙ is))
        by true false is same more = ap (λ c. c || is_listed (filter (λ q. lies_below q top) ps) p) same ∙ more
        by false true is same more =
            let out : lies_below p top ≡ false = ap (λ r. lies_below r top) (same_path-is p q same) ∙ is in
            more ∙ ap (λ c. c && is_listed ps p) out ∙ sym (ap (λ c. c && true) out)
        by false false is same more = more

-- ---- places

-- the places at which files of a list would be seen, if they are
abbrev pub places : FileMap → List ℕ → List ℕ → List (List ℕ) → List ℕ → Bool
places seen source dir ps p = list_any (λ q. same_path p (carried source dir q) && is_shown seen p) ps

-- a place that is listed is that of a file below the source
abbrev IsFound : FileMap → List ℕ → List ℕ → List ℕ → List (List ℕ) → Type 0
IsFound seen source dir p ps = (q : List ℕ) × (is_listed ps q ≡ true) × (lies_below q source ≡ true) × (same_path p (carried source dir q) ≡ true) × (is_shown seen p ≡ true)

placed : (seen : FileMap) (source dir p q : List ℕ) (ps : List (List ℕ)) → is_listed ps q ≡ true → lies_below q source ≡ true → same_path p (carried source dir q) ≡ true
    → is_shown seen p ≡ true → places seen source dir (filter (λ q. lies_below q source) ps) p ≡ true
placed seen source dir p q [] any below same shown = no (sym any)
placed seen source dir p q (r ∷ ps) any below same shown = by (same_path q r) refl any (λ more. placed seen source dir p q ps more below same shown)
  where
    kept : places seen source dir (filter (λ q. lies_below q source) ps) p ≡ true → places seen source dir (filter (λ q. lies_below q source) (r ∷ ps)) p ≡ true
    kept rest = elim (lies_below r source) as (λ b. places seen source dir (cond b (r ∷ filter (λ q. lies_below q source) ps) (filter (λ q. lies_below q source) ps)) p ≡ true) [
      | true ↦ or_right (same_path p (carried source dir r) && is_shown seen p) _ rest
      | false ↦ rest
    ]

    by : (b : Bool) → same_path q r ≡ b → (b || is_listed ps q) ≡ true → (is_listed ps q ≡ true → places seen source dir (filter (λ q. lies_below q source) ps) p ≡ true)
        → places seen source dir (filter (λ q. lies_below q source) (r ∷ ps)) p ≡ true
    by true is any rest =
        let one : q ≡ r = same_path-is q r is in
        ap (λ b. places seen source dir (cond b (r ∷ filter (λ q. lies_below q source) ps) (filter (λ q. lies_below q source) ps)) p) (ap (λ q. lies_below q source) (sym one) ∙ below)
        ∙ or_left (same_path p (carried source dir r) && is_shown seen p) _
        (and-both (same_path p (carried source dir r)) (is_shown seen p) (ap (λ q. same_path p (carried source dir q)) (sym one) ∙ same) shown)
    by false is any rest = kept (rest any)

pub places_below : (files seen : FileMap) (source dir p : List ℕ)
    → places seen source dir (filter (λ q. lies_below q source) (paths files)) p ≡ seen_below files seen (dir, Some source) p
places_below files seen source dir p =
    both_ways (places seen source dir (filter (λ q. lies_below q source) (paths files)) p) (seen_below files seen (dir, Some source) p)
    (λ any. by_place (found (paths files) any)) back
  where
    further : (q : List ℕ) (ps : List (List ℕ)) → IsFound seen source dir p ps → IsFound seen source dir p (q ∷ ps)
    further q ps f = (f.0, or_right (same_path f.0 q) (is_listed ps f.0) f.1, f.2, f.3, f.4)

    found : (ps : List (List ℕ)) → places seen source dir (filter (λ q. lies_below q source) ps) p ≡ true → IsFound seen source dir p ps
    found [] any = no (sym any)
    found (q ∷ ps) any = by (lies_below q source) (same_path p (carried source dir q) && is_shown seen p) refl refl any (found ps)
      where
        by : (a b : Bool) → lies_below q source ≡ a → (same_path p (carried source dir q) && is_shown seen p) ≡ b
            → places seen source dir (cond a (q ∷ filter (λ q. lies_below q source) ps) (filter (λ q. lies_below q source) ps)) p ≡ true
            → (places seen source dir (filter (λ q. lies_below q source) ps) p ≡ true → IsFound seen source dir p ps) → IsFound seen source dir p (q ∷ ps)
        by true true is here any more =
            let parts = and_parts (same_path p (carried source dir q)) (is_shown seen p) here in
            (q, or_left (same_path q q) (is_listed ps q) (same_path-refl q), is, parts.0, parts.1)
        by true false is here any more =
            further q ps (more (sym (ap (λ b. b || places seen source dir (filter (λ q. lies_below q source) ps) p) here) ∙ any))
        by false b is here any more = further q ps (more any)

    by_place : IsFound seen source dir p (paths files) → seen_below files seen (dir, Some source) p ≡ true
    by_place f =
        let same : p ≡ carried source dir f.0 = same_path-is p (carried source dir f.0) f.3 in
        let back : carried dir source p ≡ f.0 = ap (carried dir source) same ∙ carried-back source dir f.0 f.2 in
        and-both (lies_below p dir) (is_shown seen p && is_some (file_at files (carried dir source p)))
        (ap (λ q. lies_below q dir) same ∙ carried-below source dir f.0 f.2)
        (and-both (is_shown seen p) (is_some (file_at files (carried dir source p))) f.4
        (ap (λ q. is_some (file_at files q)) back ∙ fin.contains_key-keys files f.0 ∙ f.1))

    back : seen_below files seen (dir, Some source) p ≡ true → places seen source dir (filter (λ q. lies_below q source) (paths files)) p ≡ true
    back is =
        let parts = and_parts (lies_below p dir) (is_shown seen p && is_some (file_at files (carried dir source p))) is in
        let more = and_parts (is_shown seen p) (is_some (file_at files (carried dir source p))) parts.1 in
        placed seen source dir p (carried dir source p) (paths files) (sym (fin.contains_key-keys files (carried dir source p)) ∙ more.1)
        (carried-below dir source p parts.0)
        (ap (same_path p) (carried-back dir source p parts.0) ∙ same_path-refl p)
        more.0

-- ---- one path more in a set

pub has-more : {X : Type 0} (m : fin.FinMap by_bytes X) (q : List ℕ) (x : X) (p : List ℕ) → fin.contains_key (fin.insert m q x) p ≡ (same_path p q || fin.contains_key m p)
has-more m q x p = ap is_some (fin.get-insert nat_list_cmp_total m q x p) ∙ one x (same_path p q) (fin.get m p)
  where
    one : {X : Type 0} (x : X) (b : Bool) (o : Option X) → is_some (cond b (Some x) o) ≡ (b || is_some o)
    one x true o = refl
    one x false o = refl

pub has-put_if : (shown : Bool) (set : PathSet) (q p : List ℕ) → has (put_if shown set q) p ≡ ((same_path p q && shown) || has set p)
has-put_if true set q p = has-more set q tt p ∙ ap (λ b. b || has set p) (sym (all (same_path p q)))
  where
    all : (b : Bool) → (b && true) ≡ b
    all true = refl
    all false = refl
has-put_if false set q p = ap (λ b. b || has set p) (sym (none (same_path p q)))
  where
    none : (b : Bool) → (b && false) ≡ false
    none true = refl
    none false = refl

-- ---- all entries

-- a path of a file keeps the limits, and so it is one
pub known_path : (files : FileMap) → AreTexts files → (p : List ℕ) → is_some (file_at files p) ≡ true → is_path p ≡ true
known_path files are p there = by (file_at files p) refl there
  where
    by : (o : Option Content) → file_at files p ≡ o → is_some o ≡ true → is_path p ≡ true
    by None at is = no (sym is)
    by (Some file) at is = ap is_none (are p file at).0.path

-- an entry of a list that speaks of a path
abbrev pub any_entry : FileMap → FileMap → List Entry → List ℕ → Bool
any_entry files seen es p = list_any (is_unsettled_by files seen p) es

near_above : (p : List ℕ) (es : List Entry) (f : Entry) → nearest es p ≡ Some f → list_any (λ e. lies_below p e.0) es ≡ true
near_above p [] f is = none_some f (sym is)
near_above p (x ∷ xs) f is = step (nearest xs p) (lies_below p x.0) refl refl is (near_above p xs)
  where
    step : (o : Option Entry) (b : Bool) → nearest xs p ≡ o → lies_below p x.0 ≡ b → option_or o (if b then Some x else None) ≡ Some f
        → ((g : Entry) → nearest xs p ≡ Some g → list_any (λ e. lies_below p e.0) xs ≡ true) → list_any (λ e. lies_below p e.0) (x ∷ xs) ≡ true
    step (Some g) b near is all rest = or_right (lies_below p x.0) _ (rest g near)
    step None true near is all rest = or_left (lies_below p x.0) _ is
    step None false near is all rest = none_some f (sym all)

governing : (es : List Entry) (p : List ℕ) → list_any (λ top. lies_below p top) (map (λ e. e.0) es) ≡ list_any (λ e. lies_below p e.0) es
governing [] p = refl
governing (e ∷ es) p = ap (λ b. lies_below p e.0 || b) (governing es p)

module _ (files : FileMap) (renames : Renames) (p : List ℕ) (are : AreTexts files) where
  abbrev seen : FileMap
  seen = seen_through files renames

  -- one of the entries is above the path, which is valid, and has a file or shows one
  abbrev IsAt : List Entry → Type 0
  IsAt es = (list_any (λ e. lies_below p e.0) es ≡ true) × (is_path p ≡ true) × ((is_some (file_at files p) || is_some (file_at seen p)) ≡ true)

  by_entry : (es : List Entry) → any_entry files seen es p ≡ true → IsAt es
  by_entry [] any = no (sym any)
  by_entry (e ∷ es) any = by (is_unsettled_by files seen p e) refl any (by_entry es)
    where
      own : own_below files e.0 p ≡ true → IsAt (e ∷ es)
      own is =
          let parts = and_parts (lies_below p e.0) (is_some (file_at files p)) is in
          (or_left (lies_below p e.0) _ parts.0, known_path files are p parts.1, or_left (is_some (file_at files p)) _ parts.1)

      shown : (dir : List ℕ) (source : Option (List ℕ)) → seen_below files seen (dir, source) p ≡ true → (lies_below p dir ≡ true) × (is_shown seen p ≡ true)
      shown dir None is = no (sym is)
      shown dir (Some source) is =
          let parts = and_parts (lies_below p dir) (is_shown seen p && is_some (file_at files (carried dir source p))) is in
          (parts.0, (and_parts (is_shown seen p) (is_some (file_at files (carried dir source p))) parts.1).0)

      through : seen_below files seen e p ≡ true → IsAt (e ∷ es)
      through is =
          let parts = shown e.0 e.1 is in
          let more = and_parts (is_path p) (is_some (file_at seen p)) parts.1 in
          (or_left (lies_below p e.0) _ parts.0, more.0, or_right (is_some (file_at files p)) _ more.1)

      by : (b : Bool) → is_unsettled_by files seen p e ≡ b → (b || any_entry files seen es p) ≡ true
          → (any_entry files seen es p ≡ true → IsAt es) → IsAt (e ∷ es)
      by false here any rest = let more = rest any in (or_right (lies_below p e.0) _ more.0, more.1, more.2)
      by true here any rest = either (own_below files e.0 p) refl here
        where
          either : (b : Bool) → own_below files e.0 p ≡ b → (b || seen_below files seen e p) ≡ true → IsAt (e ∷ es)
          either true is _ = own is
          either false is here = through here

  -- an entry above the path speaks of it, if the commit has a file there
  own_told : (es : List Entry) → list_any (λ e. lies_below p e.0) es ≡ true → is_some (file_at files p) ≡ true → any_entry files seen es p ≡ true
  own_told [] above there = no (sym above)
  own_told (e ∷ es) above there = by (lies_below p e.0) refl above (λ more. own_told es more there)
    where
      by : (b : Bool) → lies_below p e.0 ≡ b → (b || list_any (λ e. lies_below p e.0) es) ≡ true
          → (list_any (λ e. lies_below p e.0) es ≡ true → any_entry files seen es p ≡ true) → any_entry files seen (e ∷ es) p ≡ true
      by true is _ _ = or_left (is_unsettled_by files seen p e) _ (or_left (own_below files e.0 p) _ (and-both (lies_below p e.0) (is_some (file_at files p)) is there))
      by false is more rest = or_right (is_unsettled_by files seen p e) _ (rest more)

  -- and the nearest one where a file is seen there
  seen_told : (es : List Entry) → list_any (λ e. lies_below p e.0) es ≡ true → is_path p ≡ true → is_some (file_at seen p) ≡ true
      → is_some (file_from files (source_by (nearest es p) p)) ≡ true → any_entry files seen es p ≡ true
  seen_told [] above path there from = no (sym above)
  seen_told (e ∷ es) above path there from = by (nearest es p) (lies_below p e.0) refl refl above from (λ more. seen_told es more path there)
    where
      here : (dir : List ℕ) (source : Option (List ℕ)) → lies_below p dir ≡ true → is_some (file_from files (source_by (Some (dir, source)) p)) ≡ true
          → seen_below files seen (dir, source) p ≡ true
      here dir None is from = no (sym from)
      here dir (Some source) is from =
          and-both (lies_below p dir) _ is (and-both (is_shown seen p) _ (and-both (is_path p) (is_some (file_at seen p)) path there) from)

      by : (o : Option Entry) (b : Bool) → nearest es p ≡ o → lies_below p e.0 ≡ b → (b || list_any (λ e. lies_below p e.0) es) ≡ true
          → is_some (file_from files (source_by (option_or o (if b then Some e else None)) p)) ≡ true
          → (list_any (λ e. lies_below p e.0) es ≡ true → is_some (file_from files (source_by (nearest es p) p)) ≡ true → any_entry files seen es p ≡ true)
          → any_entry files seen (e ∷ es) p ≡ true
      by (Some f) b near is _ from rest =
          or_right (is_unsettled_by files seen p e) _
          (rest (near_above p es f near) (ap (λ o. is_some (file_from files (source_by o p))) near ∙ from))
      by None true near is _ from _ = or_left (is_unsettled_by files seen p e) _ (or_right (own_below files e.0 p) _ (here e.0 e.1 is from))
      by None false near is more from rest =
          or_right (is_unsettled_by files seen p e) _ (rest more (ap (λ o. is_some (file_from files (source_by o p))) near ∙ from))

  pub all_entries : any_entry files seen (fin.entries renames) p ≡ has (unsettled files renames) p
  all_entries =
      both_ways (any_entry files seen (fin.entries renames) p) (has (unsettled files renames) p)
      (λ any.
      let parts = by_entry (fin.entries renames) any in
      has-unsettled files renames p
      ∙ and-both (is_governed renames p && is_path p) _ (and-both (is_governed renames p) (is_path p) (governing (fin.entries renames) p ∙ parts.0) parts.1) parts.2)
      (λ member.
      let parts = and_parts (is_governed renames p && is_path p) (is_some (file_at files p) || is_some (file_at seen p)) (sym (has-unsettled files renames p) ∙ member) in
      let gov = and_parts (is_governed renames p) (is_path p) parts.0 in
      let above = sym (governing (fin.entries renames) p) ∙ gov.0 in
      by above gov.1 (is_some (file_at files p)) refl parts.1)
    where
      by : list_any (λ e. lies_below p e.0) (fin.entries renames) ≡ true → is_path p ≡ true → (b : Bool) → is_some (file_at files p) ≡ b → (b || is_some (file_at seen p)) ≡ true
          → any_entry files seen (fin.entries renames) p ≡ true
      by above path true is _ = own_told (fin.entries renames) above is
      by above path false is there =
          seen_told (fin.entries renames) above path there (sym (ap is_some (file_at-seen files renames p)) ∙ there)

-- ---- step by step

pub told_path : (files : FileMap) → AreTexts files → (top bytes : List ℕ) → bytes ≡ top → (path : List ℕ) → lies_below path bytes ≡ true → is_some (file_at files path) ≡ true
    → IsPath (told bytes top path)
told_path files are top bytes is path below there =
    subst IsPath (sym (ap (λ t. carried bytes t path) (sym is) ∙ in_place bytes path below)) (by (file_at files path) refl there)
  where
    by : (o : Option Content) → file_at files path ≡ o → is_some o ≡ true → IsPath path
    by None at some = no (sym some)
    by (Some file) at some = (are path file at).0.path

pub told_all : (files : FileMap) (top bytes : List ℕ) (wanted : Patterns) → bytes ≡ top → wanted ≡ all_paths
    → filter (λ p. admits wanted p) (map (told bytes top) (filter (λ p. lies_below p bytes) (paths files))) ≡ filter (λ p. lies_below p top) (paths files)
told_all files top bytes wanted is all =
    (λ i. filter (λ p. admits (all i) p) (map (told (is i) top) (filter (λ p. lies_below p (is i)) (paths files))))
    ∙ all_kept (map (told top top) (filter (λ p. lies_below p top) (paths files)))
    ∙ all_in_place top (paths files)

shuffled : (a h r : Bool) → ((a || h) || r) ≡ (h || (a || r))
shuffled true true r = refl
shuffled true false r = refl
shuffled false h r = refl

pub or-none : (b : Bool) → (b || false) ≡ b
or-none true = refl
or-none false = refl

pub one_own : {X : Type 0} (t next : fin.FinMap by_bytes X) (x : X) (path : List ℕ) (rest : List (List ℕ)) (p : List ℕ) → next ≡ fin.insert t path x
    → (fin.contains_key next p || is_listed rest p) ≡ (fin.contains_key t p || is_listed (path ∷ rest) p)
one_own t next x path rest p is =
    ap (λ n. fin.contains_key n p || is_listed rest p) is ∙ ap (λ b. b || is_listed rest p) (has-more t path x p)
    ∙ shuffled (same_path p path) (fin.contains_key t p) (is_listed rest p)

pub one_seen : (seen : FileMap) (source dir : List ℕ) (t next : PathSet) (path : List ℕ) (rest : List (List ℕ)) (p : List ℕ)
    → next ≡ put_if (is_shown seen (carried source dir path)) t (carried source dir path)
    → (has next p || places seen source dir rest p) ≡ (has t p || places seen source dir (path ∷ rest) p)
one_seen seen source dir t next path rest p is =
    ap (λ n. has n p || places seen source dir rest p) is
    ∙ ap (λ b. b || places seen source dir rest p) (has-put_if (is_shown seen (carried source dir path)) t (carried source dir path) p)
    ∙ shuffled (same_path p (carried source dir path) && is_shown seen (carried source dir path)) (has t p) (places seen source dir rest p)
    ∙ ap (λ b. has t p || (b || places seen source dir rest p)) (at (same_path p (carried source dir path)) refl)
  where
    at : (b : Bool) → same_path p (carried source dir path) ≡ b → (b && is_shown seen (carried source dir path)) ≡ (same_path p (carried source dir path) && is_shown seen p)
    at true same =
        ap (is_shown seen) (sym (same_path-is p (carried source dir path) same)) ∙ sym (ap (λ b. b && is_shown seen p) same)
    at false same = sym (ap (λ b. b && is_shown seen p) same)

pub own_end : (files : FileMap) (dir : List ℕ) (t next : PathSet) (found : List (List ℕ)) (p : List ℕ) → found ≡ filter (λ q. lies_below q dir) (paths files)
    → (has next p || is_listed [] p) ≡ (has t p || is_listed found p) → has next p ≡ (has t p || own_below files dir p)
own_end files dir t next found p all is =
    sym (or-none (has next p)) ∙ is ∙ ap (λ b. has t p || b) (ap (λ ps. is_listed ps p) all ∙ listed_below files dir p)

pub seen_end : (files seen : FileMap) (source dir : List ℕ) (t next : PathSet) (found : List (List ℕ)) (p : List ℕ) → found ≡ filter (λ q. lies_below q source) (paths files)
    → (has next p || places seen source dir [] p) ≡ (has t p || places seen source dir found p) → has next p ≡ (has t p || seen_below files seen (dir, Some source) p)
seen_end files seen source dir t next found p all is =
    sym (or-none (has next p)) ∙ is ∙ ap (λ b. has t p || b) (ap (λ ps. places seen source dir ps p) all ∙ places_below files seen source dir p)

pub path_below : (source : List ℕ) (ps : List (List ℕ)) (found : List (List ℕ)) (i : ℕ) (path : List ℕ) → found ≡ filter (λ q. lies_below q source) ps → i < length found
    → path ≡ slice_index_or found i path → lies_below path source ≡ true
path_below source ps found i path all within is = at found i (subst (AllByRecursion (λ q. lies_below q source ≡ true)) (sym all) (each ps)) within is
  where
    each : (ps : List (List ℕ)) → AllByRecursion (λ q. lies_below q source ≡ true) (filter (λ q. lies_below q source) ps)
    each [] = tt
    each (q ∷ ps) = by (lies_below q source) refl (each ps)
      where
        by : (b : Bool) → lies_below q source ≡ b → AllByRecursion (λ q. lies_below q source ≡ true) (filter (λ q. lies_below q source) ps)
            → AllByRecursion (λ q. lies_below q source ≡ true) (cond b (q ∷ filter (λ q. lies_below q source) ps) (filter (λ q. lies_below q source) ps))
        by true below rest = (below, rest)
        by false below rest = rest

    at : (found : List (List ℕ)) (i : ℕ) → AllByRecursion (λ q. lies_below q source ≡ true) found → i < length found → path ≡ slice_index_or found i path → lies_below path source ≡ true
    at [] i all within is = absurd (omega arith)
    at (r ∷ found) zero all within is = ap (λ r. lies_below r source) is ∙ all.0
    at (r ∷ found) (suc i) all within is = at found i all.1 (omega arith) is

pub one_entry : (files seen : FileMap) (e : Entry) (rest : List Entry) (t next : PathSet) (p : List ℕ) → IsWith (λ p. is_unsettled_by files seen p e) t next
    → (has next p || any_entry files seen rest p) ≡ (has t p || any_entry files seen (e ∷ rest) p)
one_entry files seen e rest t next p is = ap (λ b. b || any_entry files seen rest p) (is p) ∙ assoc (has t p) (is_unsettled_by files seen p e) (any_entry files seen rest p)
  where
    assoc : (a b c : Bool) → ((a || b) || c) ≡ (a || (b || c))
    assoc true b c = refl
    assoc false b c = refl

pub entries_end : (files : FileMap) (renames : Renames) (t : PathSet) → AreTexts files
    → ((p : List ℕ) → (has t p || any_entry files (seen_through files renames) [] p) ≡ any_entry files (seen_through files renames) (fin.entries renames) p) → t ≡ unsettled files renames
entries_end files renames t are is =
    same_path_set t (unsettled files renames) (λ p. sym (or-none (has t p)) ∙ is p ∙ all_entries files renames p are)
