-- What is said at some paths over another file map, so that the same files are seen.
use Rattle.std.proofs.Common.{◌≡◌, ℕ, Bool, true, false, cond, ◌&&◌, ◌||◌, List, [], ◌∷◌, Option, Some, None, is_some, refl, sym, ap, ◌∙◌}
use Rattle.std.specs.Prelude.{if◌then◌else◌}
use Rattle.std.specs.List.{list_any}
use Rattle.std.specs.Option.{is_none}
use Rattle.std.specs.Cmp.Lexicographic.{nat_list_cmp_total}
use Rattle.std.specs.FinMap as fin
use Rattle.eden_ids.specs.declared.content.Content.{Content}
use Rattle.eden_ids.specs.declared.path.PathFault.{PathFault}
use Rattle.eden_ids.specs.Paths.{path_fault}
use Rattle.eden_ids.specs.Texts.{AreTexts}
use Rattle.eden_ids.specs.FileMaps.{FileMap, file_at, has, listing, same_path}
use Rattle.eden_ids.proofs.FileMapLemmas.{has-listing, same_file_map, same_path-is}
use Rattle.eden_renames.specs.Renames.{Renames, at_paths, is_governed, is_path, seen_through, unsettled}
use Rattle.eden_renames.proofs.Listed.{all_at_paths, file_at-at_paths}
use Rattle.eden_renames.proofs.Seen.{seen-unmoved}
use Rattle.eden_renames.proofs.Settled.{has-unsettled, settled}
use Rattle.eden_workcopy.specs.internal.Agreements.{kept_below, kept_each}
use Rattle.eden_overlay.specs.Layers.{Layer, or_below, over}
use Rattle.eden_overlay.proofs.Overs.{file_at-over}

abbrev pub listed : List ℕ → List (List ℕ) → Bool
listed q ps = list_any (λ p. same_path q p) ps

-- of a path of which something was said, the same; of another one that is listed, its file
abbrev each_rule : Bool → Bool → Option (Option Content) → Option Content → Option (Option Content)
each_rule spoken told here file = if spoken then here else if told then Some file else here

one_at : (root : FileMap) (layer next : Layer) (p q : List ℕ) (said same : Bool) → is_some (fin.get layer p) ≡ said → same_path q p ≡ same
    → fin.get (kept_below root layer next p) q ≡ (if said then fin.get next q else if same then Some (file_at root p) else fin.get next q)
one_at root layer next p q true same is one = ap (λ b. fin.get (if b then next else fin.insert next p (file_at root p)) q) is
one_at root layer next p q false same is one =
    ap (λ b. fin.get (if b then next else fin.insert next p (file_at root p)) q) is
    ∙ fin.get-insert nat_list_cmp_total next p (file_at root p) q
    ∙ ap (λ b. cond b (Some (file_at root p)) (fin.get next q)) one

pub each_at : (root : FileMap) (layer : Layer) (ps : List (List ℕ)) (next : Layer) (q : List ℕ)
    → fin.get (kept_each root layer next ps) q ≡ each_rule (is_some (fin.get layer q)) (listed q ps) (fin.get next q) (file_at root q)
each_at root layer [] next q = by (is_some (fin.get layer q))
  where
    by : (b : Bool) → fin.get next q ≡ each_rule b false (fin.get next q) (file_at root q)
    by true = refl
    by false = refl
each_at root layer (p ∷ ps) next q =
    each_at root layer ps (kept_below root layer next p) q
    ∙ by (is_some (fin.get layer q)) (is_some (fin.get layer p)) (same_path q p) (listed q ps) refl refl refl
  where
    alike : same_path q p ≡ true → is_some (fin.get layer q) ≡ is_some (fin.get layer p)
    alike one = ap (λ r. is_some (fin.get layer r)) (same_path-is q p one)

    by : (spoken said same told : Bool) → is_some (fin.get layer q) ≡ spoken → is_some (fin.get layer p) ≡ said → same_path q p ≡ same
        → each_rule spoken told (fin.get (kept_below root layer next p) q) (file_at root q) ≡ each_rule spoken (same || told) (fin.get next q) (file_at root q)
    by true true same told e f one = one_at root layer next p q true same f one
    by true false true told e f one = absurd (let bad : true ≡ false = sym e ∙ alike one ∙ f in cc)
    by true false false told e f one = one_at root layer next p q false false f one
    by false said true true e f one = refl
    by false said false true e f one = refl
    by false true true false e f one = absurd (let bad : false ≡ true = sym e ∙ alike one ∙ f in cc)
    by false false true false e f one = one_at root layer next p q false true f one ∙ ap (λ r. Some (file_at root r)) (sym (same_path-is q p one))
    by false true false false e f one = one_at root layer next p q true false f one
    by false false false false e f one = one_at root layer next p q false false f one

-- over another file map the same is seen as over this one, where these two have the same files at
-- the paths that are not listed, and at the others this one has those that were laid over it
pub flat_files : (base shown other : FileMap) (layer flat : Layer) (ps : List (List ℕ)) → flat ≡ kept_each base layer layer ps
    → ((q : List ℕ) → listed q ps ≡ true → file_at base q ≡ file_at shown q) → ((q : List ℕ) → listed q ps ≡ false → file_at shown q ≡ file_at other q)
    → over other flat ≡ over shown layer
flat_files base shown other layer flat ps is here elsewhere =
    same_file_map (over other flat) (over shown layer) (λ q.
    file_at-over other flat q
    ∙ ap (λ o. or_below o (file_at other q)) (ap (λ l. fin.get l q) is ∙ each_at base layer ps layer q)
    ∙ by q (fin.get layer q) (listed q ps) refl refl
    ∙ sym (file_at-over shown layer q))
  where
    by : (q : List ℕ) (o : Option (Option Content)) (told : Bool) → fin.get layer q ≡ o → listed q ps ≡ told
        → or_below (each_rule (is_some (fin.get layer q)) (listed q ps) (fin.get layer q) (file_at base q)) (file_at other q) ≡ or_below (fin.get layer q) (file_at shown q)
    by q (Some file) told e t =
        ap (λ o. or_below (each_rule (is_some o) (listed q ps) o (file_at base q)) (file_at other q)) e ∙ sym (ap (λ o. or_below o (file_at shown q)) e)
    by q None true e t =
        (λ i. or_below (each_rule (is_some (e i)) (t i) (e i) (file_at base q)) (file_at other q)) ∙ here q t ∙ sym (ap (λ o. or_below o (file_at shown q)) e)
    by q None false e t =
        (λ i. or_below (each_rule (is_some (e i)) (t i) (e i) (file_at base q)) (file_at other q)) ∙ sym (elsewhere q t) ∙ sym (ap (λ o. or_below o (file_at shown q)) e)

module _ (files : FileMap) (renames : Renames) where
  -- the files that are seen at paths
  abbrev pub seen : FileMap
  seen = at_paths (seen_through files renames)

  -- at an unsettled path is the file that is seen there
  pub here : (ps : List (List ℕ)) → ps ≡ listing (unsettled files renames) → (q : List ℕ) → listed q ps ≡ true → file_at (seen_through files renames) q ≡ file_at seen q
  here ps is q told =
      sym (file_at-at_paths (seen_through files renames) q ∙ ap (λ b. cond b (file_at (seen_through files renames) q) None) (path_there (is_governed renames q) (is_path q) _ among))
    where
      among : ((is_governed renames q && is_path q) && (is_some (file_at files q) || is_some (file_at (seen_through files renames) q))) ≡ true
      among = sym (has-unsettled files renames q) ∙ has-listing (unsettled files renames) q ∙ ap (λ ks. listed q ks) (sym is) ∙ told

      path_there : (a b c : Bool) → ((a && b) && c) ≡ true → b ≡ true
      path_there true true c e = refl
      path_there true false c e = e
      path_there false b c e = absurd (let bad : false ≡ true = e in cc)

  -- outside of the unsettled paths the files that are seen are the commit's
  pub elsewhere : (ps : List (List ℕ)) → ps ≡ listing (unsettled files renames) → AreTexts files → (q : List ℕ) → listed q ps ≡ false → file_at seen q ≡ file_at files q
  elsewhere ps is texts q out = file_at-at_paths (seen_through files renames) q ∙ by (path_fault q) refl
    where
      gone : has (unsettled files renames) q ≡ false
      gone = has-listing (unsettled files renames) q ∙ ap (λ ks. listed q ks) (sym is) ∙ out

      none : (fault : PathFault) → path_fault q ≡ Some fault → (o : Option Content) → file_at files q ≡ o → None ≡ o
      none fault broken None at = refl
      none fault broken (Some file) at =
          absurd (let bad : ◌≡◌ {A = Option PathFault} None (Some fault) = sym ((texts q file at).0.path) ∙ broken in cc)

      by : (o : Option PathFault) → path_fault q ≡ o → cond (is_path q) (file_at (seen_through files renames) q) None ≡ file_at files q
      by None path = ap (λ o. cond (is_none o) (file_at (seen_through files renames) q) None) path ∙ settled files renames q path gone
      by (Some fault) broken =
          ap (λ o. cond (is_none o) (file_at (seen_through files renames) q) None) broken ∙ none fault broken (file_at files q) refl ∙ refl

  -- the two, where no directory was renamed
  pub unmoved : (layer : Layer) → renames ≡ fin.empty → AreTexts files → over files layer ≡ over seen layer
  unmoved layer is texts =
      ap (λ m. over m layer) (sym (ap at_paths (ap (seen_through files) is ∙ seen-unmoved files) ∙ all_at_paths files texts))
