-- The files of a file map without their bytes are what look-ups of its paths give.
use Rattle.std.proofs.Common.{◌≡◌, ℕ, Bool, true, false, cond, List, [], ◌∷◌, ◌++◌, map, length, Some, refl, sym, ap, ◌∙◌, arith, append_assoc, append-nil}
use Rattle.std.specs.Prelude.{filter}
use Rattle.std.specs.List.{AllByRecursion, flat_map}
use Rattle.std.specs.Option.{option_map}
use Rattle.std.specs.FinMap as fin
use Rattle.eden_globs.specs.Filters.{Patterns, admits}
use Rattle.eden_ids.specs.declared.content.Content.{Content}
use Rattle.eden_ids.specs.FileMaps.{FileMap, file_at, paths}
use Rattle.eden_ids.specs.Paths.{lies_below}
use Rattle.eden_ids.proofs.TreeMaps.{entries_found}
use Rattle.eden_objects.specs.Stats.{stat_of}
use Rattle.eden_history.specs.declared.described.Described.{Described}
use Rattle.eden_history.specs.Changes.{below}
use Rattle.eden_history.specs.Described.{described, described_below, description}
use Rattle.eden_history.specs.Worlds.{Namer}
use Rattle.eden_overlay.specs.Listings.{admitted}
use Rattle.eden_accumulate.specs.internal.Describing.{looked_up, with_path}

-- one path more
pub one_described : (look : List ℕ → List Described) (done next : List Described) (p : List ℕ) (left ps : List (List ℕ)) (all : List Described) → ps ≡ p ∷ left → next ≡ done ++ look p
    → done ++ flat_map look ps ≡ all → next ++ flat_map look left ≡ all
one_described look done next p left ps all first more so_far =
    ap (λ ds. ds ++ flat_map look left) more
    ∙ append_assoc done (look p) (flat_map look left)
    ∙ ap (λ qs. done ++ flat_map look qs) (sym first)
    ∙ so_far

-- and none
pub none_described : (look : List ℕ → List Described) (done : List Described) (ps : List (List ℕ)) (all : List Described) → length ps ≡ 0 → done ++ flat_map look ps ≡ all → done ≡ all
none_described look done [] all none so_far = sym (append-nil done) ∙ so_far
none_described look done (p ∷ ps) all none so_far = absurd (omega (arith, none))

module _ (name : Namer) (files : FileMap) where
  abbrev AreFound : List (List ℕ × Content) → Type 0
  AreFound es = AllByRecursion (λ e. file_at files e.0 ≡ Some e.1) es

  abbrev looked : List (List ℕ) → List Described
  looked ps = flat_map (looked_up name files) ps

  each : (test : List ℕ → Bool) (es : List (List ℕ × Content)) → AreFound es → looked (filter test (map (λ e. e.0) es)) ≡ map (description name) (filter (λ e. test e.0) es)
  each test [] all = refl
  each test (e ∷ es) all = by (test e.0) (each test es all.1)
    where
      by : (b : Bool) → looked (filter test (map (λ e. e.0) es)) ≡ map (description name) (filter (λ e. test e.0) es)
          → looked (cond b (e.0 ∷ filter test (map (λ e. e.0) es)) (filter test (map (λ e. e.0) es)))
          ≡ map (description name) (cond b (e ∷ filter (λ e. test e.0) es) (filter (λ e. test e.0) es))
      by true rest = λ i. with_path e.0 (option_map (stat_of name) (all.0 i)) ++ rest i
      by false rest = rest

  pub all_described : (patterns : Patterns) → looked (admitted patterns files) ≡ described name patterns files
  all_described patterns = each (admits patterns) (fin.entries files) (entries_found files)

  -- those that pass one more test
  each_also : (also test : List ℕ → Bool) (es : List (List ℕ × Content)) → AreFound es
      → looked (filter also (filter test (map (λ e. e.0) es))) ≡ filter (λ one. also one.path) (map (description name) (filter (λ e. test e.0) es))
  each_also also test [] all = refl
  each_also also test (e ∷ es) all = by (test e.0) (each_also also test es all.1)
    where
      ps : List (List ℕ)
      ps = filter test (map (λ e. e.0) es)

      ds : List Described
      ds = map (description name) (filter (λ e. test e.0) es)

      passed : (b : Bool) → looked (filter also ps) ≡ filter (λ one. also one.path) ds
          → looked (cond b (e.0 ∷ filter also ps) (filter also ps)) ≡ cond b (description name e ∷ filter (λ one. also one.path) ds) (filter (λ one. also one.path) ds)
      passed true rest = λ i. with_path e.0 (option_map (stat_of name) (all.0 i)) ++ rest i
      passed false rest = rest

      by : (b : Bool) → looked (filter also ps) ≡ filter (λ one. also one.path) ds
          → looked (filter also (cond b (e.0 ∷ ps) ps)) ≡ filter (λ one. also one.path) (map (description name) (cond b (e ∷ filter (λ e. test e.0) es) (filter (λ e. test e.0) es)))
      by true rest = passed (also e.0) rest
      by false rest = rest

  pub all_described_below : (patterns : Patterns) (prefix : List ℕ) → looked (below prefix (admitted patterns files)) ≡ described_below prefix (described name patterns files)
  all_described_below patterns prefix = each_also (λ path. lies_below path prefix) (admits patterns) (fin.entries files) (entries_found files)
