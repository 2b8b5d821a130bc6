-- What is shown below a directory, where the rows and the marks below it alone are looked at.
use Rattle.std.proofs.Common.{◌≡◌, ℕ, Bool, true, false, cond, ◌&&◌, List, [], ◌∷◌, Option, None, is_some, refl, sym, ap, ◌∙◌}
use Rattle.std.specs.Prelude.{filter}
use Rattle.std.specs.Option.{unwrap_or}
use Rattle.std.specs.FinMap.{find}
use Rattle.std.specs.FinMap.Entries.{find-where_key, is_sorted-where_key}
use Rattle.eden_globs.specs.Filters.{Patterns, admits, all_paths}
use Rattle.eden_ids.specs.FileMaps.{FileMap, file_at, listing}
use Rattle.eden_ids.specs.Paths.{lies_below}
use Rattle.eden_ids.proofs.FileMapLemmas.{same_order}
use Rattle.eden_ids.proofs.Sifted.{has-sifted, listing_of, sifted}
use Rattle.eden_overlay.specs.Layers.{Entry, Mark, by_bytes, marks}
use Rattle.eden_overlay.specs.Listings.{shown_over}
use Rattle.eden_overlay.proofs.Turns.{Rising}
use Rattle.eden_overlay.proofs.WovenRows.{has-shown_over}

-- the files below a directory
abbrev pub files_below : List ℕ → FileMap → FileMap
files_below top files = sifted files (λ path. lies_below path top)

-- the marks below it
abbrev pub marks_below : List ℕ → List Mark → List Mark
marks_below top marks = filter (λ mark. lies_below mark.0 top) marks

-- they are in byte order too
pub sorted_below : (top : List ℕ) (ms : List Mark) → Rising ms → Rising (marks_below top ms)
sorted_below top ms up = is_sorted-where_key by_bytes (λ path. lies_below path top) ms up

-- they show what the whole shows below it
pub shown_below : (base : FileMap) (ms : List Mark) (top : List ℕ) → Rising ms
    → listing (shown_over (files_below top base) (marks_below top ms)) ≡ filter (λ path. lies_below path top) (listing (shown_over base ms))
shown_below base ms top up =
    listing_of (shown_over (files_below top base) (marks_below top ms)) (shown_over base ms) below (λ p.
    has-shown_over (files_below top base) (marks_below top ms) (sorted_below top ms up) p
    ∙ (λ i. unwrap_or (find-where_key by_bytes below p (λ x e. ap below (sym (same_order p x e))) ms i) (has-sifted base below p i))
    ∙ by (below p) (find by_bytes p ms) (is_some (file_at base p))
    ∙ ap (λ b. below p && b) (sym (has-shown_over base ms up p)))
  where
    below : List ℕ → Bool
    below path = lies_below path top

    by : (l : Bool) (o : Option Bool) (b : Bool) → unwrap_or (cond l o None) (l && b) ≡ (l && unwrap_or o b)
    by true o b = refl
    by false o b = refl

-- the marks of the entries below it
pub marks_beneath : (top : List ℕ) (es : List Entry) → marks (filter (λ e. lies_below e.0 top) es) ≡ marks_below top (marks es)
marks_beneath top [] = refl
marks_beneath top (e ∷ es) = step (lies_below e.0 top) (marks_beneath top es)
  where
    step : (b : Bool) → marks (filter (λ e. lies_below e.0 top) es) ≡ marks_below top (marks es)
        → marks (cond b (e ∷ filter (λ e. lies_below e.0 top) es) (filter (λ e. lies_below e.0 top) es))
        ≡ cond b ((e.0, is_some e.1) ∷ marks_below top (marks es)) (marks_below top (marks es))
    step true more = ap (λ (ms : List Mark). (e.0, is_some e.1) ∷ ms) more
    step false more = more

-- a filter of no pattern admits each path
pub all_wanted : (wanted : Patterns) (ps : List (List ℕ)) → wanted ≡ all_paths → filter (admits wanted) ps ≡ ps
all_wanted wanted ps is = ap (λ w. filter (admits w) ps) is ∙ each ps
  where
    each : (ps : List (List ℕ)) → filter (admits all_paths) ps ≡ ps
    each [] = refl
    each (p ∷ ps) = ap (λ (qs : List (List ℕ)). p ∷ qs) (each ps)
