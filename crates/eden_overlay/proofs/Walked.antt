-- Entries before a path, taken one after the other.
use Rattle.std.proofs.Common.{◌≡◌, ℕ, suc, Bool, true, false, cond, not, T, ◌&&◌, List, [], ◌∷◌, ◌++◌, map, take, drop, refl, sym, ap, subst, ◌∙◌, append_assoc}
use Rattle.std.specs.Prelude.{filter}
use Rattle.std.specs.Ordering.{is_lt}
use Rattle.std.specs.FinMap as fin
use Rattle.std.specs.FinMap.Entries.{below_all}
use Rattle.eden_ids.specs.Paths.{lies_below}
use Rattle.eden_ids.proofs.ByteOrder.{below_between, first, from, less, second, upto}
use Rattle.eden_overlay.specs.Layers.{Entry, by_bytes}
use Rattle.eden_overlay.specs.Places.{place}
use Rattle.eden_overlay.specs.internal.Blocks.{before}
use Rattle.eden_overlay.proofs.Placing.{trans}
use Rattle.eden_overlay.proofs.Touched.{kept}

before_first : (k : List ℕ) (e : Entry) (fs : List Entry) → T (is_lt (by_bytes e.0 k)) → before k (e ∷ fs) ≡ e ∷ before k fs
before_first k e fs h = ap (λ r. take (cond (is_lt r) (suc (place k fs)) 0) (e ∷ fs)) (less _ h)

pub before_step : (k : List ℕ) (e : Entry) (es fs : List Entry) → T (is_lt (by_bytes e.0 k)) → es ≡ e ∷ fs → before k es ≡ e ∷ before k fs
before_step k e es fs h is = ap (before k) is ∙ before_first k e fs h

pub begins_before : (k : List ℕ) (e : Entry) (block left later : List Entry) → T (is_lt (by_bytes e.0 k)) → block ≡ e ∷ left
    → (rest : List Entry) × (before k (block ++ later) ≡ e ∷ rest)
begins_before k e block left later h is = (before k (left ++ later), ap (λ es. before k (es ++ later)) is ∙ before_first k e (left ++ later) h)

pub before_none : (k : List ℕ) (es : List Entry) → place k es ≡ 0 → before k es ≡ []
before_none k [] none = refl
before_none k (e ∷ es) none = ap (λ n. take n (e ∷ es)) none

pub left_step : (k : List ℕ) (e : Entry) (es fs : List Entry) → T (is_lt (by_bytes e.0 k)) → es ≡ e ∷ fs → drop (place k es) es ≡ drop (place k fs) fs
left_step k e es fs h is = ap (λ es. drop (place k es) es) is ∙ ap (λ r. drop (cond (is_lt r) (suc (place k fs)) 0) (e ∷ fs)) (less _ h)

pub left_none : (k : List ℕ) (es : List Entry) → place k es ≡ 0 → drop (place k es) es ≡ es
left_none k [] none = refl
left_none k (e ∷ es) none = ap (λ n. drop n (e ∷ es)) none

-- one that is added, and what is added of the others
pub added : (test : Entry → Bool) (e : Entry) (es fs : List Entry) (done more : List (List ℕ)) (t : Bool) → es ≡ e ∷ fs → t ≡ test e → more ≡ done ++ cond t (e.0 ∷ []) []
    → more ++ kept test fs ≡ done ++ kept test es
added test e es fs done more t is test_is more_is =
    ap (λ ps. ps ++ kept test fs) (more_is ∙ ap (λ b. done ++ cond b (e.0 ∷ []) []) test_is)
    ∙ one (test e)
    ∙ ap (λ es. done ++ kept test es) (sym is)
  where
    one : (b : Bool) → (done ++ cond b (e.0 ∷ []) []) ++ kept test fs ≡ done ++ map {A = Entry} (λ e. e.0) (cond b (e ∷ filter test fs) (filter test fs))
    one true = append_assoc done (e.0 ∷ []) (kept test fs)
    one false = append_assoc done [] (kept test fs)

-- ---- the entries below a path

not_from : (q p r : List ℕ) → is_lt (by_bytes p r) ≡ false → T (is_lt (by_bytes p q)) → is_lt (by_bytes q r) ≡ false
not_from q p r apart less_one =
    elim (is_lt (by_bytes q r)) as (λ b. is_lt (by_bytes q r) ≡ b → b ≡ false) [
      | false ↦ λ e. refl
      | true ↦ λ e.
          let bad : true ≡ false = sym (ap is_lt (less _ (trans p q r less_one (subst T (sym e) tt)))) ∙ apart in absurd (cc)
    ] refl

all_out : (p : List ℕ) (es : List Entry) → ((e : Entry) → is_lt (by_bytes e.0 (upto p)) ≡ false → lies_below e.0 p ≡ false)
    → (k : List ℕ) → is_lt (by_bytes k (upto p)) ≡ false → T (below_all by_bytes k es) → filter (λ e. lies_below e.0 p) es ≡ []
all_out p [] out k apart h = refl
all_out p (e ∷ es) out k apart h =
    let past = not_from e.0 k (upto p) apart (first _ _ h) in
    ap (λ b. cond b (e ∷ filter (λ e. lies_below e.0 p) es) (filter (λ e. lies_below e.0 p) es)) (out e past) ∙ all_out p es out k apart (second _ _ h)

pub out_end : (p q : List ℕ) → is_lt (by_bytes q (upto p)) ≡ false → lies_below q p ≡ false
out_end p q apart = below_between q p ∙ ap (λ b. not (is_lt (by_bytes q (from p))) && b) apart ∙ none (not (is_lt (by_bytes q (from p))))
  where
    none : (b : Bool) → (b && false) ≡ false
    none true = refl
    none false = refl

pub in_range : (p q : List ℕ) → is_lt (by_bytes q (from p)) ≡ false → is_lt (by_bytes q (upto p)) ≡ true → lies_below q p ≡ true
in_range p q low high = below_between q p ∙ ap (λ b. not b && is_lt (by_bytes q (upto p))) low ∙ high

pub out_start : (p q : List ℕ) → is_lt (by_bytes q (from p)) ≡ true → lies_below q p ≡ false
out_start p q low = below_between q p ∙ ap (λ b. not b && is_lt (by_bytes q (upto p))) low

-- of entries from its beginning on
below_rest : (p : List ℕ) (es : List Entry) → T (fin.is_sorted by_bytes es) → ((e : Entry) (fs : List Entry) → es ≡ e ∷ fs → is_lt (by_bytes e.0 (from p)) ≡ false)
    → before (upto p) es ≡ filter (λ e. lies_below e.0 p) es
below_rest p [] h start = refl
below_rest p (e ∷ es) h start =
    let low = start e es refl in
    elim (is_lt (by_bytes e.0 (upto p))) as (λ b. is_lt (by_bytes e.0 (upto p)) ≡ b
    → take (cond b (suc (place (upto p) es)) 0) (e ∷ es) ≡ filter (λ e. lies_below e.0 p) (e ∷ es)) [
      | true ↦ λ t.
          ap (λ fs. e ∷ fs) (below_rest p es (second _ _ h) (λ f fs is. not_from f.0 e.0 (from p) low (first _ _ (subst (λ gs. T (below_all by_bytes e.0 gs)) is (first _ _ h)))))
          ∙ sym (ap (λ b. cond b (e ∷ filter (λ e. lies_below e.0 p) es) (filter (λ e. lies_below e.0 p) es)) (in_range p e.0 low t))
      | false ↦ λ t.
          sym (ap (λ b. cond b (e ∷ filter (λ e. lies_below e.0 p) es) (filter (λ e. lies_below e.0 p) es)) (out_end p e.0 t)
          ∙ all_out p es (λ e apart. out_end p e.0 apart) e.0 t (first _ _ h))
    ] refl

pub below_from : (p : List ℕ) (es : List Entry) → T (fin.is_sorted by_bytes es) → before (upto p) (drop (place (from p) es) es) ≡ filter (λ e. lies_below e.0 p) es
below_from p [] h = refl
below_from p (e ∷ es) h =
    elim (is_lt (by_bytes e.0 (from p))) as (λ b. is_lt (by_bytes e.0 (from p)) ≡ b
    → before (upto p) (drop (cond b (suc (place (from p) es)) 0) (e ∷ es)) ≡ filter (λ e. lies_below e.0 p) (e ∷ es)) [
      | true ↦ λ t.
          below_from p es (second _ _ h)
          ∙ sym (ap (λ b. cond b (e ∷ filter (λ e. lies_below e.0 p) es) (filter (λ e. lies_below e.0 p) es)) (out_start p e.0 t))
      | false ↦ λ t. below_rest p (e ∷ es) h (λ f fs is. let one : e ≡ f = (cc) in ap (λ g. is_lt (by_bytes g.0 (from p))) (sym one) ∙ t)
    ] refl
