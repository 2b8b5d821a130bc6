-- Entries below a directory, put in among others of which none is below it.
use Rattle.std.proofs.Common.{◌≡◌, ℕ, suc, zero, Bool, true, false, cond, not, T, ◌&&◌, List, [], ◌∷◌, ◌++◌, take, drop, Option, Some, None, refl, sym, ap, subst, ◌∙◌}
use Rattle.std.proofs.lemmas.List.{append-nil, take-append-drop}
use Rattle.std.specs.Prelude.{if◌then◌else◌}
use Rattle.std.specs.Option.{option_or}
use Rattle.std.specs.declared.cmp.Ordering.{Ordering}
use Rattle.std.specs.declared.cmp.Ordering.TheVariants.{Less, Equal, Greater}
use Rattle.std.specs.Ordering.{is_lt, ordering_reverse}
use Rattle.std.specs.Cmp.Lexicographic.{nat_list_cmp_total}
use Rattle.std.specs.List.{AllByRecursion}
use Rattle.std.specs.FinMap.{find, is_sorted}
use Rattle.std.specs.FinMap.Entries.{below_all}
use Rattle.eden_ids.specs.Paths.{lies_below}
use Rattle.eden_ids.specs.FileMaps.{same_path}
use Rattle.eden_ids.proofs.ByteOrder.{below_between, both, first, from, is_less, less, order, second, upto}
use Rattle.eden_ids.proofs.FileMapLemmas.{same_order}
use Rattle.eden_overlay.specs.Places.{place}
use Rattle.eden_renames.specs.Renames.{Entry}
use Rattle.eden_renames.specs.internal.Shifted.{IsPutIn}
use Rattle.eden_renames.proofs.Nearest.{no}
use Rattle.eden_renames.proofs.Shifting.{apart, left_found, left_out, turned}

abbrev pub AllBelow : List ℕ → List Entry → Type 0
AllBelow top es = AllByRecursion (λ e. lies_below e.0 top ≡ true) es

abbrev pub NoneBelow : List ℕ → List Entry → Type 0
NoneBelow top es = AllByRecursion (λ e. lies_below e.0 top ≡ false) es

-- ---- what is found among them

found_both : (xs ys : List Entry) (dir : List ℕ) → find order dir (xs ++ ys) ≡ option_or (find order dir xs) (find order dir ys)
found_both [] ys dir = refl
found_both (x ∷ xs) ys dir =
    elim (same_path dir x.0) as (λ b. cond b (Some x.1) (find order dir (xs ++ ys)) ≡ option_or (cond b (Some x.1) (find order dir xs)) (find order dir ys)) [
      | true ↦ refl
      | false ↦ found_both xs ys dir
    ]

none_found : (top dir : List ℕ) (es : List Entry) → NoneBelow top es → lies_below dir top ≡ true → find order dir es ≡ None
none_found top dir [] out into = refl
none_found top dir (e ∷ es) out into = ap (λ b. cond b (Some e.1) (find order dir es)) (apart top dir e.0 into out.0) ∙ none_found top dir es out.1 into

not_found : (top dir : List ℕ) (es : List Entry) → AllBelow top es → lies_below dir top ≡ false → find order dir es ≡ None
not_found top dir [] all out = refl
not_found top dir (e ∷ es) all out = ap (λ b. cond b (Some e.1) (find order dir es)) (turned top dir e.0 out all.0) ∙ not_found top dir es all.1 out

none_front : (top : List ℕ) (n : ℕ) (es : List Entry) → NoneBelow top es → NoneBelow top (take n es)
none_front top zero [] none = tt
none_front top (suc n) [] none = tt
none_front top zero (e ∷ es) none = tt
none_front top (suc n) (e ∷ es) none = (none.0, none_front top n es none.1)

none_back : (top : List ℕ) (n : ℕ) (es : List Entry) → NoneBelow top es → NoneBelow top (drop n es)
none_back top zero [] none = tt
none_back top (suc n) [] none = tt
none_back top zero (e ∷ es) none = none
none_back top (suc n) (e ∷ es) none = none_back top n es none.1

or_none : (o : Option (Option (List ℕ))) → option_or o None ≡ o
or_none None = refl
or_none (Some x) = refl

found_put_in : (top : List ℕ) (ms es rs : List Entry) → AllBelow top ms → NoneBelow top es → IsPutIn ms es rs → (dir : List ℕ)
    → find order dir rs ≡ (if lies_below dir top then find order dir ms else find order dir es)
found_put_in top [] es rs all none is dir = ap (find order dir) is ∙ by (lies_below dir top) refl
  where
    by : (b : Bool) → lies_below dir top ≡ b → find order dir es ≡ (if b then None else find order dir es)
    by true into = none_found top dir es none into
    by false into = refl
found_put_in top (m ∷ ms) es rs all none is dir =
    ap (find order dir) is
    ∙ found_both (take at es) ((m ∷ ms) ++ drop at es) dir
    ∙ ap (option_or (find order dir (take at es))) (found_both (m ∷ ms) (drop at es) dir)
    ∙ by (lies_below dir top) refl
  where
    at : ℕ
    at = place m.0 es

    by : (b : Bool) → lies_below dir top ≡ b
        → option_or (find order dir (take at es)) (option_or (find order dir (m ∷ ms)) (find order dir (drop at es)))
        ≡ (if b then find order dir (m ∷ ms) else find order dir es)
    by true into =
        (λ i. option_or (none_found top dir (take at es) (none_front top at es none) into i)
        (option_or (find order dir (m ∷ ms)) (none_found top dir (drop at es) (none_back top at es none) into i)))
        ∙ or_none (find order dir (m ∷ ms))
    by false into =
        (λ i. option_or (find order dir (take at es)) (option_or (not_found top dir (m ∷ ms) all into i) (find order dir (drop at es))))
        ∙ sym (found_both (take at es) (drop at es) dir)
        ∙ ap (find order dir) (take-append-drop at es)

-- ---- they are in byte order

is_after : (k x : List ℕ) → order k x ≡ Less → T (is_lt (order k x))
is_after k x e = subst (λ r. T (is_lt r)) (sym e) tt

all_later : (k x : List ℕ) (es : List Entry) → order k x ≡ Less → T (below_all order x es) → T (below_all order k es)
all_later k x [] low after = tt
all_later k x (e ∷ es) low after = both _ _ (is_after k e.0 (nat_list_cmp_total.trans k x e.0 low (less _ (first _ _ after)))) (all_later k x es low (second _ _ after))

after_both : (k : List ℕ) (xs ys : List Entry) → T (below_all order k xs) → T (below_all order k ys) → T (below_all order k (xs ++ ys))
after_both k [] ys one two = two
after_both k (x ∷ xs) ys one two = both _ _ (first _ _ one) (after_both k xs ys (second _ _ one) two)

after_front : (k : List ℕ) (n : ℕ) (es : List Entry) → T (below_all order k es) → T (below_all order k (take n es))
after_front k zero [] after = tt
after_front k (suc n) [] after = tt
after_front k zero (e ∷ es) after = tt
after_front k (suc n) (e ∷ es) after = both _ _ (first _ _ after) (after_front k n es (second _ _ after))

after_back : (k : List ℕ) (n : ℕ) (es : List Entry) → T (below_all order k es) → T (below_all order k (drop n es))
after_back k zero [] after = tt
after_back k (suc n) [] after = tt
after_back k zero (e ∷ es) after = after
after_back k (suc n) (e ∷ es) after = after_back k n es (second _ _ after)

-- what isn't before a text comes after what is
past_text : (a text b : List ℕ) → order a text ≡ Less → is_lt (order b text) ≡ false → order a b ≡ Less
past_text a text b low high = by (order b text) refl high
  where
    by : (r : Ordering) → order b text ≡ r → is_lt r ≡ false → order a b ≡ Less
    by Less is up = no up
    by Equal is up = ap (order a) (same_order b text is) ∙ low
    by Greater is up = nat_list_cmp_total.trans a text b low (nat_list_cmp_total.antisymm text b ∙ ap ordering_reverse is)

ends : (top x : List ℕ) → lies_below x top ≡ true → (is_lt (order x (from top)) ≡ false) × (is_lt (order x (upto top)) ≡ true)
ends top x below = by (is_lt (order x (from top))) (is_lt (order x (upto top))) (sym (below_between x top) ∙ below)
  where
    by : (a b : Bool) → (not a && b) ≡ true → (a ≡ false) × (b ≡ true)
    by true b e = no (sym e)
    by false b e = (refl, e)

-- what isn't below a directory, and isn't before one path below it, comes after all of those
past_below : (top k x e : List ℕ) → lies_below k top ≡ true → lies_below x top ≡ true → lies_below e top ≡ false → is_lt (order e k) ≡ false → order x e ≡ Less
past_below top k x e below other out late = by (is_lt (order e (from top))) (is_lt (order e (upto top))) refl refl (sym (below_between e top) ∙ out)
  where
    by : (a b : Bool) → is_lt (order e (from top)) ≡ a → is_lt (order e (upto top)) ≡ b → (not a && b) ≡ false → order x e ≡ Less
    by true b low high apart = no (sym (ap is_lt (past_text e (from top) k (is_less _ low) (ends top k below).0)) ∙ late)
    by false true low high apart = no apart
    by false false low high apart = past_text x (upto top) e (is_less _ (ends top x other).1) high

sorted_both : (top k : List ℕ) (ms : List Entry) (e : Entry) (es : List Entry) → T (is_sorted order ms) → AllBelow top ms → T (is_sorted order (e ∷ es))
    → lies_below k top ≡ true → lies_below e.0 top ≡ false → is_lt (order e.0 k) ≡ false → T (is_sorted order (ms ++ (e ∷ es)))
sorted_both top k [] e es rises all sorted below out late = sorted
sorted_both top k (m ∷ ms) e es rises all sorted below out late =
    let low : order m.0 e.0 ≡ Less = past_below top k m.0 e.0 below all.0 out late in
    both _ _
    (after_both m.0 ms (e ∷ es) (first _ _ rises) (both _ _ (is_after m.0 e.0 low) (all_later m.0 e.0 es low (first _ _ sorted))))
    (sorted_both top k ms e es (second _ _ rises) all.1 sorted below out late)

module _ (top : List ℕ) (m : Entry) (ms : List Entry) (rises : T (is_sorted order (m ∷ ms))) (all : AllBelow top (m ∷ ms)) where
  together : (es : List Entry) → T (is_sorted order es) → NoneBelow top es → T (is_sorted order (take (place m.0 es) es ++ ((m ∷ ms) ++ drop (place m.0 es) es)))
  together [] sorted none = subst (λ ns. T (is_sorted order ns)) (sym (append-nil (m ∷ ms))) rises
  together (e ∷ es) sorted none =
      let at = place m.0 es in
      elim (is_lt (order e.0 m.0)) as (λ b. is_lt (order e.0 m.0) ≡ b → T (is_sorted order (take (cond b (suc at) 0) (e ∷ es) ++ ((m ∷ ms) ++ drop (cond b (suc at) 0) (e ∷ es))))) [
        | true ↦ λ is.
            let low : order e.0 m.0 ≡ Less = is_less _ is in
            both _ _
            (after_both e.0 (take at es) ((m ∷ ms) ++ drop at es) (after_front e.0 at es (first _ _ sorted))
            (after_both e.0 (m ∷ ms) (drop at es) (both _ _ (is_after e.0 m.0 low) (all_later e.0 m.0 ms low (first _ _ rises))) (after_back e.0 at es (first _ _ sorted))))
            (together es (second _ _ sorted) none.1)
        | false ↦ λ late. sorted_both top m.0 (m ∷ ms) e es rises all sorted all.0 none.0 late
      ] refl

pub sorted_put_in : (top : List ℕ) (ms es rs : List Entry) → T (is_sorted order ms) → AllBelow top ms → T (is_sorted order es) → NoneBelow top es → IsPutIn ms es rs → T (is_sorted order rs)
sorted_put_in top [] es rs rises all sorted none is = subst (λ ns. T (is_sorted order ns)) (sym is) sorted
sorted_put_in top (m ∷ ms) es rs rises all sorted none is = subst (λ ns. T (is_sorted order ns)) (sym is) (together top m ms rises all es sorted none)

-- ---- in place of those that were there

none_left : (top : List ℕ) (es : List Entry) → NoneBelow top (left_out top es)
none_left top [] = tt
none_left top (e ∷ es) = by (lies_below e.0 top) refl (none_left top es)
  where
    by : (b : Bool) → lies_below e.0 top ≡ b → NoneBelow top (left_out top es) → NoneBelow top (cond (not b) (e ∷ left_out top es) (left_out top es))
    by true out rest = rest
    by false out rest = (out, rest)

pub found_in_place : (top : List ℕ) (ms es left rs : List Entry) → AllBelow top ms → left ≡ left_out top es → IsPutIn ms left rs → (dir : List ℕ)
    → find order dir rs ≡ (if lies_below dir top then find order dir ms else find order dir es)
found_in_place top ms es left rs all is put dir =
    found_put_in top ms left rs all (subst (NoneBelow top) (sym is) (none_left top es)) put dir ∙ by (lies_below dir top) refl
  where
    by : (b : Bool) → lies_below dir top ≡ b → (if b then find order dir ms else find order dir left) ≡ (if b then find order dir ms else find order dir es)
    by true into = refl
    by false into = ap (find order dir) is ∙ left_found top dir es ∙ ap (λ b. if b then None else find order dir es) into

pub sorted_in_place : (top : List ℕ) (ms es left rs : List Entry) → T (is_sorted order ms) → AllBelow top ms → T (is_sorted order left) → left ≡ left_out top es → IsPutIn ms left rs
    → T (is_sorted order rs)
sorted_in_place top ms es left rs rises all sorted is put = sorted_put_in top ms left rs rises all sorted (subst (NoneBelow top) (sym is) (none_left top es)) put
