-- What the mask of a comparison of eight ids means: a bit is set where they are the same.
use Rattle.std.proofs.Common.{bit_and, ◌≡◌, ℕ, sym, List, [], ◌∷◌, length, map, refl, ap, ◌∙◌, ◌+◌, ◌-◌, ◌*◌, ◌%◌, ◌^◌, arith, Bool, true, false, cond, not, nat_eq, ◌&&◌, ◌||◌, take, drop}
use Rattle.std.specs.Prelude.{replicate}
use Rattle.std.specs.List.{list_any}
use Rattle.std.specs.Simd.Lanes.{Each1, chunk, mask_l, zip2, top}
use Rattle.std.proofs.lemmas.List.{take-map, take_rest, drop-map, length-map}
use Rattle.std.proofs.lemmas.Simd.{mask_l-mod, length-zip2, zip2_splat_left}
use Rattle.eden_ids.specs.declared.id.Id.{Id}
use Rattle.eden_ids.specs.Columns.{IsOfItsWords, word}
use Rattle.eden_ids.specs.Sameness.{same_id}
use Rattle.eden_lanes.specs.internal.Masks.{lanes_of, same_word}
use Rattle.eden_lanes.proofs.Words.{words_tell}
use Rattle.std.proofs.lemmas.Bool.{or_parts}

-- a comparison of words, lane by lane
abbrev pub equal_lanes : List ℕ → List ℕ → List ℕ
equal_lanes xs ys = zip2 {C = ℕ} (λ a b. cond (nat_eq a b) 4294967295 0) xs ys

words_compared : (n : ℕ) (us vs : List Id) → equal_lanes (map (word n) us) (map (word n) vs) ≡ lanes_of (zip2 (same_word n) us vs)
words_compared n [] vs = refl
words_compared n (u ∷ us) [] = refl
words_compared n (u ∷ us) (v ∷ vs) = ap (λ (zs : List ℕ). cond (same_word n u v) 4294967295 0 ∷ zs) (words_compared n us vs)

pub chunk-map : (n row count : ℕ) (ids : List Id) → chunk row count (map (word n) ids) ≡ map (word n) (chunk row count ids)
chunk-map n row count ids = ap (take count) (drop-map (word n) row ids) ∙ take-map (word n) count (drop row ids)

-- what `from_slice` of the words from a row on gives
abbrev pub loaded : ℕ → List ℕ → List ℕ
loaded row words = take 8 (take (length words - row) (drop row words))

loaded-map : (n row : ℕ) (ids : List Id) (words : List ℕ) → words ≡ map (word n) ids → loaded row words ≡ map (word n) (chunk row 8 ids)
loaded-map n row ids words are = ap (take 8) (take_rest words row) ∙ rw are (chunk-map n row 8 ids)

-- of eight rows of two columns
pub columns_compared : (n row : ℕ) (a b : List Id) (xs ys : List ℕ) → xs ≡ map (word n) a → ys ≡ map (word n) b
    → equal_lanes (loaded row xs) (loaded row ys) ≡ lanes_of (zip2 (same_word n) (chunk row 8 a) (chunk row 8 b))
columns_compared n row a b xs ys first second =
    rw (loaded-map n row a xs first, loaded-map n row b ys second) (words_compared n (chunk row 8 a) (chunk row 8 b))

-- of an id and eight rows of a column
pub id_compared : (n row w : ℕ) (id : Id) (b : List Id) (ys : List ℕ) → w ≡ word n id → ys ≡ map (word n) b
    → equal_lanes (replicate 8 w) (loaded row ys) ≡ lanes_of (zip2 (same_word n) (replicate 8 id) (chunk row 8 b))
id_compared n row w id b ys first second =
    rw (first, loaded-map n row b ys second) (words_compared n (replicate 8 id) (chunk row 8 b))

both-lane : (s t : Bool) → bit_and (cond s 4294967295 0) (cond t 4294967295 0) ≡ cond (s && t) 4294967295 0
both-lane true true = refl
both-lane true false = refl
both-lane false true = refl
both-lane false false = refl

-- the lanes that are set in both of two masks
pub both : {A : Type 0} (f g : A → A → Bool) (us vs : List A)
    → zip2 bit_and (lanes_of (zip2 f us vs)) (lanes_of (zip2 g us vs)) ≡ lanes_of (zip2 (λ x y. f x y && g x y) us vs)
both f g [] vs = refl
both f g (u ∷ us) [] = refl
both f g (u ∷ us) (v ∷ vs) = rw (both-lane (f u v) (g u v), both f g us vs) refl

top-lane : (t : Bool) → top 31 (cond t 4294967295 0) ≡ t
top-lane true = refl
top-lane false = refl

tops : (ms : List Bool) → map (top 31) (lanes_of ms) ≡ ms
tops [] = refl
tops (m ∷ ms) = rw (top-lane m, tops ms) refl

-- what `to_bitmask` gives
pub bits : (ms : List Bool) → length ms ≡ 8 → mask_l (map (top 31) (lanes_of ms)) % 18446744073709551616 ≡ mask_l ms
bits ms eight = ap (λ (ns : List Bool). mask_l ns % 2 ^ 64) (tops ms) ∙ mask_l-mod ms 64 (omega arith)

-- the ids are the same where the five words are
all_words : (us vs : List Id) → Each1 IsOfItsWords us → Each1 IsOfItsWords vs
    → zip2 (λ x y. same_word 0 x y && same_word 1 x y && same_word 2 x y && same_word 3 x y && same_word 4 x y) us vs ≡ zip2 same_id us vs
all_words [] vs first second = refl
all_words (u ∷ us) [] first second = refl
all_words (u ∷ us) (v ∷ vs) first second = rw (words_tell u v first.0 second.0, all_words us vs first.1 second.1) refl

abbrev lanes_at : ℕ → List Id → List Id → List ℕ
lanes_at n us vs = lanes_of (zip2 (same_word n) us vs)

-- five masks of words are one of ids
pub five : (us vs : List Id) (p q r s t : List ℕ) → length us ≡ 8 → length vs ≡ 8 → Each1 IsOfItsWords us → Each1 IsOfItsWords vs
    → p ≡ lanes_at 0 us vs → q ≡ lanes_at 1 us vs → r ≡ lanes_at 2 us vs → s ≡ lanes_at 3 us vs → t ≡ lanes_at 4 us vs
    → mask_l (map (top 31) (zip2 bit_and (zip2 bit_and (zip2 bit_and (zip2 bit_and p q) r) s) t)) % 18446744073709551616 ≡ mask_l (zip2 same_id us vs)
five us vs p q r s t long also first second f g h i j =
    let two = both (same_word 0) (same_word 1) us vs in
    let three = both (λ x y. same_word 0 x y && same_word 1 x y) (same_word 2) us vs in
    let four = both (λ x y. same_word 0 x y && same_word 1 x y && same_word 2 x y) (same_word 3) us vs in
    let all = both (λ x y. same_word 0 x y && same_word 1 x y && same_word 2 x y && same_word 3 x y) (same_word 4) us vs in
    let lanes : zip2 bit_and (zip2 bit_and (zip2 bit_and (zip2 bit_and p q) r) s) t ≡ lanes_of (zip2 same_id us vs) =
    rw (f, g, h, i, j) (
    ap (λ (l : List ℕ). zip2 bit_and (zip2 bit_and (zip2 bit_and l (lanes_at 2 us vs)) (lanes_at 3 us vs)) (lanes_at 4 us vs)) two
    ∙ ap (λ (l : List ℕ). zip2 bit_and (zip2 bit_and l (lanes_at 3 us vs)) (lanes_at 4 us vs)) three
    ∙ ap (λ (l : List ℕ). zip2 bit_and l (lanes_at 4 us vs)) four ∙ all ∙ ap lanes_of (all_words us vs first second)
    ) in
    ap (λ (l : List ℕ). mask_l (map (top 31) l) % 18446744073709551616) lanes
    ∙ bits (zip2 same_id us vs) (length-zip2 same_id us vs (omega arith) ∙ long)

-- no bit is set where no element passes
pub some_bit : {A : Type 0} (p : A → Bool) (us : List A) → not (nat_eq (mask_l (map p us)) 0) ≡ list_any p us
some_bit p [] = refl
some_bit p (u ∷ us) = by (p u) (some_bit p us)
  where
    by : (t : Bool) → not (nat_eq (mask_l (map p us)) 0) ≡ list_any p us → not (nat_eq (cond t 1 0 + 2 * mask_l (map p us)) 0) ≡ (t || list_any p us)
    by true rest = let e : nat_eq (1 + 2 * mask_l (map p us)) 0 ≡ false = grind (arith) in rw e refl
    by false rest = let e : nat_eq (0 + 2 * mask_l (map p us)) 0 ≡ nat_eq (mask_l (map p us)) 0 = grind (arith) in rw e rest

-- no row holds an id where none has its first word
seldom : (id : Id) (vs : List Id) → IsOfItsWords id → Each1 IsOfItsWords vs → list_any (same_word 0 id) vs ≡ false → list_any (same_id id) vs ≡ false
seldom id [] whole each none = refl
seldom id (v ∷ vs) whole each none =
    let parts = or_parts (same_word 0 id v) (list_any (same_word 0 id) vs) none in
    let other : same_id id v ≡ false = sym (words_tell id v whole each.0) ∙ rw parts.0 refl in
    rw (other, seldom id vs whole each.1 parts.1) refl

-- the bits of a comparison of first words, where none is set
pub no_first_word : (id : Id) (vs : List Id) (p : List ℕ) → length vs ≡ 8 → IsOfItsWords id → Each1 IsOfItsWords vs
    → p ≡ lanes_at 0 (replicate 8 id) vs → mask_l (map (top 31) p) % 18446744073709551616 ≡ 0 → false ≡ list_any (same_id id) vs
no_first_word id vs p long whole each is none =
    let ms : map (top 31) p ≡ map (same_word 0 id) vs = ap (map (top 31)) is ∙ tops (zip2 (same_word 0) (replicate 8 id) vs) ∙ zip2_splat_left (same_word 0) id 8 vs long in
    let clear : mask_l (map (same_word 0 id) vs) ≡ 0 =
    sym (mask_l-mod (map (same_word 0 id) vs) 64 (let l = length-map vs (same_word 0 id) in omega arith))
    ∙ ap (λ (ns : List Bool). mask_l ns % 18446744073709551616) (sym ms) ∙ none in
    let others : list_any (same_word 0 id) vs ≡ false = sym (some_bit (same_word 0 id) vs) ∙ rw clear refl in
    sym (seldom id vs whole each others)

-- the mask of an id among eight rows
pub some_of_eight : (id : Id) (vs : List Id) (m : ℕ) → length vs ≡ 8 → m ≡ mask_l (zip2 same_id (replicate 8 id) vs) → not (nat_eq m 0) ≡ list_any (same_id id) vs
some_of_eight id vs m long is =
    ap (λ n. not (nat_eq n 0)) (is ∙ ap mask_l (zip2_splat_left same_id id 8 vs long)) ∙ some_bit (same_id id) vs
