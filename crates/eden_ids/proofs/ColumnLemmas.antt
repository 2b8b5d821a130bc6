-- How the ids of a column are read from its words, and how they grow.
use Rattle.std.proofs.Common.{◌≡◌, ℕ, zero, suc, List, [], ◌∷◌, ◌++◌, length, get_or, drop, refl, ap, sym, ◌∙◌, ◌+◌, ◌<◌, ◌≤◌, arith, length-append}
use Rattle.std.proofs.Common.{Bool, true, false}
use Rattle.std.specs.Prelude.{Some, None, slice_get, nat_lt}
use Rattle.std.specs.Int.{from_be_bytes, to_be_bytes, w32}
use Rattle.std.proofs.lemmas.Bool.{ltb-true, ltb-false}
use Rattle.std.proofs.lemmas.Option.{slice_get-get_or, slice_get_past}
use Rattle.std.proofs.lemmas.List.{get_or_past, length-take, length-map, map-append, get_or_append_left, get_or_at, drop_all}
use Rattle.std.proofs.lemmas.List.Elements.{All-append}
use Rattle.std.proofs.lemmas.Nat.{be_bytes_4}
use Rattle.std.proofs.lemmas.Simd.{length-chunk, get_or-chunk, chunk-drop}
use Rattle.std.specs.Simd.Lanes.{chunk}
use Rattle.eden_ids.specs.declared.id.Id.{Id}
use Rattle.eden_ids.specs.Columns.{AreColumns, IsOfItsWords, id_of_words, rows, word}

pub length-rows : (n : ℕ) (a b c d e : List ℕ) → length (rows n a b c d e) ≡ n
length-rows zero a b c d e = refl
length-rows (suc n) a b c d e = let l = length-rows n a b c d e in length-append (rows n a b c d e) _ ∙ omega arith

-- more words after them change no id before
pub rows-append : (n : ℕ) (a b c d e : List ℕ) (v w x y z : ℕ) → n ≤ length a → n ≤ length b → n ≤ length c → n ≤ length d → n ≤ length e
    → rows n (a ++ v ∷ []) (b ++ w ∷ []) (c ++ x ∷ []) (d ++ y ∷ []) (e ++ z ∷ []) ≡ rows n a b c d e
rows-append zero a b c d e v w x y z fa fb fc fd fe = refl
rows-append (suc n) a b c d e v w x y z fa fb fc fd fe =
    rw (
      rows-append n a b c d e v w x y z (omega arith) (omega arith) (omega arith) (omega arith) (omega arith),
      get_or_append_left a (v ∷ []) 0 n (omega arith),
      get_or_append_left b (w ∷ []) 0 n (omega arith),
      get_or_append_left c (x ∷ []) 0 n (omega arith),
      get_or_append_left d (y ∷ []) 0 n (omega arith),
      get_or_append_left e (z ∷ []) 0 n (omega arith),
    ) refl

-- the bytes of a part are bytes
bytes_of_part : (n : ℕ) (bytes : List ℕ) → ((i : ℕ) → get_or bytes i 0 < 256) → (i : ℕ) → get_or (chunk n 4 bytes) i 0 < 256
bytes_of_part n bytes fit i = by (nat_lt i 4) refl
  where
    by : (t : Bool) → t ≡ nat_lt i 4 → get_or (chunk n 4 bytes) i 0 < 256
    by true is = let few : i < 4 = ltb-true i 4 (sym is) in rw (get_or-chunk n 4 bytes i 0 few) (fit (n + i))
    by false is =
        let past : 4 ≤ i = ltb-false i 4 (sym is) in
        let short : length (chunk n 4 bytes) ≤ 4 = let l = length-take 4 (drop n bytes) in omega arith in
        rw (get_or_past (chunk n 4 bytes) i 0 (omega arith)) (omega arith)

-- four bytes are those of their word
word-bytes : (n : ℕ) (bytes : List ℕ) → n + 4 ≤ length bytes → ((i : ℕ) → get_or bytes i 0 < 256)
    → chunk n 4 bytes ≡ to_be_bytes w32 (from_be_bytes w32 (chunk n 4 bytes))
word-bytes n bytes room fit = sym (be_bytes_4 (chunk n 4 bytes) _ (length-chunk n 4 bytes room) (bytes_of_part n bytes fit) refl)

-- twenty bytes are an id of five words
pub is_of_its_words : (id : Id) → length id.0 ≡ 20 → ((i : ℕ) → get_or id.0 i 0 < 256) → IsOfItsWords id
unfolding IsOfItsWords
is_of_its_words id twenty fit =
    let b = id.0 in
    let none : drop 20 b ≡ [] = drop_all 20 b (omega arith) in
    let cut : b ≡ chunk 0 4 b ++ (chunk 4 4 b ++ (chunk 8 4 b ++ (chunk 12 4 b ++ (chunk 16 4 b ++ [])))) =
    chunk-drop 0 4 b ∙ ap (λ (xs : List ℕ). chunk 0 4 b ++ xs) (chunk-drop 4 4 b ∙ ap (λ (xs : List ℕ). chunk 4 4 b ++ xs) (chunk-drop 8 4 b
    ∙ ap (λ (xs : List ℕ). chunk 8 4 b ++ xs) (chunk-drop 12 4 b ∙ ap (λ (xs : List ℕ). chunk 12 4 b ++ xs) (chunk-drop 16 4 b
    ∙ ap (λ (xs : List ℕ). chunk 16 4 b ++ xs) none)))) in
    ap (λ (xs : List ℕ). record { 0 = xs })
    (cut ∙ ap5 (word-bytes 0 b (omega arith) fit) (word-bytes 4 b (omega arith) fit) (word-bytes 8 b (omega arith) fit)
    (word-bytes 12 b (omega arith) fit) (word-bytes 16 b (omega arith) fit))
  where
    ap5 : {p q r s t v w x y z : List ℕ} → p ≡ v → q ≡ w → r ≡ x → s ≡ y → t ≡ z
        → p ++ (q ++ (r ++ (s ++ (t ++ [])))) ≡ v ++ (w ++ (x ++ (y ++ (z ++ []))))
    ap5 f g h i j = cc

-- no ids
pub no-columns : AreColumns [] [] [] [] [] []
no-columns = (refl, refl, refl, refl, refl, λ k d below. absurd (omega arith))

-- the columns of an id more
pub one_more : (a b c d e : List ℕ) (id : Id) → IsOfItsWords id → AreColumns (rows (length a) a b c d e) a b c d e
    → rows (length (a ++ word 0 id ∷ [])) (a ++ word 0 id ∷ []) (b ++ word 1 id ∷ []) (c ++ word 2 id ∷ []) (d ++ word 3 id ∷ []) (e ++ word 4 id ∷ [])
    ≡ rows (length a) a b c d e ++ id ∷ []
unfolding IsOfItsWords
one_more a b c d e id whole are =
    let n = length a in
    let ids = rows n a b c d e in
    let l : length ids ≡ n = length-rows n a b c d e in
    let lb : length b ≡ n = ap length are.1 ∙ length-map ids (word 1) ∙ l in
    let lc : length c ≡ n = ap length are.2 ∙ length-map ids (word 2) ∙ l in
    let ld : length d ≡ n = ap length are.3 ∙ length-map ids (word 3) ∙ l in
    let le : length e ≡ n = ap length are.4 ∙ length-map ids (word 4) ∙ l in
    let more : length (a ++ word 0 id ∷ []) ≡ suc n = length-append a (word 0 id ∷ []) ∙ omega arith in
    rw more (rw (
      rows-append n a b c d e (word 0 id) (word 1 id) (word 2 id) (word 3 id) (word 4 id) (omega arith) (omega arith) (omega arith) (omega arith) (omega arith),
      get_or_at a (word 0 id) [] 0 n refl,
      get_or_at b (word 1 id) [] 0 n lb,
      get_or_at c (word 2 id) [] 0 n lc,
      get_or_at d (word 3 id) [] 0 n ld,
      get_or_at e (word 4 id) [] 0 n le,
    ) (ap (λ (x : Id). ids ++ x ∷ []) (sym whole)))

pub columns-push : (a b c d e : List ℕ) (ids : List Id) (id : Id) → IsOfItsWords id → AreColumns ids a b c d e
    → AreColumns (ids ++ id ∷ []) (a ++ word 0 id ∷ []) (b ++ word 1 id ∷ []) (c ++ word 2 id ∷ []) (d ++ word 3 id ∷ []) (e ++ word 4 id ∷ [])
columns-push a b c d e ids id whole are = (
  ap (λ (xs : List ℕ). xs ++ word 0 id ∷ []) are.0 ∙ sym (map-append (word 0) ids (id ∷ [])),
  ap (λ (xs : List ℕ). xs ++ word 1 id ∷ []) are.1 ∙ sym (map-append (word 1) ids (id ∷ [])),
  ap (λ (xs : List ℕ). xs ++ word 2 id ∷ []) are.2 ∙ sym (map-append (word 2) ids (id ∷ [])),
  ap (λ (xs : List ℕ). xs ++ word 3 id ∷ []) are.3 ∙ sym (map-append (word 3) ids (id ∷ [])),
  ap (λ (xs : List ℕ). xs ++ word 4 id ∷ []) are.4 ∙ sym (map-append (word 4) ids (id ∷ [])),
  All-append IsOfItsWords ids (id ∷ []) are.5 (λ k d below. let e : k ≡ 0 = omega arith in rw e whole),
)

-- the same, of the columns that were pushed to
pub pushed : (a b c d e p q r s t : List ℕ) (id : Id) → IsOfItsWords id → AreColumns (rows (length a) a b c d e) a b c d e
    → p ≡ a ++ word 0 id ∷ [] → q ≡ b ++ word 1 id ∷ [] → r ≡ c ++ word 2 id ∷ [] → s ≡ d ++ word 3 id ∷ [] → t ≡ e ++ word 4 id ∷ []
    → (AreColumns (rows (length p) p q r s t) p q r s t) × (rows (length p) p q r s t ≡ rows (length a) a b c d e ++ id ∷ [])
pushed a b c d e p q r s t id whole are f g h i j =
    rw (f, g, h, i, j) (rw (one_more a b c d e id whole are) (columns-push a b c d e (rows (length a) a b c d e) id whole are), one_more a b c d e id whole are)

-- the id of a row is read from its words
pub get_or-rows : (n row : ℕ) (a b c d e : List ℕ) (dull : Id) → row < n
    → get_or (rows n a b c d e) row dull ≡ id_of_words (get_or a row 0) (get_or b row 0) (get_or c row 0) (get_or d row 0) (get_or e row 0)
get_or-rows zero row a b c d e dull below = absurd (omega arith)
get_or-rows (suc n) row a b c d e dull below = by (nat_lt row n) refl (λ k. get_or-rows n row a b c d e dull k)
  where
    last : ℕ → Id
    last k = id_of_words (get_or a k 0) (get_or b k 0) (get_or c k 0) (get_or d k 0) (get_or e k 0)

    by : (t : Bool) → t ≡ nat_lt row n → (row < n → get_or (rows n a b c d e) row dull ≡ last row) → get_or (rows n a b c d e ++ last n ∷ []) row dull ≡ last row
    by true is before =
        let above : row < n = ltb-true row n (sym is) in
        let long : length (rows n a b c d e) ≡ n = length-rows n a b c d e in
        get_or_append_left (rows n a b c d e) (last n ∷ []) dull row (omega arith) ∙ before above
    by false is before =
        let past : n ≤ row = ltb-false row n (sym is) in
        let same : row ≡ n = omega arith in
        rw same (get_or_at (rows n a b c d e) (last n) [] dull n (length-rows n a b c d e))

pub slice_get-rows : (n row : ℕ) (a b c d e : List ℕ) → row < n
    → Some (id_of_words (get_or a row 0) (get_or b row 0) (get_or c row 0) (get_or d row 0) (get_or e row 0)) ≡ slice_get (rows n a b c d e) row
slice_get-rows n row a b c d e below =
    let dull = id_of_words 0 0 0 0 0 in
    let l = length-rows n a b c d e in
    sym (slice_get-get_or (rows n a b c d e) row dull (omega arith) ∙ ap Some (get_or-rows n row a b c d e dull below))

pub slice_get-rows_past : (n row : ℕ) (a b c d e : List ℕ) → n ≤ row → None ≡ slice_get (rows n a b c d e) row
slice_get-rows_past n row a b c d e past = let l = length-rows n a b c d e in sym (slice_get_past (rows n a b c d e) row (omega arith))

-- each column is as long as the ids are many
pub columns-long : (a b c d e : List ℕ) → AreColumns (rows (length a) a b c d e) a b c d e
    → (length b ≡ length a) × (length c ≡ length a) × (length d ≡ length a) × (length e ≡ length a)
columns-long a b c d e are =
    let ids = rows (length a) a b c d e in
    let l : length ids ≡ length a = length-rows (length a) a b c d e in (
      ap length are.1 ∙ length-map ids (word 1) ∙ l,
      ap length are.2 ∙ length-map ids (word 2) ∙ l,
      ap length are.3 ∙ length-map ids (word 3) ∙ l,
      ap length are.4 ∙ length-map ids (word 4) ∙ l,
    )

pub ruleset columns = (length-rows, slice_get-rows, slice_get-rows_past)
