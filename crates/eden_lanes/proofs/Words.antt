-- Ids are the same where their five words are.
use Rattle.std.proofs.Common.{◌≡◌, ℕ, List, length, get_or, map, ap, sym, ◌∙◌, ◌<◌, Bool, ◌&&◌}
use Rattle.std.specs.Bool.{Decides}
use Rattle.std.specs.List.{All}
use Rattle.std.specs.Simd.Lanes.{Each1, chunk}
use Rattle.std.proofs.lemmas.Bool.Decides.{Decides-and, Decides-eqb, Decides-like, same_from_decides}
use Rattle.std.proofs.lemmas.List.{get_or-map}
use Rattle.std.proofs.lemmas.Simd.{Each1-from_get_or, Each1-chunk}
use Rattle.eden_ids.specs.declared.id.Id.{Id}
use Rattle.eden_ids.specs.Columns.{IsOfItsWords, id_of_words, word}
use Rattle.eden_ids.specs.Sameness.{same_id}
use Rattle.eden_lanes.specs.internal.Masks.{same_word}
use Rattle.eden_lanes.proofs.RowLaws.{same_id-Decides}

-- all five words are the same
abbrev pub same_words : Id → Id → Bool
same_words x y = same_word 0 x y && same_word 1 x y && same_word 2 x y && same_word 3 x y && same_word 4 x y

pub words_tell : (x y : Id) → IsOfItsWords x → IsOfItsWords y → same_words x y ≡ same_id x y
unfolding IsOfItsWords
words_tell x y first second =
    same_from_decides (same_words x y) (same_id x y)
    (Decides-like (same_words x y) up down
    (Decides-and _ _ (Decides-and _ _ (Decides-and _ _ (Decides-and _ _ (at 0) (at 1)) (at 2)) (at 3)) (at 4)))
    (same_id-Decides x y)
  where
    at : (n : ℕ) → Decides (same_word n x y) (word n x ≡ word n y)
    at n = Decides-eqb (word n x) (word n y)

    up : ((((word 0 x ≡ word 0 y) × (word 1 x ≡ word 1 y)) × (word 2 x ≡ word 2 y)) × (word 3 x ≡ word 3 y)) × (word 4 x ≡ word 4 y) → x ≡ y
    up same =
        first ∙ ap (λ n. id_of_words n (word 1 x) (word 2 x) (word 3 x) (word 4 x)) same.0.0.0.0
        ∙ ap (λ n. id_of_words (word 0 y) n (word 2 x) (word 3 x) (word 4 x)) same.0.0.0.1
        ∙ ap (λ n. id_of_words (word 0 y) (word 1 y) n (word 3 x) (word 4 x)) same.0.0.1
        ∙ ap (λ n. id_of_words (word 0 y) (word 1 y) (word 2 y) n (word 4 x)) same.0.1
        ∙ ap (id_of_words (word 0 y) (word 1 y) (word 2 y) (word 3 y)) same.1 ∙ sym second

    down : x ≡ y → ((((word 0 x ≡ word 0 y) × (word 1 x ≡ word 1 y)) × (word 2 x ≡ word 2 y)) × (word 3 x ≡ word 3 y)) × (word 4 x ≡ word 4 y)
    down same = ((((ap (word 0) same, ap (word 1) same), ap (word 2) same), ap (word 3) same), ap (word 4) same)

-- five tests as one
pub all_five : {p q r s t v w x y z : Bool} → p ≡ v → q ≡ w → r ≡ x → s ≡ y → t ≡ z → (p && q && r && s && t) ≡ (v && w && x && y && z)
all_five f g h i j = cc

-- a word that was read is that of the id
pub word_read : (n row : ℕ) (ids : List Id) (words : List ℕ) (w : ℕ) (d : Id) → words ≡ map (word n) ids → w ≡ get_or words row w → row < length ids
    → w ≡ word n (get_or ids row d)
word_read n row ids words w d are is within =
    is ∙ ap (λ (ws : List ℕ). get_or ws row w) are ∙ get_or-map (word n) ids row d w within

-- eight ids of a column are those of their words
pub each_of : (ids : List Id) (row n : ℕ) → All IsOfItsWords ids → Each1 IsOfItsWords (chunk row n ids)
each_of ids row n all =
    let d = id_of_words 0 0 0 0 0 in
    Each1-chunk IsOfItsWords row n ids (Each1-from_get_or IsOfItsWords ids d (λ i within. all i d within))

pub ruleset read = (word_read)
