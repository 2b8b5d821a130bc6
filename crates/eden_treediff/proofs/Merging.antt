-- One step over what is left of two directories.
use Rattle.std.proofs.Common.{◌≡◌, ℕ, zero, suc, ◌+◌, ◌<◌, ◌≤◌, ◌++◌, Bool, true, false, cond, nat_lt, min, List, [], ◌∷◌, drop, length, Some, refl, sym, ap, subst, ◌∙◌, arith, drop_of_length-le, length-append}
use Rattle.std.proofs.lemmas.Bool.{ltb-false, ltb-true}
use Rattle.std.proofs.lemmas.List.{drop-drop, length-drop, length-map}
use Rattle.std.proofs.Math.Seq.{drop-append_seam}
use Rattle.std.specs.List.{slice_get}
use Rattle.eden_git.specs.Trees.{Entry}
use Rattle.eden_git.specs.Columns.{names_of}
use Rattle.eden_treediff.specs.declared.changed.Changed.{Changed}
use Rattle.eden_treediff.specs.declared.side.Side.{Side}
use Rattle.eden_treediff.specs.internal.Columns.{AreChanges, AreTold, IsAhead, entries_lent, first_row, passed, rest_of, rows_after}
use Rattle.eden_treediff.specs.internal.Pairs.{first_of}
use Rattle.eden_treediff.proofs.Rows.{jump, passed_row}

-- the first of what is left is at the row
pub first_left : (es : List Entry) (row : ℕ) → slice_get es row ≡ first_of (drop row es)
first_left [] zero = refl
first_left [] (suc row) = refl
first_left (e ∷ es) zero = refl
first_left (e ∷ es) (suc row) = first_left es row

-- after the first

row_passed : (side : Side) (t : Bool) → nat_lt side.row side.end ≡ t → IsAhead side
    → (rest_of (passed side) ≡ drop 1 (rest_of side)) × IsAhead (passed side)
row_passed side true is ahead =
    let es : List Entry = entries_lent side.rows in
    let row : (passed side).row ≡ side.row + 1 = ap (λ b. cond b (side.row + 1) side.row) is in
    let less : side.row < side.end = ltb-true side.row side.end is in
    (ap (λ n. drop n es) row ∙ sym (drop-drop 1 side.row es), (ahead.0, omega (arith, row, less)))
row_passed side false is ahead =
    let es : List Entry = entries_lent side.rows in
    let row : (passed side).row ≡ side.row = ap (λ b. cond b (side.row + 1) side.row) is in
    let past : side.end ≤ side.row = ltb-false side.row side.end is in
    let none : drop side.row es ≡ [] = drop_of_length-le es (let long = ahead.0 in omega (arith, long, past)) in
    (ap (λ n. drop n es) row ∙ none ∙ sym (ap (drop 1) none), (ahead.0, (let low = ahead.1 in omega (arith, row, low))))

pub side_passed : (side : Side) → IsAhead side → (rest_of (passed side) ≡ drop 1 (rest_of side)) × IsAhead (passed side)
side_passed side ahead = row_passed side (nat_lt side.row side.end) refl ahead

-- the rows are passed over up to the first that differs

long_rest : (side : Side) → IsAhead side → side.end ≡ side.row + length (rest_of side)
long_rest side ahead =
    let rest = length-drop side.row (entries_lent side.rows) in
    let whole = ahead.0 in
    let low = ahead.1 in
    omega (arith, rest, whole, low)

abbrev pub moved : Side → ℕ → Side
moved side to = record { rows = side.rows; row = to; end = side.end }

abbrev pub Skips : Side → Side → Changed → ℕ → Type 0
Skips left right changed to =
    (front : List Entry) × (rest_of left ≡ front ++ drop to (entries_lent left.rows)) × (rest_of right ≡ front ++ drop to (entries_lent right.rows))
    × (to ≤ left.end) × (to ≤ right.end) × AreChanges to changed.ids changed.kinds (drop to (entries_lent left.rows)) (drop to (entries_lent right.rows))

far_rest : (side : Side) (front us : List Entry) (row to : ℕ) → IsAhead side → side.row ≡ row → to ≡ row + length front → rest_of side ≡ front ++ us
    → (drop to (entries_lent side.rows) ≡ us) × (to ≤ side.end)
far_rest side front us row to ahead here far is =
    let es : List Entry = entries_lent side.rows in
    let place : to ≡ side.row + length front = omega (arith, here, far) in
    let long = long_rest side ahead in
    let parts : length (rest_of side) ≡ length front + length us = ap length is ∙ length-append front us in (
      ap (λ n. drop n es) place ∙ sym (drop-drop (length front) side.row es) ∙ ap (drop (length front)) is ∙ drop-append_seam front us,
      omega (arith, place, long, parts),
    )

pub all_skipped : (left right : Side) (changed : Changed) (to : ℕ) → IsAhead left → IsAhead right → AreTold (Some changed) left right
    → to ≡ min (first_row changed.ids left.end) (first_row changed.kinds left.end) → Skips left right changed to
all_skipped left right changed to ahead beside told is =
    let jumped = jump left.row left.end changed.ids changed.kinds (rest_of left) (rest_of right) (long_rest left ahead) told.1 in
    let far : to ≡ left.row + length jumped.0 = is ∙ jumped.5 in
    let one = far_rest left jumped.0 jumped.1 left.row to ahead refl far jumped.3 in
    let two = far_rest right jumped.0 jumped.2 left.row to beside told.0 far jumped.4 in (
      jumped.0,
      jumped.3 ∙ ap (λ us. jumped.0 ++ us) (sym one.0),
      jumped.4 ∙ ap (λ vs. jumped.0 ++ vs) (sym two.0),
      one.1,
      two.1,
      subst (λ us. AreChanges to changed.ids changed.kinds us (drop to (entries_lent right.rows))) (sym one.0)
          (subst (λ vs. AreChanges to changed.ids changed.kinds jumped.1 vs) (sym two.0)
          (subst (λ r. AreChanges r changed.ids changed.kinds jumped.1 jumped.2) (sym is) jumped.6)),
    )

-- after one row

same_length : (es fs : List Entry) → names_of es ≡ names_of fs → length es ≡ length fs
same_length es fs same = sym (length-map es (λ e. e.name)) ∙ ap length same ∙ length-map fs (λ e. e.name)

told_drop : (row : ℕ) (ids kinds : List ℕ) (es fs : List Entry) → AreChanges row ids kinds es fs → 0 < length es
    → AreChanges (row + 1) (rows_after row ids) (rows_after row kinds) (drop 1 es) (drop 1 fs)
told_drop row ids kinds [] fs told some = absurd (omega (arith, some))
told_drop row ids kinds (e ∷ es) [] told some = let bad = told.0 in absurd (cc)
told_drop row ids kinds (e ∷ es) (f ∷ fs) told some = passed_row row ids kinds e f es fs told

told_none : (row : ℕ) (ids kinds : List ℕ) (es fs : List Entry) → AreChanges row ids kinds es fs → length es ≡ 0
    → AreChanges row (rows_after row ids) (rows_after row kinds) (drop 1 es) (drop 1 fs)
told_none row ids kinds [] [] told none = (refl, ap (rows_after row) told.1, ap (rows_after row) told.2)
told_none row ids kinds [] (f ∷ fs) told none = let bad = told.0 in absurd (cc)
told_none row ids kinds (e ∷ es) fs told none = absurd (omega (arith, none))

abbrev pub ArePassed : Side → Side → List ℕ → List ℕ → Type 0
ArePassed left right ids kinds = ((passed right).row ≡ (passed left).row) × AreChanges (passed left).row ids kinds (rest_of (passed left)) (rest_of (passed right))

carry : (left right : Side) (ids kinds more others : List ℕ) (row : ℕ) → IsAhead left → IsAhead right → (passed left).row ≡ row → (passed right).row ≡ row
    → more ≡ ids → others ≡ kinds → AreChanges row ids kinds (drop 1 (rest_of left)) (drop 1 (rest_of right)) → ArePassed left right more others
carry left right ids kinds more others row ahead beside one two first second told = (
  two ∙ sym one,
  subst (λ r. AreChanges r more others (rest_of (passed left)) (rest_of (passed right))) (sym one)
      (subst (λ ns. AreChanges row ns others (rest_of (passed left)) (rest_of (passed right))) (sym first)
      (subst (λ ns. AreChanges row ids ns (rest_of (passed left)) (rest_of (passed right))) (sym second)
      (subst (λ es. AreChanges row ids kinds es (rest_of (passed right))) (sym (side_passed left ahead).0)
      (subst (λ fs. AreChanges row ids kinds (drop 1 (rest_of left)) fs) (sym (side_passed right beside).0) told)))),
)

pub both_told : (left right : Side) (changed : Changed) (ids kinds : List ℕ) → IsAhead left → IsAhead right → AreTold (Some changed) left right
    → ids ≡ rows_after left.row changed.ids → kinds ≡ rows_after left.row changed.kinds → ArePassed left right ids kinds
both_told left right changed ids kinds ahead beside told one two = by (nat_lt left.row left.end) refl (nat_lt right.row right.end) refl
  where
    long : left.end ≡ left.row + length (rest_of left)
    long = long_rest left ahead

    wide : right.end ≡ right.row + length (rest_of right)
    wide = long_rest right beside

    same : length (rest_of left) ≡ length (rest_of right)
    same = same_length (rest_of left) (rest_of right) told.1.0

    by : (s : Bool) → nat_lt left.row left.end ≡ s → (t : Bool) → nat_lt right.row right.end ≡ t → ArePassed left right ids kinds
    by true s true t =
        let less : left.row < left.end = ltb-true left.row left.end s in
        let row : (passed left).row ≡ left.row + 1 = ap (λ b. cond b (left.row + 1) left.row) s in
        let other : (passed right).row ≡ left.row + 1 = ap (λ b. cond b (right.row + 1) right.row) t ∙ ap (λ r. r + 1) told.0 in
        carry left right (rows_after left.row changed.ids) (rows_after left.row changed.kinds) ids kinds (left.row + 1) ahead beside row other one two
        (told_drop left.row changed.ids changed.kinds (rest_of left) (rest_of right) told.1 (omega (arith, less, long)))
    by false s false t =
        let past : left.end ≤ left.row = ltb-false left.row left.end s in
        let row : (passed left).row ≡ left.row = ap (λ b. cond b (left.row + 1) left.row) s in
        let other : (passed right).row ≡ left.row = ap (λ b. cond b (right.row + 1) right.row) t ∙ told.0 in
        carry left right (rows_after left.row changed.ids) (rows_after left.row changed.kinds) ids kinds left.row ahead beside row other one two
        (told_none left.row changed.ids changed.kinds (rest_of left) (rest_of right) told.1 (omega (arith, past, long)))
    by true s false t =
        let less : left.row < left.end = ltb-true left.row left.end s in
        let past : right.end ≤ right.row = ltb-false right.row right.end t in
        absurd (omega (arith, less, past, long, wide, same))
    by false s true t =
        let past : left.end ≤ left.row = ltb-false left.row left.end s in
        let less : right.row < right.end = ltb-true right.row right.end t in
        absurd (omega (arith, less, past, long, wide, same))
