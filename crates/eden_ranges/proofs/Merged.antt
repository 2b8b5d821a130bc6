-- Mentions merged with paths that the root names: one turn of the merge, and that it comes to all that is said.
use Rattle.std.proofs.Common.{◌≡◌, ℕ, Bool, true, false, cond, ◌||◌, List, [], ◌∷◌, ◌++◌, map, take, drop, Option, Some, None, refl, sym, ap, ◌∙◌, append_assoc, append-nil}
use Rattle.std.proofs.Math.Bool.{or_assoc, or_comm}
use Rattle.std.proofs.lemmas.List.{map-append}
use Rattle.std.proofs.lemmas.Option.{slice_get-map}
use Rattle.std.specs.Prelude.{option_map}
use Rattle.std.specs.declared.cmp.Ordering.{Ordering}
use Rattle.std.specs.declared.cmp.Ordering.TheVariants.{Less, Equal, Greater}
use Rattle.std.specs.Ordering.{is_lt, ordering_reverse}
use Rattle.std.specs.Cmp.{IsTotalOrder}
use Rattle.std.specs.Cmp.Lexicographic.{nat_list_cmp_total}
use Rattle.std.specs.FinMap.Entries.{by_order}
use Rattle.std.specs.List.{list_any, slice_get}
use Rattle.eden_ids.specs.FileMaps.{has, path_set, same_path, union}
use Rattle.eden_ids.proofs.ByteOrder.{is_less, order}
use Rattle.eden_ids.proofs.FileMapLemmas.{has-path_set, has-union, path_set-listing, same_order, same_path_set}
use Rattle.eden_history.specs.declared.mark.Marked.{Marked}
use Rattle.eden_history.specs.Marks.{mark_said}
use Rattle.eden_history.specs.Said.{Said, by_root, ends, ends_at, joined, paths_said}
use Rattle.eden_history.proofs.Ends.{ends-paths, ends_alike, ends_at-append, ends_at-ends, ends_at-roots, joined-none}
use Rattle.eden_history.proofs.Saying.{rooted-names}
use Rattle.eden_ranges.specs.declared.mentions.Mention.{Mention}
use Rattle.eden_ranges.specs.internal.Mentions.{Ascend, AscendFrom, merged, order_of, told}
use Rattle.eden_ranges.proofs.OneAPath.{ascending, ends_ascend}
use Rattle.eden_ranges.proofs.Said.{paths-with_roots}

-- ---- one turn

-- what is merged, by how the first ones compare
abbrev turn : Option Ordering → List Said → List (List ℕ) → List Said
turn None ms ps = []
turn (Some Less) ms ps = map by_root (take 1 ps) ++ merged ms (drop 1 ps)
turn (Some Equal) ms ps = merged ms (drop 1 ps)
turn (Some Greater) ms ps = take 1 ms ++ merged (drop 1 ms) ps

by_turn : (ms : List Said) (ps : List (List ℕ)) → turn (order_of (slice_get ps 0) (slice_get ms 0)) ms ps ≡ merged ms ps
by_turn [] [] = refl
by_turn [] (p ∷ ps) = refl
by_turn (m ∷ ms) [] = refl
by_turn (m ∷ ms) (p ∷ ps) =
    let later = merged (m ∷ ms) ps in
    elim (order p m.0) as (λ r. turn (Some r) (m ∷ ms) (p ∷ ps) ≡ by_order r (by_root p ∷ later) later (m ∷ merged ms (p ∷ ps))) [
      | Less ↦ refl
      | Equal ↦ refl
      | Greater ↦ refl
    ]

first_told : (ms : List Mention) → take 1 (map told ms) ≡ map told (take 1 ms)
first_told [] = refl
first_told (m ∷ ms) = refl

later_told : (ms : List Mention) → drop 1 (map told ms) ≡ map told (drop 1 ms)
later_told [] = refl
later_told (m ∷ ms) = refl

-- The marked paths so far, and what is merged of what is left.
pub record Merges (done : List Marked) (ms : List Mention) (ps : List (List ℕ)) (whole : List Marked) : Type 0 where
  pub is : done ++ map mark_said (merged (map told ms) ps) ≡ whole

-- The same, where it is known how the first ones compare.
pub record Turn (done : List Marked) (ms : List Mention) (ps : List (List ℕ)) (whole : List Marked) (order : Option Ordering) : Type 0 where
  pub is : done ++ map mark_said (turn order (map told ms) ps) ≡ whole

module _ {done : List Marked} {ms : List Mention} {ps : List (List ℕ)} {whole : List Marked} where
  pub compared : {order : Option Ordering} → order ≡ order_of (slice_get ps 0) (option_map told (slice_get ms 0)) → Merges done ms ps whole → Turn done ms ps whole order
  compared {order} is merges = record {
    is = ap (λ list. done ++ map mark_said list)
        (ap (λ o. turn o (map told ms) ps) (is ∙ ap (order_of (slice_get ps 0)) (sym (slice_get-map told ms 0))) ∙ by_turn (map told ms) ps) ∙ merges.is;
  }

  -- what comes first is added
  added : {more : List Marked} (some rest : List Said) {order : Ordering} → more ≡ done ++ map mark_said some → turn (Some order) (map told ms) ps ≡ some ++ rest
      → Turn done ms ps whole (Some order) → more ++ map mark_said rest ≡ whole
  added {more} some rest grown is turned =
      ap (λ list. list ++ map mark_said rest) grown
      ∙ append_assoc done (map mark_said some) (map mark_said rest)
      ∙ ap (λ list. done ++ list) (sym (ap (map mark_said) is ∙ map-append mark_said some rest))
      ∙ turned.is

  pub path_moved : {more : List Marked} {qs : List (List ℕ)} {order : Ordering} → Turn done ms ps whole (Some order) → order ≡ Less
      → more ≡ done ++ map mark_said (map by_root (take 1 ps)) → qs ≡ drop 1 ps → Merges more ms qs whole
  path_moved {more} {qs} {order} turned o grown left = record {
    is = ap (λ rest. more ++ map mark_said (merged (map told ms) rest)) left
        ∙ added (map by_root (take 1 ps)) (merged (map told ms) (drop 1 ps)) grown (ap (λ r. turn (Some r) (map told ms) ps) o) turned;
  }

  pub path_dropped : {qs : List (List ℕ)} {order : Ordering} → Turn done ms ps whole (Some order) → order ≡ Equal → qs ≡ drop 1 ps → Merges done ms qs whole
  path_dropped {qs} {order} turned o left = record {
    is = ap (λ rest. done ++ map mark_said (merged (map told ms) rest)) left ∙ ap (λ r. done ++ map mark_said (turn (Some r) (map told ms) ps)) (sym o) ∙ turned.is;
  }

  pub mention_copied : {more : List Marked} {ns : List Mention} {order : Ordering} → Turn done ms ps whole (Some order) → order ≡ Greater
      → more ≡ done ++ map mark_said (map told (take 1 ms)) → ns ≡ drop 1 ms → Merges more ns ps whole
  mention_copied {more} {ns} {order} turned o grown left = record {
    is = ap (λ rest. more ++ map mark_said (merged (map told rest) ps)) left
        ∙ added (map told (take 1 ms)) (merged (map told (drop 1 ms)) ps) grown
        (ap (λ r. turn (Some r) (map told ms) ps) o ∙ (λ i. first_told ms i ++ merged (later_told ms i) ps)) turned;
  }

  pub none_left : Turn done ms ps whole None → done ≡ whole
  none_left turned = sym (append-nil done) ∙ turned.is

-- ---- which paths are merged, and what is said of them

abbrev says : List ℕ → List Said → Bool
says q list = list_any (λ p. same_path q p) (paths_said list)

abbrev among : List ℕ → List (List ℕ) → Bool
among q ps = list_any (λ p. same_path q p) ps

swapped : (a b c : Bool) → (a || (b || c)) ≡ (b || (a || c))
swapped true true c = refl
swapped true false c = refl
swapped false b c = refl

once : (a b c : Bool) → ((a || b) || c) ≡ ((a || b) || (a || c))
once true b c = refl
once false b c = refl

either : {X : Type 0} (b : Bool) (x : X) → cond b x x ≡ x
either true x = refl
either false x = refl

module _ (q : List ℕ) where
  one_there : (one : Said) (more : List Said) → ((ps : List (List ℕ)) → says q (merged more ps) ≡ (says q more || among q ps))
      → (ps : List (List ℕ)) → says q (merged (one ∷ more) ps) ≡ ((same_path q one.0 || says q more) || among q ps)
  one_there one more rest [] = ap (λ b. same_path q one.0 || b) (rest []) ∙ sym (or_assoc (same_path q one.0) (says q more) false)
  one_there one more rest (p ∷ ps) =
      let here : Bool = same_path q one.0 in
      let later = merged (one ∷ more) ps in
      let known = one_there one more rest ps in
      elim (order p one.0) as (λ r. order p one.0 ≡ r
      → says q (by_order r (by_root p ∷ later) later (one ∷ merged more (p ∷ ps))) ≡ ((here || says q more) || (same_path q p || among q ps))) [
        | Less ↦ λ e. ap (λ b. same_path q p || b) known ∙ swapped (same_path q p) (here || says q more) (among q ps)
        | Equal ↦ λ e.
            known ∙ once here (says q more) (among q ps) ∙ ap (λ path. (here || says q more) || (same_path q path || among q ps)) (sym (same_order p one.0 e))
        | Greater ↦ λ e. ap (λ b. here || b) (rest (p ∷ ps)) ∙ sym (or_assoc here (says q more) (among q (p ∷ ps)))
      ] refl

  all_there : (list : List Said) (ps : List (List ℕ)) → says q (merged list ps) ≡ (says q list || among q ps)
  all_there [] ps = ap (list_any (λ p. same_path q p)) (rooted-names ps)
  all_there (one ∷ more) ps = one_there one more (all_there more) ps

  one_ends : (one : Said) (more : List Said) → ((ps : List (List ℕ)) → ends_at q (merged more ps) ≡ ends_at q more)
      → (ps : List (List ℕ)) → ends_at q (merged (one ∷ more) ps) ≡ ends_at q (one ∷ more)
  one_ends one more rest [] = ap (λ o. cond (same_path q one.0) (joined one.1 o) o) (rest [])
  one_ends one more rest (p ∷ ps) =
      let later = merged (one ∷ more) ps in
      let known = one_ends one more rest ps in
      elim (order p one.0) as (λ r. ends_at q (by_order r (by_root p ∷ later) later (one ∷ merged more (p ∷ ps))) ≡ ends_at q (one ∷ more)) [
        | Less ↦ either (same_path q p) (ends_at q later) ∙ known
        | Equal ↦ known
        | Greater ↦ ap (λ o. cond (same_path q one.0) (joined one.1 o) o) (rest (p ∷ ps))
      ]

  all_end : (list : List Said) (ps : List (List ℕ)) → ends_at q (merged list ps) ≡ ends_at q list
  all_end [] ps = ends_at-roots q ps
  all_end (one ∷ more) ps = one_ends one more (all_end more) ps

-- ---- they ascend

turned_round : (p q : List ℕ) → order p q ≡ Greater → is_lt (order q p) ≡ true
turned_round p q e = let laws : IsTotalOrder order = nat_list_cmp_total in ap is_lt (laws.antisymm q p ∙ ap ordering_reverse e)

-- without the first one
passed : (k p : List ℕ) (list : List Said) → is_lt (order k p) ≡ true → AscendFrom p list → AscendFrom k list
passed k p [] low up = tt
passed k p (one ∷ more) low up =
    let laws : IsTotalOrder order = nat_list_cmp_total in
    (ap is_lt (laws.trans k p one.0 (is_less _ low) (is_less _ up.0)), up.1)

one_up : (k : List ℕ) (one : Said) (more : List Said) → ((n : List ℕ) (ps : List (List ℕ)) → AscendFrom n more → AscendFrom n (map by_root ps) → AscendFrom n (merged more ps))
    → (ps : List (List ℕ)) → AscendFrom k (one ∷ more) → AscendFrom k (map by_root ps) → AscendFrom k (merged (one ∷ more) ps)
one_up k one more rest [] up roots = (up.0, rest one.0 [] up.1 tt)
one_up k one more rest (p ∷ ps) up roots =
    let later = merged (one ∷ more) ps in
    elim (order p one.0) as (λ r. order p one.0 ≡ r → AscendFrom k (by_order r (by_root p ∷ later) later (one ∷ merged more (p ∷ ps)))) [
      | Less ↦ λ e. (roots.0, one_up p one more rest ps (ap is_lt e, up.1) roots.1)
      | Equal ↦ λ e. one_up k one more rest ps up (passed k p (map by_root ps) roots.0 roots.1)
      | Greater ↦ λ e. (up.0, rest one.0 (p ∷ ps) up.1 (turned_round p one.0 e, roots.1))
    ] refl

all_up : (k : List ℕ) (list : List Said) (ps : List (List ℕ)) → AscendFrom k list → AscendFrom k (map by_root ps) → AscendFrom k (merged list ps)
all_up k [] ps up roots = roots
all_up k (one ∷ more) ps up roots = one_up k one more (λ n qs. all_up n more qs) ps up roots

later_up : (p : List ℕ) (list : List Said) → AscendFrom p list → Ascend list
later_up p [] up = tt
later_up p (one ∷ more) up = up.1

ascend_merged : (list : List Said) (ps : List (List ℕ)) → Ascend list → Ascend (map by_root ps) → Ascend (merged list ps)
ascend_merged [] ps up roots = roots
ascend_merged (one ∷ more) [] up roots = all_up one.0 more [] up tt
ascend_merged (one ∷ more) (p ∷ ps) up roots =
    let later = merged (one ∷ more) ps in
    elim (order p one.0) as (λ r. order p one.0 ≡ r → Ascend (by_order r (by_root p ∷ later) later (one ∷ merged more (p ∷ ps)))) [
      | Less ↦ λ e. all_up p (one ∷ more) ps (ap is_lt e, up) roots
      | Equal ↦ λ e. ascend_merged (one ∷ more) ps up (later_up p (map by_root ps) roots)
      | Greater ↦ λ e. all_up one.0 more (p ∷ ps) up (turned_round p one.0 e, roots)
    ] refl

-- ---- what is merged comes to all that is said

-- the ends of the ends, with what the root names
ends_with_roots : (list : List Said) (ps : List (List ℕ)) → ends (ends list ++ map by_root ps) ≡ ends (list ++ map by_root ps)
ends_with_roots list ps = ends_alike _ _
    (paths-with_roots (ends list) ps
    ∙ ap (union (path_set ps)) (ap path_set (ends-paths list) ∙ path_set-listing (path_set (paths_said list)))
    ∙ sym (paths-with_roots list ps))
    (λ q. ends_at-append q (ends list) (map by_root ps)
    ∙ ap (λ o. joined o (ends_at q (map by_root ps))) (ends_at-ends q list)
    ∙ sym (ends_at-append q list (map by_root ps)))

merged_ends : (list : List Said) (ps : List (List ℕ)) → Ascend list → Ascend (map by_root ps) → merged list ps ≡ ends (list ++ map by_root ps)
merged_ends list ps up roots =
    sym (ascending (merged list ps) (ascend_merged list ps up roots))
    ∙ ends_alike (merged list ps) (list ++ map by_root ps)
    (same_path_set _ _ (λ q.
    has-path_set (paths_said (merged list ps)) q
    ∙ all_there q list ps
    ∙ or_comm (says q list) (among q ps)
    ∙ sym (ap (λ set. has set q) (paths-with_roots list ps) ∙ has-union (path_set ps) (path_set (paths_said list)) q
    ∙ (λ i. has-path_set ps q i || has-path_set (paths_said list) q i))))
    (λ q. all_end q list ps
    ∙ sym (ends_at-append q list (map by_root ps) ∙ ap (joined (ends_at q list)) (ends_at-roots q ps) ∙ joined-none (ends_at q list)))

-- the same of mentions that are the ends of what is said
pub merged_said : (list : List Said) (ms : List Mention) (ps : List (List ℕ)) → map told ms ≡ ends list → Ascend (map by_root ps)
    → merged (map told ms) ps ≡ ends (list ++ map by_root ps)
merged_said list ms ps is up = ap (λ said. merged said ps) is ∙ merged_ends (ends list) ps (ends_ascend list) up ∙ ends_with_roots list ps
