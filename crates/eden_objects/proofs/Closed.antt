-- What an object of a closed store names is in the store too, so that each tree is what its entries come to in the whole store.
use Rattle.std.proofs.Common.{◌≡◌, ℕ, ◌+◌, ◌<◌, ◌≤◌, ◌++◌, inl, inr, true, false, cond, ltb, List, [], ◌∷◌, Option, Some, None, refl, sym, ap, subst, ◌∙◌, arith}
use Rattle.std.proofs.lemmas.Bool.{cases_Bool, ltb-true, ltb-false}
use Rattle.std.proofs.lemmas.Slice.Eq.{bytes_eq-Decides}
use Rattle.std.specs.List.{AllByRecursion}
use Rattle.eden_ids.specs.declared.id.Id.{Id}
use Rattle.eden_ids.specs.declared.content.Kind.{Kind}
use Rattle.eden_git.specs.declared.object_type.ObjectType.{ObjectType}
use Rattle.eden_git.specs.declared.object_type.ObjectType.TheVariants.{Blob, Tree, Commit}
use Rattle.eden_objects.specs.Objects.{Held, find}
use Rattle.eden_ids.specs.Sameness.{same_id}
use Rattle.eden_git.specs.Trees.{Entry, entries_of}
use Rattle.eden_objects.specs.Trees.{tree_fold, greater, depth_of, reach_of, entries_depth, entries_reach, tree_depth, tree_reach}
use Rattle.eden_objects.specs.Commits.{Row, rows_of_kind, entry_rows, entries_rows, tree_rows}
use Rattle.eden_git.specs.Commits.{tree_named}
use Rattle.eden_objects.specs.Puts.{type_wanted}
use Rattle.eden_objects.specs.Closed.{IsHeld, HasTree, IsTree, IsSound, IsClosed}
use Rattle.eden_segments.proofs.Distinct.{same_id-is}

id_with : List ℕ → Id
id_with bytes = record { 0 = bytes }

pub same_id-refl : (a : Id) → same_id a a ≡ true
same_id-refl a = (bytes_eq-Decides a.0 a.0).1 refl

-- the object that is found is the one on top, or one of the earlier ones
pub find-here : (id : Id) (top : Held) (earlier : List Held) → same_id id top.id ≡ true → find id (top ∷ earlier) ≡ Some top
find-here id top earlier t = ap (λ b. cond b (Some top) (find id earlier)) t

pub find-there : (id : Id) (top : Held) (earlier : List Held) → same_id id top.id ≡ false → find id (top ∷ earlier) ≡ find id earlier
find-there id top earlier t = ap (λ b. cond b (Some top) (find id earlier)) t

-- an object with another id is found as before
pub find_stays : (id : Id) (top : Held) (earlier : List Held) (h : Held) → find top.id earlier ≡ None → find id earlier ≡ Some h
    → (same_id id top.id ≡ false) × (find id (top ∷ earlier) ≡ Some h)
find_stays id top earlier h new found = elim (cases_Bool (same_id id top.id)) [
  | inl t ↦ let e : find top.id earlier ≡ Some h = ap (λ i. find i earlier) (sym (same_id-is id top.id t)) ∙ found in absurd (cc)
  | inr f ↦ (f, find-there id top earlier f ∙ found)
]

pub held_stays : (top : Held) (earlier : List Held) (object_type : ObjectType) (id : Id) → find top.id earlier ≡ None → IsHeld earlier object_type id → IsHeld (top ∷ earlier) object_type id
held_stays top earlier object_type id new held = (held.0, (find_stays id top earlier held.0 new held.1).1, held.2)

-- what a tree comes to depends on what its directories come to
abbrev pub AgreeOn : {A : Type 0} → (Id → A) → (Id → A) → List Entry → Type 0
AgreeOn f g es = AllByRecursion (λ e. e.kind ≡ None → f e.id ≡ g e.id) es

abbrev pub IsLocal : {A : Type 0} → ((Id → A) → List Entry → A) → Type 0
IsLocal {A} step = (f g : Id → A) (es : List Entry) → AgreeOn f g es → step f es ≡ step g es

same_rows : (name : List ℕ) (kind : Option Kind) (id : Id) (a b : List Row) → (kind ≡ None → a ≡ b) → rows_of_kind name kind id a ≡ rows_of_kind name kind id b
same_rows name None id a b h = ap (rows_of_kind name None id) (h refl)
same_rows name (Some kind) id a b h = refl

pub rows_local : IsLocal entries_rows
rows_local f g [] h = refl
rows_local f g (e ∷ es) h =
    let first : entry_rows f e ≡ entry_rows g e = same_rows e.name e.kind e.id (f e.id) (g e.id) h.0 in
    let rest : entries_rows f es ≡ entries_rows g es = rows_local f g es h.1 in
    λ i. first i ++ rest i

same_depth : (kind : Option Kind) (a b : ℕ) → (kind ≡ None → a ≡ b) → depth_of kind a ≡ depth_of kind b
same_depth None a b h = ap (depth_of None) (h refl)
same_depth (Some kind) a b h = refl

pub depth_local : IsLocal entries_depth
depth_local f g [] h = refl
depth_local f g (e ∷ es) h =
    let first : depth_of e.kind (f e.id) ≡ depth_of e.kind (g e.id) = same_depth e.kind (f e.id) (g e.id) h.0 in
    let rest : entries_depth f es ≡ entries_depth g es = depth_local f g es h.1 in
    λ i. greater (first i) (rest i)

same_reach : (name : List ℕ) (kind : Option Kind) (a b : ℕ) → (kind ≡ None → a ≡ b) → reach_of name kind a ≡ reach_of name kind b
same_reach name None a b h = ap (reach_of name None) (h refl)
same_reach name (Some kind) a b h = refl

pub reach_local : IsLocal entries_reach
reach_local f g [] h = refl
reach_local f g (e ∷ es) h =
    let first : reach_of e.name e.kind (f e.id) ≡ reach_of e.name e.kind (g e.id) = same_reach e.name e.kind (f e.id) (g e.id) h.0 in
    let rest : entries_reach f es ≡ entries_reach g es = reach_local f g es h.1 in
    λ i. greater (first i) (rest i)

module _ {A : Type 0} (none : A) (step : (Id → A) → List Entry → A) where
  pub fold-here : (id : Id) (top : Held) (earlier : List Held) → same_id id top.id ≡ true
      → tree_fold none step (top ∷ earlier) id ≡ step (tree_fold none step earlier) (entries_of top.payload)
  unfolding tree_fold
  fold-here id top earlier t = ap (λ b. cond b (step (tree_fold none step earlier) (entries_of top.payload)) (tree_fold none step earlier id)) t

  pub fold-there : (id : Id) (top : Held) (earlier : List Held) → same_id id top.id ≡ false → tree_fold none step (top ∷ earlier) id ≡ tree_fold none step earlier id
  unfolding tree_fold
  fold-there id top earlier t = ap (λ b. cond b (step (tree_fold none step earlier) (entries_of top.payload)) (tree_fold none step earlier id)) t

  pub fold_stays : (top : Held) (earlier : List Held) → find top.id earlier ≡ None → (es : List Entry) → AllByRecursion (λ e. IsHeld earlier (type_wanted e.kind) e.id) es
      → AgreeOn (tree_fold none step earlier) (tree_fold none step (top ∷ earlier)) es
  fold_stays top earlier new [] all = tt
  fold_stays top earlier new (e ∷ es) all =
      (λ k. sym (fold-there e.id top earlier (find_stays e.id top earlier all.0.0 new all.0.1).0), fold_stays top earlier new es all.1)

all_stay : (top : Held) (earlier : List Held) → find top.id earlier ≡ None → (es : List Entry) → AllByRecursion (λ e. IsHeld earlier (type_wanted e.kind) e.id) es
    → AllByRecursion (λ e. IsHeld (top ∷ earlier) (type_wanted e.kind) e.id) es
all_stay top earlier new [] all = tt
all_stay top earlier new (e ∷ es) all = (held_stays top earlier (type_wanted e.kind) e.id new all.0, all_stay top earlier new es all.1)

pub tree_stays : (top : Held) (earlier : List Held) (es : List Entry) → find top.id earlier ≡ None → IsTree earlier es → IsTree (top ∷ earlier) es
tree_stays top earlier es new is =
    let depth : entries_depth (tree_depth earlier) es ≡ entries_depth (tree_depth (top ∷ earlier)) es = depth_local _ _ es (fold_stays 0 entries_depth top earlier new es is.0) in
    let reach : entries_reach (tree_reach earlier) es ≡ entries_reach (tree_reach (top ∷ earlier)) es = reach_local _ _ es (fold_stays 0 entries_reach top earlier new es is.0) in
    (all_stay top earlier new es is.0, is.1, is.2, subst (λ n. n ≤ 64) depth is.3, subst (λ n. n ≤ 1024) reach is.4, is.5)

pub sound_stays : (top : Held) (earlier : List Held) (object_type : ObjectType) (payload : List ℕ) → find top.id earlier ≡ None → IsSound object_type payload earlier → IsSound object_type payload (top ∷ earlier)
sound_stays top earlier Blob payload new is = tt
sound_stays top earlier Tree payload new is = tree_stays top earlier (entries_of payload) new is
sound_stays top earlier Commit payload new is = (is.0, is.1, held_stays top earlier Tree is.0 new is.2)

-- each object of a closed store is sound in the whole store
pub sound_in : (held : List Held) → IsClosed held → (id : Id) (h : Held) → find id held ≡ Some h → IsSound h.object_type h.payload held
sound_in [] closed id h found = absurd (cc)
sound_in (top ∷ earlier) closed id h found = elim (cases_Bool (same_id id top.id)) [
  | inl t ↦
      let e : Some top ≡ Some h = sym (find-here id top earlier t) ∙ found in
      let same : top ≡ h = cc in
      subst (λ o. IsSound o.object_type o.payload (top ∷ earlier)) same (sound_stays top earlier top.object_type top.payload closed.0 closed.1)
  | inr f ↦ sound_stays top earlier h.object_type h.payload closed.0 (sound_in earlier closed.2 id h (sym (find-there id top earlier f) ∙ found))
]

pub tree_in : (held : List Held) → IsClosed held → (id : Id) (h : Held) → find id held ≡ Some h → h.object_type ≡ Tree → IsTree held (entries_of h.payload)
tree_in held closed id h found object_type = subst (λ w. IsSound w h.payload held) object_type (sound_in held closed id h found)

pub commit_in : (held : List Held) → IsClosed held → (id : Id) (h : Held) → find id held ≡ Some h → h.object_type ≡ Commit
    → (tree : Id) × (tree_named h.payload ≡ Some tree) × HasTree held tree
commit_in held closed id h found object_type = subst (λ w. IsSound w h.payload held) object_type (sound_in held closed id h found)

-- what a tree comes to, by what its entries come to in the whole store
pub fold_of_tree : {A : Type 0} (none : A) (step : (Id → A) → List Entry → A) → IsLocal step → (held : List Held) → IsClosed held → (id : Id) (h : Held) → find id held ≡ Some h → h.object_type ≡ Tree
    → tree_fold none step held id ≡ step (tree_fold none step held) (entries_of h.payload)
fold_of_tree none step local [] closed id h found object_type = absurd (cc)
fold_of_tree none step local (top ∷ earlier) closed id h found object_type = elim (cases_Bool (same_id id top.id)) [
  | inl t ↦
      let e : Some top ≡ Some h = sym (find-here id top earlier t) ∙ found in
      let same : top ≡ h = cc in
      let is : IsTree earlier (entries_of top.payload) = subst (λ w. IsSound w top.payload earlier) (ap (λ o. o.object_type) same ∙ object_type) closed.1 in
      fold-here none step id top earlier t
      ∙ local _ _ (entries_of top.payload) (fold_stays none step top earlier closed.0 (entries_of top.payload) is.0)
      ∙ ap (λ o. step (tree_fold none step (top ∷ earlier)) (entries_of o.payload)) same
  | inr f ↦
      let before : find id earlier ≡ Some h = sym (find-there id top earlier f) ∙ found in
      let is : IsTree earlier (entries_of h.payload) = tree_in earlier closed.2 id h before object_type in
      fold-there none step id top earlier f
      ∙ fold_of_tree none step local earlier closed.2 id h before object_type
      ∙ local _ _ (entries_of h.payload) (fold_stays none step top earlier closed.0 (entries_of h.payload) is.0)
]

pub rows_of_tree : (held : List Held) → IsClosed held → (id : Id) (h : Held) → find id held ≡ Some h → h.object_type ≡ Tree → tree_rows held id ≡ entries_rows (tree_rows held) (entries_of h.payload)
rows_of_tree = fold_of_tree [] entries_rows rows_local

-- neither of two numbers is above the greater one
pub greater_first : (a b : ℕ) → a ≤ greater a b
greater_first a b = elim (cases_Bool (ltb a b)) [ inl t ↦ let lt = ltb-true a b t in rw t (omega arith) | inr f ↦ rw f (omega arith) ]

pub greater_second : (a b : ℕ) → b ≤ greater a b
greater_second a b = elim (cases_Bool (ltb a b)) [ inl t ↦ rw t (omega arith) | inr f ↦ let le = ltb-false a b f in rw f (omega arith) ]

-- a directory's tree is less deep than the tree that has it, and so are the other entries no deeper
pub child_below : (depth : Id → ℕ) (e : Entry) (es : List Entry) → e.kind ≡ None → depth e.id < entries_depth depth (e ∷ es)
child_below depth e es dir =
    let above : depth_of e.kind (depth e.id) ≤ entries_depth depth (e ∷ es) = greater_first _ _ in
    let more : 1 + depth e.id ≤ entries_depth depth (e ∷ es) = subst (λ k. depth_of k (depth e.id) ≤ entries_depth depth (e ∷ es)) dir above in
    omega (arith, more)

pub later_below : (depth : Id → ℕ) (e : Entry) (es : List Entry) → entries_depth depth es ≤ entries_depth depth (e ∷ es)
later_below depth e es = greater_second _ _
