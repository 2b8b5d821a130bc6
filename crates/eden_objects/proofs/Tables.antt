-- The table of a store, read from its newest entry, against what a look-up in it finds.
use Rattle.std.proofs.Common.{◌≡◌, ◌∙◌, sym, refl, ap, ℕ, Bool, true, false, cond, List, [], ◌∷◌, Option, Some, None, length}
use Rattle.std.specs.Map.{lookup}
use Rattle.eden_ids.specs.declared.id.Id.{Id}
use Rattle.eden_objects.specs.declared.stored.Body.{Body}
use Rattle.eden_objects.specs.declared.stored.Body.TheVariants.{Blob, Tree, Commit}
use Rattle.eden_objects.specs.declared.stored.Stored.{Stored}
use Rattle.eden_segments.proofs.Distinct.{same_id-is}
use Rattle.eden_objects.specs.Objects.{Held, find}
use Rattle.eden_git.specs.ObjectTypes.{type_text}
use Rattle.eden_ids.specs.Sameness.{same_id}
use Rattle.eden_objects.specs.Commits.{entries_rows}
use Rattle.eden_objects.specs.Counts.{capped}
use Rattle.eden_git.specs.Trees.{Entry, entries_of}
use Rattle.eden_objects.specs.Trees.{tree_fold, entries_depth, entries_reach}
use Rattle.eden_objects.specs.Closed.{IsClosed, IsSound, AllNamed}
use Rattle.eden_objects.specs.Small.{AreSmall, IsSmall}
use Rattle.eden_objects.specs.Contents.{held_of, helds, type_of}
use Rattle.eden_objects.specs.internal.Kept.{option_held, IfTree, Measures, AreMeasured, OutlineFits, TellsKept, TellsTree}

-- what is found in the table is found among the objects
pub find_in_table : (table : List (Id × Stored)) (id : Id) → option_held id (lookup (same_id id) table) ≡ find id (helds table)
find_in_table [] id = refl
find_in_table (e ∷ table) id = by (same_id id e.0) refl (find_in_table table id) where
  by : (t : Bool) → same_id id e.0 ≡ t → option_held id (lookup (same_id id) table) ≡ find id (helds table)
      → option_held id (cond t (Some e.1) (lookup (same_id id) table)) ≡ cond t (Some (held_of e.0 e.1)) (find id (helds table))
  by true is rest = ap (λ i. Some (held_of i e.1)) (same_id-is id e.0 is)
  by false is rest = rest

none_held : (id : Id) (object : Option Stored) → option_held id object ≡ None → object ≡ None
none_held id None h = refl
none_held id (Some object) h = cc h

pub absent_in_table : (table : List (Id × Stored)) (id : Id) → find id (helds table) ≡ None → lookup (same_id id) table ≡ None
absent_in_table table id absent = none_held id (lookup (same_id id) table) (find_in_table table id ∙ absent)

-- the sizes that are kept are those of the trees

fold_here : {A : Type 0} (none : A) (step : (Id → A) → List Entry → A) (h : Held) (earlier : List Held) (id : Id) → same_id id h.id ≡ true
    → tree_fold none step (h ∷ earlier) id ≡ step (tree_fold none step earlier) (entries_of h.payload)
unfolding tree_fold
fold_here none step h earlier id is = rw is refl

fold_past : {A : Type 0} (none : A) (step : (Id → A) → List Entry → A) (h : Held) (earlier : List Held) (id : Id) → same_id id h.id ≡ false
    → tree_fold none step (h ∷ earlier) id ≡ tree_fold none step earlier id
unfolding tree_fold
fold_past none step h earlier id is = rw is refl

tree_further : (h : Held) (earlier : List Held) (id : Id) (body : Body) → same_id id h.id ≡ false
    → IfTree body (TellsTree earlier id) → IfTree body (TellsTree (h ∷ earlier) id)
tree_further h earlier id Blob past tells = tt
tree_further h earlier id (Commit tree) past tells = tt
tree_further h earlier id (Tree outline) past tells = (
  tells.0 ∙ sym (fold_past 0 entries_depth h earlier id past),
  tells.1 ∙ sym (fold_past 0 entries_reach h earlier id past),
  tells.2,
  tells.3,
  tells.4 ∙ sym (ap (λ rows. capped (length rows)) (fold_past [] entries_rows h earlier id past)),
)

kept_further : (h : Held) (earlier : List Held) (id : Id) (object : Option Stored) → same_id id h.id ≡ false
    → TellsKept earlier id object → TellsKept (h ∷ earlier) id object
kept_further h earlier id None past tells = tells
kept_further h earlier id (Some object) past tells = (tells.0, tree_further h earlier id object.body past tells.1)

tree_here : (key : Id) (payload : List ℕ) (body : Body) (earlier : List Held) (id : Id) → same_id id key ≡ true → IsSound (type_of body) payload earlier
    → IfTree body (OutlineFits earlier payload) → IfTree body (TellsTree (record { id = key; object_type = type_of body; payload = payload } ∷ earlier) id)
tree_here key payload Blob earlier id is sound fits = tt
tree_here key payload (Commit tree) earlier id is sound fits = tt
tree_here key payload (Tree outline) earlier id is sound fits =
    let h : Held = record { id = key; object_type = type_of (Tree outline); payload = payload } in (
      fits.0.0 ∙ sym (fold_here 0 entries_depth h earlier id is),
      fits.0.1 ∙ sym (fold_here 0 entries_reach h earlier id is),
      rw fits.0.0 sound.3,
      rw fits.0.1 sound.4,
      fits.1 ∙ sym (ap (λ rows. capped (length rows)) (fold_here [] entries_rows h earlier id is)),
    )

pub kept_in_table : (table : List (Id × Stored)) (id : Id) → IsClosed (helds table) → AreMeasured table
    → TellsKept (helds table) id (lookup (same_id id) table)
kept_in_table [] id closed measured = tt
kept_in_table (e ∷ table) id closed measured = by (same_id id e.0) refl (kept_in_table table id closed.2 measured.1) where
  h : Held
  h = held_of e.0 e.1

  by : (t : Bool) → same_id id e.0 ≡ t → TellsKept (helds table) id (lookup (same_id id) table)
      → TellsKept (h ∷ helds table) id (cond t (Some e.1) (lookup (same_id id) table))
  by true is rest = (measured.0.0, tree_here e.0 e.1.payload e.1.body (helds table) id is closed.1 measured.0.1)
  by false is rest = kept_further h (helds table) id (lookup (same_id id) table) is rest

-- what every store keeps, it keeps with a sound object more

abbrev pub IsKept : (List ℕ → List ℕ → Id) → List (Id × Stored) → Type 0
IsKept name table = IsClosed (helds table) × AllNamed name (helds table) × AreMeasured table × AreSmall (helds table)

pub kept : (name : List ℕ → List ℕ → Id) (table : List (Id × Stored)) (id : Id) (object : Stored) → IsKept name table
    → find id (helds table) ≡ None → IsSound (type_of object.body) object.payload (helds table) → name (type_text (type_of object.body)) object.payload ≡ id
    → Measures (helds table) object → IsSmall (held_of id object) → IsKept name ((id, object) ∷ table)
kept name table id object old fresh sound called measured small = ((fresh, sound, old.0), (called, old.1), (measured, old.2), (small, old.3))
