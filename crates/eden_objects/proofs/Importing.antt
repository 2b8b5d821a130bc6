-- What an import leaves: a store that is closed and named, that has all that was there, and whose payloads are within their limit.
use Rattle.std.proofs.Common.{◌≡◌, ◌≢◌, ◌≤◌, ◌∙◌, sym, refl, ap, subst, ℕ, suc, ◌+◌, ◌<◌, add-one, drop-cons, get_or, ◌++◌, append_assoc, Bool, true, false, cond, ◌&&◌, List, [], ◌∷◌, length, nat_lt, Option, Some, None, Ok, Err, drop}
use Rattle.std.proofs.lemmas.Bool.{ltb-false}
use Rattle.std.specs.List.{AllByRecursion}
use Rattle.eden_ids.specs.declared.id.Id.{Id}
use Rattle.eden_ids.specs.Sameness.{same_bytes, same_id}
use Rattle.eden_ids.specs.Texts.{AreBytes}
use Rattle.eden_git.specs.declared.object_type.ObjectType.{ObjectType}
use Rattle.eden_git.specs.declared.object_type.ObjectType.TheVariants.{Blob, Tree, Commit}
use Rattle.eden_git.specs.Trees.{entries_of}
use Rattle.eden_git.specs.ObjectTypes.{same_type}
use Rattle.eden_objects.specs.declared.fault.PutFault.{PutFault}
use Rattle.eden_objects.specs.declared.fault.PutFault.TheVariants as puts
use Rattle.eden_objects.specs.declared.fault.PutFault.TheVariants.{IdTaken, ZeroId, TooDeep, PathTooLong}
use Rattle.eden_objects.specs.declared.import.Object.{Object}
use Rattle.eden_objects.specs.declared.import.ImportFault.TheVariants as imports
use Rattle.eden_objects.specs.Objects.{Held, find, zero_id}
use Rattle.eden_objects.specs.Trees.{entries_depth, entries_reach, tree_depth, tree_reach}
use Rattle.eden_objects.specs.Puts.{Outcome, commit_fault, entries_fault, first_fault, if_so, kept_or_added, named, put_outcome, size_fault, too_large, tree_fault, unless}
use Rattle.eden_objects.specs.Closed.{AllNamed, IsClosed, IsSound, IsTree}
use Rattle.eden_objects.specs.Small.{AreSmall}
use Rattle.eden_objects.specs.Imports.{GrowsOnto, Imported, and_then, import_from, put_of, put_typed}
use Rattle.eden_objects.specs.internal.Placed.{fault_at}
use Rattle.eden_objects.specs.Laws.{HasAll, ImportsKeep, ImportsStaySmall, PutsKeep}
use Rattle.eden_objects.proofs.Closed.{find_stays}
use Rattle.eden_objects.proofs.Judged.{first_none, not_so, tree_sound}
use Rattle.eden_objects.proofs.Refusals.{commit_sound, few_bytes}

-- an outcome that is put is that of no fault

passes : (fault : Option PutFault) (outcome : Outcome) (put : Id × List Held) → unless fault outcome ≡ Ok put
    → (fault ≡ None) × (outcome ≡ Ok put)
passes None outcome put is = (refl, is)
passes (Some fault) outcome put is = cc is

within : (limit size : ℕ) (fault : PutFault) → if_so (nat_lt limit size) fault ≡ None → size ≤ limit
within limit size fault is = ltb-false limit size (not_so (nat_lt limit size) fault is)

sound_tree : (payload : List ℕ) (held : List Held) → tree_fault payload held ≡ None → IsTree held (entries_of payload)
sound_tree payload held is =
    let depth : ℕ = entries_depth (tree_depth held) (entries_of payload) in
    let reach : ℕ = entries_reach (tree_reach held) (entries_of payload) in
    let judged = first_none (entries_fault (length payload) held [] payload) (size_fault depth reach) (first_none (too_large payload) _ is).1 in
    let sizes = first_none (if_so (nat_lt 64 depth) TooDeep) (if_so (nat_lt 1024 reach) PathTooLong) judged.1 in
    tree_sound payload held depth reach judged.0 refl refl (within 64 depth TooDeep sizes.0) (within 1024 reach PathTooLong sizes.1)

-- what is put by its kind's call is sound and small
abbrev IsPut : (List ℕ → List ℕ → Id) → ObjectType → List ℕ → List Held → Id × List Held → Type 0
IsPut name object_type payload held put =
    IsSound object_type payload held × (length payload ≤ 8388608) × (put_outcome (named name object_type payload) held ≡ Ok put)

is_put : (name : List ℕ → List ℕ → Id) (object_type : ObjectType) (payload : List ℕ) (held : List Held) (put : Id × List Held)
    → put_typed name object_type payload held ≡ Ok put → IsPut name object_type payload held put
is_put name Blob payload held put is =
    let passed = passes (too_large payload) (put_outcome (named name Blob payload) held) put is in
    (tt, few_bytes payload None (ap (λ fault. first_fault fault None) passed.0), passed.1)
is_put name Tree payload held put is =
    let passed = passes (tree_fault payload held) (put_outcome (named name Tree payload) held) put is in
    (sound_tree payload held passed.0, few_bytes payload _ passed.0, passed.1)
is_put name Commit payload held put is =
    let passed = passes (commit_fault payload held) (put_outcome (named name Commit payload) held) put is in
    (commit_sound payload held passed.0, few_bytes payload _ passed.0, passed.1)

-- an object that is put is one more, or was there already

by_more : (Holds : List Held → Type 0) (new : Held) (held : List Held) (put : Id × List Held) → put_outcome new held ≡ Ok put
    → Holds held → (find new.id held ≡ None → Holds (new ∷ held)) → Holds put.1
by_more Holds new held put is here more = by_zero (same_id new.id zero_id) is where
  by_same : (t : Bool) → cond t (Ok (new.id, held)) (Err IdTaken) ≡ Ok put → Holds put.1
  by_same true is = let both : (new.id, held) ≡ put = cc in subst Holds (ap (λ p. p.1) both) here
  by_same false is = cc is

  by_found : (found : Option Held) → find new.id held ≡ found → kept_or_added new held found ≡ Ok put → Holds put.1
  by_found None absent is = let both : (new.id, new ∷ held) ≡ put = cc in subst Holds (ap (λ p. p.1) both) (more absent)
  by_found (Some h) there is = by_same (same_type h.object_type new.object_type && same_bytes h.payload new.payload) is

  by_zero : (t : Bool) → cond t (Err ZeroId) (kept_or_added new held (find new.id held)) ≡ Ok put → Holds put.1
  by_zero true is = cc is
  by_zero false is = by_found (find new.id held) refl is

-- a store that is there keeps what it is, with one object more and with all

abbrev Keeps : (List ℕ → List ℕ → Id) → List Held → List Held → Type 0
Keeps name held new = IsClosed new × AllNamed name new × GrowsOnto held new × HasAll held new

keeps_here : (name : List ℕ → List ℕ → Id) (held : List Held) → IsClosed held → AllNamed name held → Keeps name held held
keeps_here name held closed called = (closed, called, ([], refl), λ id h found. found)

keeps_further : (name : List ℕ → List ℕ → Id) (held next new : List Held) → Keeps name held next → Keeps name next new → Keeps name held new
keeps_further name held next new first second = (
  second.0,
  second.1,
  (second.2.0 ++ first.2.0, second.2.1 ∙ ap (λ behind. second.2.0 ++ behind) first.2.1 ∙ sym (append_assoc second.2.0 first.2.0 held)),
  λ id h found. second.3 id h (first.3 id h found),
)

keeps_put : (name : List ℕ → List ℕ → Id) (object_type : ObjectType) (payload : List ℕ) (held : List Held) (put : Id × List Held) → IsClosed held
    → AllNamed name held → IsPut name object_type payload held put → Keeps name held put.1
keeps_put name object_type payload held put closed called is =
    let new : Held = named name object_type payload in
    by_more (Keeps name held) new held put is.2 (keeps_here name held closed called)
    (λ absent. ((absent, is.0, closed), (refl, called), (new ∷ [], refl), λ id h found. (find_stays id new held h absent found).1))

-- the objects are imported one after another
first_put : (place : ℕ) (outcome : Outcome) (others : List Held → Imported) (new : List Held) → and_then place outcome others ≡ Ok new
    → (put : Id × List Held) × (outcome ≡ Ok put) × (others put.1 ≡ Ok new)
first_put place (Err fault) others new is = cc is
first_put place (Ok put) others new is = (put, refl, is)

keeps_all : (name : List ℕ → List ℕ → Id) (place : ℕ) (objects : List Object) (held new : List Held) → IsClosed held → AllNamed name held
    → import_from name place objects held ≡ Ok new → Keeps name held new
keeps_all name place [] held new closed called is =
    let same : held ≡ new = cc in subst (Keeps name held) same (keeps_here name held closed called)
keeps_all name place (object ∷ objects) held new closed called is =
    let first = first_put place (put_of name object held) (import_from name (place + 1) objects) new is in
    let kept : Keeps name held first.0.1 =
    keeps_put name object.object_type object.payload held first.0 closed called (is_put name object.object_type object.payload held first.0 first.1) in
    keeps_further name held first.0.1 new kept (keeps_all name (place + 1) objects first.0.1 new kept.0 kept.1 first.2)

pub puts_keep : PutsKeep
puts_keep name object held new id closed called is =
    keeps_put name object.object_type object.payload held (id, new) closed called (is_put name object.object_type object.payload held (id, new) is)

pub imports_keep : ImportsKeep
imports_keep name objects held new closed called is = keeps_all name 0 objects held new closed called is

small_all : (name : List ℕ → List ℕ → Id) (place : ℕ) (objects : List Object) (held new : List Held) → AreSmall held
    → AllByRecursion (λ object. AreBytes object.payload) objects → import_from name place objects held ≡ Ok new → AreSmall new
small_all name place [] held new small bytes is = let same : held ≡ new = cc in subst AreSmall same small
small_all name place (object ∷ objects) held new small bytes is =
    let first = first_put place (put_of name object held) (import_from name (place + 1) objects) new is in
    let put = is_put name object.object_type object.payload held first.0 first.1 in
    small_all name (place + 1) objects first.0.1 new
    (by_more AreSmall (named name object.object_type object.payload) held first.0 put.2 small (λ absent. (record { few = put.1; bytes = bytes.0 }, small)))
    bytes.1 first.2

pub imports_small : ImportsStaySmall
imports_small name objects held new small bytes is = small_all name 0 objects held new small bytes is

-- the fault of one object is that of the import, unless memory was refused
pub first_refused : (place : ℕ) (fault : PutFault) (outcome : Outcome) (others : List Held → Imported) → (fault ≢ puts.NoMemory → outcome ≡ Err fault)
    → fault_at place fault ≢ imports.NoMemory → and_then place outcome others ≡ Err (fault_at place fault)
first_refused place puts.NoMemory outcome others is other = absurd (other refl)
first_refused place fault outcome others is other = ap (λ o. and_then place o others) (is (λ e. cc e))

-- an object and those after it
pub next_object : (name : List ℕ → List ℕ → Id) (objects : List Object) (place : ℕ) (object : Object) (held : List Held) → place < length objects
    → object ≡ get_or objects place object
    → import_from name place (drop place objects) held ≡ and_then place (put_of name object held) (import_from name (place + 1) (drop (place + 1) objects))
next_object name objects place object held there is =
    let next : drop place objects ≡ object ∷ drop (place + 1) objects =
    rw add-one (drop-cons objects place object there ∙ ap (λ first. first ∷ drop (suc place) objects) (sym is)) in
    ap (λ rest. import_from name place rest held) next
