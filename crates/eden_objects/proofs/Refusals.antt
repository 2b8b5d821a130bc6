-- Refusals of a put call, and what is known if there is none.
use Rattle.std.proofs.Common.{◌≡◌, ◌≢◌, ◌≤◌, ◌∙◌, sym, refl, ap, ℕ, Bool, true, false, not, List, length, Option, Some, None, Err, nat_lt}
use Rattle.std.proofs.lemmas.Bool.{ltb-false}
use Rattle.eden_ids.specs.declared.id.Id.{Id}
use Rattle.eden_objects.specs.declared.fault.PutFault.{PutFault}
use Rattle.eden_objects.specs.declared.fault.PutFault.TheVariants.{TooLarge, OutOfOrder, Duplicate, WrongChildKind, CutShort, NoMemory}
use Rattle.eden_git.specs.declared.object_type.ObjectType.{ObjectType}
use Rattle.eden_git.specs.declared.object_type.ObjectType.TheVariants.{Blob, Tree, Commit}
use Rattle.std.specs.List.{list_any}
use Rattle.eden_objects.specs.Objects.{Held, find}
use Rattle.eden_git.specs.ObjectTypes.{same_type}
use Rattle.eden_ids.specs.Sameness.{same_bytes}
use Rattle.eden_git.specs.Trees.{Entry}
use Rattle.eden_git.specs.Commits.{tree_named}
use Rattle.eden_objects.specs.Puts.{PutGives, first_fault, if_so, child_fault, named_fault, commit_fault, commit_outcome, entry_fault, is_above, type_wanted}
use Rattle.eden_objects.specs.Closed.{IsHeld, IsSound}

-- every fault but out of memory is reported as the outcome
pub refused : (fault : PutFault) (held : List Held) → fault ≢ NoMemory → PutGives (Err fault) held held (Err fault)
refused NoMemory held other = absurd (other refl)
refused fault held other = (refl, refl)

pub same_type-is : (a b : ObjectType) → same_type a b ≡ true → a ≡ b
same_type-is Blob Blob h = refl
same_type-is Tree Tree h = refl
same_type-is Commit Commit h = refl
same_type-is a b h = cc h

-- an id that may be named is that of an object of the kind
pub child_held : (held : List Held) (object_type : ObjectType) (id : Id) → child_fault object_type (find id held) ≡ None → IsHeld held object_type id
child_held held object_type id h = by (find id held) refl h where
  by_type : (x : Held) → (t : Bool) → same_type x.object_type object_type ≡ t → if_so (not t) WrongChildKind ≡ None → x.object_type ≡ object_type
  by_type x true is h = same_type-is x.object_type object_type is
  by_type x false is h = cc h

  by : (found : Option Held) → find id held ≡ found → child_fault object_type found ≡ None → IsHeld held object_type id
  by None is h = cc h
  by (Some x) is h = (x, is, by_type x (same_type x.object_type object_type) refl h)

child_not_memory : (object_type : ObjectType) (found : Option Held) → child_fault object_type found ≢ Some NoMemory
child_not_memory object_type None h = cc h
child_not_memory object_type (Some x) h = by (same_type x.object_type object_type) h where
  by : (t : Bool) → if_so (not t) WrongChildKind ≢ Some NoMemory
  by true h = cc h
  by false h = cc h

named_not_memory : (held : List Held) (tree : Option Id) → named_fault held tree ≢ Some NoMemory
named_not_memory held None h = cc h
named_not_memory held (Some tree) h = child_not_memory Tree (find tree held) h

if_so_first : (t : Bool) (fault : PutFault) (more : Option PutFault) → first_fault (if_so t fault) more ≡ None → more ≡ None
if_so_first true fault more h = cc h
if_so_first false fault more h = h

if_so_not_memory : (t : Bool) (fault : PutFault) (more : Option PutFault) → fault ≢ NoMemory → more ≢ Some NoMemory
    → first_fault (if_so t fault) more ≢ Some NoMemory
if_so_not_memory true fault more other rest h = other (some_is fault h) where
  some_is : (fault : PutFault) → Some fault ≡ Some NoMemory → fault ≡ NoMemory
  some_is fault h = cc h
if_so_not_memory false fault more other rest h = rest h

pub commit_not_memory : (payload : List ℕ) (held : List Held) → commit_fault payload held ≢ Some NoMemory
commit_not_memory payload held =
    if_so_not_memory (nat_lt 8388608 (length payload)) TooLarge _ (λ e. cc e)
    (if_so_not_memory (nat_lt (length payload) 46) CutShort _ (λ e. cc e) (named_not_memory held (tree_named payload)))

pub commit_refused : (name : List ℕ → List ℕ → Id) (payload : List ℕ) (held : List Held) (fault : PutFault)
    → commit_fault payload held ≡ Some fault → PutGives (Err fault) held held (commit_outcome name payload held)
commit_refused name payload held fault is =
    rw is (refused fault held (λ memory. commit_not_memory payload held (is ∙ ap Some memory)))

named_held : (held : List Held) (tree : Option Id) → named_fault held tree ≡ None → (id : Id) × (tree ≡ Some id) × IsHeld held Tree id
named_held held None h = cc h
named_held held (Some id) h = (id, refl, child_held held Tree id h)

pub commit_sound : (payload : List ℕ) (held : List Held) → commit_fault payload held ≡ None → IsSound Commit payload held
commit_sound payload held h =
    named_held held (tree_named payload)
    (if_so_first (nat_lt (length payload) 46) CutShort _ (if_so_first (nat_lt 8388608 (length payload)) TooLarge _ h))

-- a payload that isn't refused is within the limit
pub few_bytes : (payload : List ℕ) (more : Option PutFault) → first_fault (if_so (nat_lt 8388608 (length payload)) TooLarge) more ≡ None → length payload ≤ 8388608
few_bytes payload more h = ltb-false 8388608 (length payload) (by (nat_lt 8388608 (length payload)) h) where
  by : (t : Bool) → first_fault (if_so t TooLarge) more ≡ None → t ≡ false
  by true h = cc h
  by false h = refl

-- an entry that may follow names an object of its kind
pub entry_held : (held : List Held) (earlier : List Entry) (e : Entry) → None ≡ entry_fault held earlier e
    → IsHeld held (type_wanted e.kind) e.id
entry_held held earlier e h =
    child_held held (type_wanted e.kind) e.id
    (if_so_first (not (is_above e earlier)) OutOfOrder _
    (if_so_first (list_any (λ f. same_bytes f.name e.name) earlier) Duplicate _ (sym h)))
