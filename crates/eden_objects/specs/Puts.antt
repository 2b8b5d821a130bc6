-- The result of each put call, and what the store holds after it. A refusal is the first
-- cause that applies, in the order in which they are listed here.
use Rattle.std.specs.Prelude.{◌≡◌, ℕ, zero, suc, Bool, true, false, not, ◌&&◌, nat_lt, if◌then◌else◌, List, [], ◌∷◌, length, Option, Some, None, Result, Ok, Err}
use Rattle.std.specs.Ordering.{nat_cmp, is_lt}
use Rattle.std.specs.Cmp.Lexicographic.{slice_cmp}
use Rattle.std.specs.List.{list_any}
use Rattle.eden_ids.specs.declared.id.Id.{Id}
use Rattle.eden_ids.specs.declared.content.Kind.{Kind}
use Rattle.eden_git.specs.declared.object_type.ObjectType.{ObjectType}
use Rattle.eden_git.specs.declared.object_type.ObjectType.TheVariants.{Blob, Tree, Commit}
use Rattle.eden_git.specs.declared.fault.EntryFault.{EntryFault}
use Rattle.eden_git.specs.declared.fault.EntryFault.TheVariants as entry
use Rattle.eden_objects.specs.declared.fault.PutFault.{PutFault}
use Rattle.eden_objects.specs.declared.fault.PutFault.TheVariants.{TooLarge, IdTaken, ZeroId, BadMode, BadName, OutOfOrder, Duplicate, MissingChild, WrongChildKind, TooDeep, PathTooLong, CutShort, BadCommit, NoMemory}
use Rattle.eden_objects.specs.Objects.{Held, find, zero_id}
use Rattle.eden_git.specs.ObjectTypes.{same_type, type_text}
use Rattle.eden_ids.specs.Sameness.{same_bytes, same_id}
use Rattle.eden_git.specs.Trees.{Entry, key, read_entry, entries_of}
use Rattle.eden_objects.specs.Trees.{entries_depth, entries_reach, tree_depth, tree_reach}
use Rattle.eden_git.specs.Commits.{tree_named}

abbrev pub Outcome : Type 0
Outcome = Result (Id × List Held) PutFault

-- the first of two causes that applies
abbrev pub first_fault : Option PutFault → Option PutFault → Option PutFault
first_fault None second = second
first_fault (Some fault) second = Some fault

abbrev pub if_so : Bool → PutFault → Option PutFault
if_so true fault = Some fault
if_so false fault = None

abbrev pub too_large : List ℕ → Option PutFault
too_large payload = if_so (nat_lt 8388608 (length payload)) TooLarge

-- an object that is there already is left as it is; another one with its id is refused
abbrev pub kept_or_added : Held → List Held → Option Held → Outcome
kept_or_added new held None = Ok (new.id, new ∷ held)
kept_or_added new held (Some h) =
    if same_type h.object_type new.object_type && same_bytes h.payload new.payload then Ok (new.id, held) else Err IdTaken

abbrev pub put_outcome : Held → List Held → Outcome
put_outcome new held = if same_id new.id zero_id then Err ZeroId else kept_or_added new held (find new.id held)

abbrev pub unless : Option PutFault → Outcome → Outcome
unless (Some fault) outcome = Err fault
unless None outcome = outcome

-- the object with its id
abbrev pub named : (List ℕ → List ℕ → Id) → ObjectType → List ℕ → Held
named name object_type payload = record { id = name (type_text object_type) payload; object_type = object_type; payload = payload }

abbrev pub blob_outcome : (List ℕ → List ℕ → Id) → List ℕ → List Held → Outcome
blob_outcome name payload held = unless (too_large payload) (put_outcome (named name Blob payload) held)

-- the type that an id must refer to: a tree for a directory, a blob for a file
abbrev pub type_wanted : Option Kind → ObjectType
type_wanted None = Tree
type_wanted (Some kind) = Blob

abbrev pub child_fault : ObjectType → Option Held → Option PutFault
child_fault object_type None = Some MissingChild
child_fault object_type (Some h) = if_so (not (same_type h.object_type object_type)) WrongChildKind

-- the key is above that of the entry before, which is the first of the earlier ones
abbrev pub is_above : Entry → List Entry → Bool
is_above e [] = true
is_above e (before ∷ earlier) = is_lt (slice_cmp nat_cmp (key before) (key e))

-- why an entry cannot follow these earlier ones
abbrev pub entry_fault : List Held → List Entry → Entry → Option PutFault
entry_fault held earlier e =
    first_fault (if_so (list_any (λ f. same_bytes f.name e.name) earlier) Duplicate)
    (first_fault (if_so (not (is_above e earlier)) OutOfOrder) (child_fault (type_wanted e.kind) (find e.id held)))

-- an entry that cannot be read is refused for the same cause
abbrev pub unread : EntryFault → PutFault
unread entry.CutShort = CutShort
unread entry.BadMode = BadMode
unread entry.BadName = BadName

-- the fault of the first entry that has one, among the entries in some bytes that follow
-- these earlier ones, newest first
abbrev pub fault_after : List Held → List Entry → (List Entry → List ℕ → Option PutFault) → Result (Entry × List ℕ) EntryFault → Option PutFault
fault_after held earlier more (Err fault) = Some (unread fault)
fault_after held earlier more (Ok read) = first_fault (entry_fault held earlier read.0) (more (read.0 ∷ earlier) read.1)

abbrev pub entries_fault : ℕ → List Held → List Entry → List ℕ → Option PutFault
entries_fault n held earlier [] = None
entries_fault zero held earlier (b ∷ bytes) = None
entries_fault (suc n) held earlier (b ∷ bytes) = fault_after held earlier (entries_fault n held) (read_entry (b ∷ bytes))

-- a tree's depth is at most 64, and its reach at most 1,024
abbrev pub size_fault : ℕ → ℕ → Option PutFault
size_fault depth reach = first_fault (if_so (nat_lt 64 depth) TooDeep) (if_so (nat_lt 1024 reach) PathTooLong)

abbrev pub tree_fault : List ℕ → List Held → Option PutFault
tree_fault payload held =
    first_fault (too_large payload)
    (first_fault (entries_fault (length payload) held [] payload)
    (size_fault (entries_depth (tree_depth held) (entries_of payload)) (entries_reach (tree_reach held) (entries_of payload))))

abbrev pub tree_outcome : (List ℕ → List ℕ → Id) → List ℕ → List Held → Outcome
tree_outcome name payload held = unless (tree_fault payload held) (put_outcome (named name Tree payload) held)

abbrev pub named_fault : List Held → Option Id → Option PutFault
named_fault held None = Some BadCommit
named_fault held (Some tree) = child_fault Tree (find tree held)

abbrev pub commit_fault : List ℕ → List Held → Option PutFault
commit_fault payload held =
    first_fault (too_large payload)
    (first_fault (if_so (nat_lt (length payload) 46) CutShort) (named_fault held (tree_named payload)))

abbrev pub commit_outcome : (List ℕ → List ℕ → Id) → List ℕ → List Held → Outcome
commit_outcome name payload held = unless (commit_fault payload held) (put_outcome (named name Commit payload) held)

-- a put call gave its result; or an allocation failed, and an object would have been
-- added
abbrev pub PutGives : Result Id PutFault → List Held → List Held → Outcome → Type 0
PutGives (Ok id) old new outcome = outcome ≡ Ok (id, new)
PutGives (Err NoMemory) old new outcome = (new ≡ old) × (id : Id) × (more : Held) × (outcome ≡ Ok (id, more ∷ old))
PutGives (Err fault) old new outcome = (new ≡ old) × (outcome ≡ Err fault)

-- the same for a tree, whose check allocates before its result is known
abbrev pub TreeGives : Result Id PutFault → List Held → List Held → List ℕ → Outcome → Type 0
TreeGives (Ok id) old new payload outcome = outcome ≡ Ok (id, new)
TreeGives (Err NoMemory) old new payload outcome = (new ≡ old) × (too_large payload ≡ None)
TreeGives (Err fault) old new payload outcome = (new ≡ old) × (outcome ≡ Err fault)
