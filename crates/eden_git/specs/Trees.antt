-- Git's tree format, as `git cat-file tree` prints it and decode_tree_entry of Git's tree-walk.c
-- reads it. A tree's payload is its entries, one after another: a mode in octal digits, a space, a
-- name, NUL, and the twenty bytes of an id. Byte 32 is the space, 0 is NUL and 47 is the slash.
use Rattle.std.specs.Prelude.{ℕ, zero, suc, Bool, not, ◌&&◌, nat_eq, nat_lt, if◌then◌else◌, List, [], ◌∷◌, ◌++◌, length, take, drop, codes, Option, Some, None, Result, Ok, Err}
use Rattle.std.specs.List.{list_any}
use Rattle.eden_ids.specs.declared.id.Id.{Id}
use Rattle.eden_ids.specs.declared.content.Kind.{Kind}
use Rattle.eden_ids.specs.declared.content.Kind.TheVariants.{Plain, Exec, Link}
use Rattle.eden_ids.specs.Paths.{is_component}
use Rattle.eden_ids.specs.Sameness.{same_bytes}
use Rattle.eden_git.specs.declared.fault.EntryFault.{EntryFault}
use Rattle.eden_git.specs.declared.fault.EntryFault.TheVariants.{CutShort, BadMode, BadName}

-- an entry: a file of some kind, or a directory
pub record Entry : Type 0 where
  pub name : List ℕ
  pub kind : Option Kind
  pub id : Id

-- the bytes before the first byte b, and those after it
abbrev pub before_more : ℕ → Option (List ℕ × List ℕ) → Option (List ℕ × List ℕ)
before_more x None = None
before_more x (Some parts) = Some (x ∷ parts.0, parts.1)

abbrev pub cut : ℕ → List ℕ → Option (List ℕ × List ℕ)
cut b [] = None
cut b (x ∷ rest) = if nat_eq x b then Some ([], rest) else before_more x (cut b rest)

-- what a mode says: a directory, or the kind of a file (`git help fast-import` lists the modes; a
-- commit of another repository, 160000, is refused here)
abbrev pub kind_of_mode : List ℕ → Option (Option Kind)
kind_of_mode mode =
    if same_bytes mode (codes "40000") then Some None else
    if same_bytes mode (codes "100644") then Some (Some Plain) else
    if same_bytes mode (codes "100755") then Some (Some Exec) else
    if same_bytes mode (codes "120000") then Some (Some Link) else None

-- a component of a path, without a slash
abbrev pub is_name : List ℕ → Bool
is_name name = is_component name && not (list_any (λ b. nat_eq b 47) name)

-- the first entry and the bytes after it, or why there is none
abbrev pub read_id : Option Kind → List ℕ → List ℕ → Result (Entry × List ℕ) EntryFault
read_id kind name rest =
    if not (is_name name) then Err BadName else
    if nat_lt (length rest) 20 then Err CutShort else
    Ok (record { name = name; kind = kind; id = record { 0 = take 20 rest } }, drop 20 rest)

abbrev pub read_named : Option Kind → Option (List ℕ × List ℕ) → Result (Entry × List ℕ) EntryFault
read_named kind None = Err CutShort
read_named kind (Some parts) = read_id kind parts.0 parts.1

abbrev pub read_kind : Option (Option Kind) → List ℕ → Result (Entry × List ℕ) EntryFault
read_kind None rest = Err BadMode
read_kind (Some kind) rest = read_named kind (cut 0 rest)

abbrev pub read_mode : Option (List ℕ × List ℕ) → Result (Entry × List ℕ) EntryFault
read_mode None = Err CutShort
read_mode (Some parts) = read_kind (kind_of_mode parts.0) parts.1

abbrev pub read_entry : List ℕ → Result (Entry × List ℕ) EntryFault
read_entry bytes = read_mode (cut 32 bytes)

-- the entries at the beginning of some bytes, at most n
abbrev pub entries_after : (List ℕ → List Entry) → Result (Entry × List ℕ) EntryFault → List Entry
entries_after more (Err fault) = []
entries_after more (Ok read) = read.0 ∷ more read.1

abbrev pub entries : ℕ → List ℕ → List Entry
entries zero bytes = []
entries (suc n) bytes = entries_after (entries n) (read_entry bytes)

-- the entries of a payload; each has at least one byte, so there are at most as many as bytes
abbrev pub entries_of : List ℕ → List Entry
entries_of payload = entries (length payload) payload

-- entries are in the order of their keys: a directory is compared as if a slash followed its name
-- (base_name_compare of Git)
abbrev pub key_of : List ℕ → Option Kind → List ℕ
key_of name None = name ++ 47 ∷ []
key_of name (Some kind) = name

abbrev pub key : Entry → List ℕ
key e = key_of e.name e.kind
