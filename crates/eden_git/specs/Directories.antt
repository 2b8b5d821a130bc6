-- The entries of one directory, read one by one and found by name.
use Rattle.std.specs.Prelude.{ℕ, Bool, if◌then◌else◌, List, [], ◌∷◌, Option, Some, None}
use Rattle.std.specs.Borrow.{Bor}
use Rattle.eden_ids.specs.declared.id.Id.{Id}
use Rattle.eden_ids.specs.declared.content.Kind.{Kind}
use Rattle.eden_ids.specs.Sameness.{same_bytes}
use Rattle.eden_git.specs.declared.entry.RawEntry.{RawEntry}
use Rattle.eden_git.specs.Entries.{plain}
use Rattle.eden_git.specs.Trees.{Entry, entries_of}

-- the entries of bytes whose first entry was read
abbrev pub entries_read : Option (RawEntry × Bor (List ℕ)) → List Entry
entries_read None = []
entries_read (Some read) = plain read.0 ∷ entries_of read.1.now

abbrev pub or_later : {A : Type 0} → Option A → Option A → Option A
or_later None later = later
or_later (Some x) later = Some x

abbrev pub file_if : Option Kind → Id → Bool → Option (Kind × Id)
file_if None id same = None
file_if (Some kind) id same = if same then Some (kind, id) else None

-- the first file with a name
abbrev pub file_named : List ℕ → List Entry → Option (Kind × Id)
file_named name [] = None
file_named name (e ∷ es) = or_later (file_if e.kind e.id (same_bytes e.name name)) (file_named name es)

abbrev pub dir_if : Option Kind → Id → Bool → Option Id
dir_if None id same = if same then Some id else None
dir_if (Some kind) id same = None

-- the first directory with a name
abbrev pub dir_named : List ℕ → List Entry → Option Id
dir_named name [] = None
dir_named name (e ∷ es) = or_later (dir_if e.kind e.id (same_bytes e.name name)) (dir_named name es)
