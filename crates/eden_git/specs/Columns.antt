-- The entries of a tree as columns, in their order: the place where each begins (and where the last
-- one ends), its id, its kind as a byte, and its name. Byte 47 is the slash, which no name has.
use Rattle.std.specs.Prelude.{◌≡◌, ℕ, List, [], ◌∷◌, ◌++◌, map, Option, Some, None}
use Rattle.std.specs.List.{flat_map}
use Rattle.eden_ids.specs.declared.id.Id.{Id}
use Rattle.eden_ids.specs.declared.content.Kind.{Kind}
use Rattle.eden_ids.specs.declared.content.Kind.TheVariants.{Plain, Exec, Link}
use Rattle.eden_git.specs.declared.columns.Columns.{Columns}
use Rattle.eden_git.specs.Trees.{Entry, entries_of}
use Rattle.eden_git.specs.Starts.{places}

abbrev pub ids_of : List Entry → List Id
ids_of es = map (λ e. e.id) es

-- a kind as a byte: 0 for a directory
abbrev pub kind_byte : Option Kind → ℕ
kind_byte None = 0
kind_byte (Some Plain) = 1
kind_byte (Some Exec) = 2
kind_byte (Some Link) = 3

abbrev pub kinds_of : List Entry → List ℕ
kinds_of es = map (λ e. kind_byte e.kind) es

abbrev pub names_of : List Entry → List (List ℕ)
names_of es = map (λ e. e.name) es

-- the names in one text, each followed by a slash
abbrev pub text_of : List Entry → List ℕ
text_of es = flat_map (λ e. e.name ++ 47 ∷ []) es

-- these are the columns of entries
abbrev pub AreColumnsOf : List Entry → Columns → Type 0
AreColumnsOf es columns = (columns.starts.items ≡ places 0 es)
    × (columns.ids ≡ ids_of es)
    × (columns.kinds.items ≡ kinds_of es)
    × (columns.names.items ≡ text_of es)

-- these are the columns of a payload's entries
abbrev pub AreColumns : List ℕ → Columns → Type 0
AreColumns payload columns = AreColumnsOf (entries_of payload) columns
