-- File maps, which say what a working copy or a commit holds, and sets of paths. Both are
-- finite and listed in byte order.
use Rattle.std.specs.Prelude.{◌≡◌, ℕ, Bool, true, false, not, ◌&&◌, List, [], ◌∷◌, ◌++◌, map, Option, Some, None, IsSome}
use Rattle.std.specs.Ordering.{nat_cmp, eq_by_cmp}
use Rattle.std.specs.Cmp.Lexicographic.{slice_cmp}
use Rattle.std.specs.List.{list_any}
use Rattle.std.specs.Borrow.{Bor}
use Rattle.std.specs.FinMap as fin
use Rattle.eden_ids.specs.declared.content.Kind.{Kind}
use Rattle.eden_ids.specs.declared.content.Kind.TheVariants.{Plain, Exec, Link}
use Rattle.eden_ids.specs.declared.content.Content.{Content}
use Rattle.eden_ids.specs.Paths.{clashes, lies_below}
use Rattle.eden_ids.specs.Sameness.{same_bytes}

-- which paths hold a file, and which file
abbrev pub FileMap : Type 0
FileMap = fin.FinMap (slice_cmp nat_cmp) Content

abbrev pub no_files : FileMap
no_files = fin.empty

-- the file at a path, or `None` if there is none
abbrev pub file_at : FileMap → List ℕ → Option Content
file_at files path = fin.get files path

-- the file of borrowed bytes
abbrev pub lent : Option (Kind × Bor (List ℕ)) → Option Content
lent None = None
lent (Some seen) = Some (record { kind = seen.0; bytes = seen.1.now })

-- the paths that hold a file, ascending
abbrev pub paths : FileMap → List (List ℕ)
paths files = fin.keys files

-- a directory tree can hold these files: no two of their paths clash
abbrev pub IsFileMap : FileMap → Type 0
IsFileMap files = (p q : List ℕ) → IsSome (file_at files p) → IsSome (file_at files q) → clashes p q ≡ false

-- there is a file at a proper prefix of the path's components
abbrev pub has_file_above : FileMap → List ℕ → Bool
has_file_above files path = list_any (λ top. lies_below path top) (paths files)

-- there are files below the path: it is a directory
abbrev pub has_file_below : FileMap → List ℕ → Bool
has_file_below files path = list_any (λ p. lies_below p path) (paths files)

-- the path clashes with the path of some file
abbrev pub clashes_any : FileMap → List ℕ → Bool
clashes_any files path = list_any (λ q. clashes path q) (paths files)

abbrev pub PathSet : Type 0
PathSet = fin.FinMap (slice_cmp nat_cmp) (Unit {0})

abbrev pub has : PathSet → List ℕ → Bool
has set path = fin.contains_key set path

-- the members, ascending
abbrev pub listing : PathSet → List (List ℕ)
listing set = fin.keys set

abbrev pub no_paths : PathSet
no_paths = fin.empty

-- the set of these paths
abbrev pub path_set : List (List ℕ) → PathSet
path_set ps = fin.from_entries (map (λ p. (p, tt)) ps)

unfoldable pub union : PathSet → PathSet → PathSet
union s t = path_set (listing s ++ listing t)

-- the new set is the old one and some first ones of these paths
abbrev pub AddsSomePaths : List (List ℕ) → PathSet → PathSet → Type 0
AddsSomePaths ps old new = (added : List (List ℕ)) × (left : List (List ℕ)) × (ps ≡ added ++ left) × (new ≡ union (path_set added) old)

abbrev pub same_path : List ℕ → List ℕ → Bool
same_path p q = eq_by_cmp (slice_cmp nat_cmp) p q

abbrev pub same_kind : Kind → Kind → Bool
same_kind Plain Plain = true
same_kind Exec Exec = true
same_kind Link Link = true
same_kind _ _ = false

abbrev pub same_file : Option Content → Option Content → Bool
same_file None None = true
same_file (Some f) (Some g) = same_kind f.kind g.kind && same_bytes f.bytes g.bytes
same_file _ _ = false

-- the paths at which two file maps differ
unfoldable pub differ : FileMap → FileMap → PathSet
differ f g = fin.retain_keys (path_set (paths f ++ paths g)) (λ p. not (same_file (file_at f p) (file_at g p)))

-- the map with this file at one path, or with no file there
abbrev pub put_option : FileMap → List ℕ → Option Content → FileMap
put_option files path None = fin.remove files path
put_option files path (Some file) = fin.insert files path file

-- the map with the file that a rule gives at each of these paths, and no file elsewhere
unfoldable pub tabulate : List (List ℕ) → (List ℕ → Option Content) → FileMap
tabulate [] rule = no_files
tabulate (p ∷ ps) rule = put_option (tabulate ps rule) p (rule p)
