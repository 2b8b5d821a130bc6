-- What commits hold are paths and files within the limits, since the payloads of a store are.
use Rattle.std.proofs.Common.{◌≡◌, ℕ, zero, suc, ◌<◌, ◌≤◌, ◌++◌, inl, inr, cond, List, [], ◌∷◌, map, length, Option, Some, None, Result, Ok, Err, refl, sym, ap, subst, ◌∙◌, arith}
use Rattle.std.proofs.lemmas.Bool.{cases_Bool}
use Rattle.std.proofs.lemmas.Option.{same_Some}
use Rattle.std.specs.List.{AllByRecursion}
use Rattle.eden_ids.specs.declared.id.Id.{Id}
use Rattle.eden_ids.specs.declared.content.Kind.{Kind}
use Rattle.eden_ids.specs.declared.content.Content.{Content}
use Rattle.eden_ids.specs.FileMaps.{FileMap, file_at}
use Rattle.eden_ids.specs.Paths.{path_fault}
use Rattle.eden_ids.specs.Sameness.{same_bytes, same_id}
use Rattle.eden_ids.specs.Texts.{AreBytes, AreTexts, IsContentText, IsPathText}
use Rattle.eden_ids.proofs.Members.{all_joined, all_parts}
use Rattle.eden_ids.proofs.FileMapLemmas.{bytes_same}
use Rattle.eden_git.specs.declared.fault.EntryFault.{EntryFault}
use Rattle.eden_git.specs.Starts.{mode_of, written}
use Rattle.eden_git.specs.Trees.{Entry, entries, entries_after, entries_of, read_entry}
use Rattle.eden_git.proofs.Reading.{is_read}
use Rattle.eden_objects.specs.Objects.{Held, find, payload_of}
use Rattle.eden_objects.specs.Trees.{tree_fold}
use Rattle.eden_objects.specs.Commits.{Row, commit_map, commit_rows, content_of, entries_rows, entry_rows, find_row, map_of_rows, rows_of_kind, tree_rows, under}
use Rattle.eden_objects.specs.Closed.{IsClosed}
use Rattle.eden_objects.specs.Files.{IsTreeIn, files_at}
use Rattle.eden_objects.specs.Laws.{CommitsHoldTexts}
use Rattle.eden_objects.specs.Small.{AreSmall}
use Rattle.eden_objects.specs.Walks.{content_found}
use Rattle.eden_objects.proofs.Closed.{find-here, find-there, fold-here, fold-there}
use Rattle.eden_objects.proofs.Fitting.{fitting_law}
use Rattle.eden_objects.proofs.Maps.{file_at-map_of}
use Rattle.eden_objects.proofs.CommitLaws.{on_rows, rows_files, rows_legal}

-- ---- the names of a tree's entries

abbrev IsByte : ℕ → Type 0
IsByte b = b < 256

abbrev AreNamed : List Entry → Type 0
AreNamed es = AllByRecursion (λ e. AreBytes e.name) es

-- an entry that was read is before what is left
read_bytes : (bytes : List ℕ) (read : Entry × List ℕ) → read_entry bytes ≡ Ok read → AreBytes bytes → AreBytes read.0.name × AreBytes read.1
read_bytes bytes read is all =
    let whole : AreBytes (written read.0 ++ read.1) = subst AreBytes (is_read bytes read is).0 all in
    let parts = all_parts IsByte (written read.0) read.1 whole in
    let behind_mode = all_parts IsByte (mode_of read.0.kind) (32 ∷ (read.0.name ++ 0 ∷ read.0.id.0)) parts.0 in
    ((all_parts IsByte read.0.name (0 ∷ read.0.id.0) behind_mode.1.1).0, parts.1)

named_after : (n : ℕ) (bytes : List ℕ) (r : Result (Entry × List ℕ) EntryFault) → read_entry bytes ≡ r → AreBytes bytes
    → ((rest : List ℕ) → AreBytes rest → AreNamed (entries n rest)) → AreNamed (entries_after (entries n) r)
named_after n bytes (Err fault) is all more = tt
named_after n bytes (Ok read) is all more = let parts = read_bytes bytes read is all in (parts.0, more read.1 parts.1)

all_named : (n : ℕ) (bytes : List ℕ) → AreBytes bytes → AreNamed (entries n bytes)
all_named zero bytes all = tt
all_named (suc n) bytes all = named_after n bytes (read_entry bytes) refl all (all_named n)

-- ---- the paths of a tree's rows

abbrev ArePathBytes : List Row → Type 0
ArePathBytes rows = AllByRecursion (λ row. AreBytes row.0) rows

rows_under : (name : List ℕ) (rows : List Row) → AreBytes name → ArePathBytes rows → ArePathBytes (map (under name) rows)
rows_under name [] named all = tt
rows_under name (row ∷ rows) named all =
    let slash : 47 < 256 = omega arith in
    (all_joined IsByte name (47 ∷ row.0) named (slash, all.0), rows_under name rows named all.1)

rows_by_kind : (name : List ℕ) (kind : Option Kind) (id : Id) (below : List Row) → AreBytes name → ArePathBytes below → ArePathBytes (rows_of_kind name kind id below)
rows_by_kind name None id below named all = rows_under name below named all
rows_by_kind name (Some kind) id below named all = (named, tt)

rows_of_entries : (rows : Id → List Row) (es : List Entry) → ((id : Id) → ArePathBytes (rows id)) → AreNamed es → ArePathBytes (entries_rows rows es)
rows_of_entries rows [] dirs named = tt
rows_of_entries rows (e ∷ es) dirs named =
    all_joined (λ (row : Row). AreBytes row.0) (entry_rows rows e) (entries_rows rows es)
    (rows_by_kind e.name e.kind e.id (rows e.id) named.0 (dirs e.id)) (rows_of_entries rows es dirs named.1)

no_rows : (id : Id) → ArePathBytes (tree_rows [] id)
unfolding tree_fold
no_rows id = tt

rows_tree : (held : List Held) → AreSmall held → (id : Id) → ArePathBytes (tree_rows held id)
rows_tree [] small id = no_rows id
rows_tree (top ∷ earlier) small id = elim (cases_Bool (same_id id top.id)) [
  | inl t ↦ subst ArePathBytes (sym (fold-here [] entries_rows id top earlier t))
      (rows_of_entries (tree_rows earlier) (entries_of top.payload) (rows_tree earlier small.1) (all_named (length top.payload) top.payload small.0.bytes))
  | inr f ↦ subst ArePathBytes (sym (fold-there [] entries_rows id top earlier f)) (rows_tree earlier small.1 id)
]

-- ---- the files of a commit

-- an object's payload, or none
pub found_small : (held : List Held) → AreSmall held → (id : Id) → (length (payload_of (find id held)) ≤ 8388608) × AreBytes (payload_of (find id held))
found_small [] small id = (omega arith, tt)
found_small (top ∷ earlier) small id = elim (cases_Bool (same_id id top.id)) [
  | inl t ↦ subst (λ o. (length (payload_of o) ≤ 8388608) × AreBytes (payload_of o)) (sym (find-here id top earlier t)) (small.0.few, small.0.bytes)
  | inr f ↦ subst (λ o. (length (payload_of o) ≤ 8388608) × AreBytes (payload_of o)) (sym (find-there id top earlier f)) (found_small earlier small.1 id)
]

content_text : (held : List Held) → AreSmall held → (row : Row) → IsContentText (content_of held row)
content_text held small row = let found = found_small held small row.2 in record { few = found.0; bytes = found.1 }

map_texts : (held : List Held) (rows : List Row) → AreSmall held → AllByRecursion (λ row. path_fault row.0 ≡ None) rows → ArePathBytes rows
    → (path : List ℕ) (file : Content) → content_found held (find_row path rows) ≡ Some file → IsPathText path × IsContentText file
map_texts held [] small legal all path file is = absurd (cc)
map_texts held (row ∷ rows) small legal all path file is = elim (cases_Bool (same_bytes row.0 path)) [
  | inl t ↦
      let here : find_row path (row ∷ rows) ≡ Some (row.1, row.2) = ap (λ b. cond b (Some (row.1, row.2)) (find_row path rows)) t in
      let same : content_of held row ≡ file = same_Some (content_of held row) file (sym (ap (content_found held) here) ∙ is) in
      let text : IsPathText row.0 = record { path = legal.0; bytes = all.0 } in
      (subst IsPathText (bytes_same row.0 path t) text, subst IsContentText same (content_text held small row))
  | inr f ↦
      let later : find_row path (row ∷ rows) ≡ find_row path rows = ap (λ b. cond b (Some (row.1, row.2)) (find_row path rows)) f in
      map_texts held rows small legal.1 all.1 path file (sym (ap (content_found held) later) ∙ is)
]

by_rows : (held : List Held) → IsClosed held → AreSmall held → (commit : Id) (o : Option (List Row)) (files : FileMap) → commit_rows held commit ≡ o → map_of_rows held o ≡ Some files
    → commit_map held commit ≡ Some files → (path : List ℕ) (file : Content) → file_at files path ≡ Some file → IsPathText path × IsContentText file
by_rows held closed small commit None files is none map path file at = absurd (let bad : ◌≡◌ {A = Option FileMap} None (Some files) = none in cc)
by_rows held closed small commit (Some rows) files is some map path file at =
    map_texts held rows small (rows_legal held closed commit rows is) (on_rows ArePathBytes held closed tt (λ tree has. rows_tree held small tree) commit rows is)
    path file (sym (rows_files held commit rows files is map path) ∙ at)

pub commits_texts : CommitsHoldTexts
commits_texts held closed small commit files map = by_rows held closed small commit (commit_rows held commit) files refl map map

-- the files of a tree of the store, or of none
pub texts_at : (held : List Held) (at : Option Id) (files : FileMap) → IsClosed held → AreSmall held → IsTreeIn held at → files_at held at ≡ files → AreTexts files
texts_at held at files closed small has view = subst AreTexts view (by at has)
  where
    by : (at : Option Id) → IsTreeIn held at → AreTexts (files_at held at)
    by None has path file is = map_texts held [] small tt tt path file (sym (file_at-map_of held [] path) ∙ is)
    by (Some tree) has path file is =
        map_texts held (tree_rows held tree) small (fitting_law held closed tree has) (rows_tree held small tree) path file (sym (file_at-map_of held (tree_rows held tree) path) ∙ is)
