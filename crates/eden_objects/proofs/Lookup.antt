-- A path is looked up by its first name among a directory's entries, and by what follows in the directory of that name.
use Rattle.std.proofs.Common.{◌≡◌, ℕ, ◌++◌, Bool, true, false, cond, ◌&&◌, List, [], ◌∷◌, map, Option, Some, None, refl, sym, ap, ◌∙◌}
use Rattle.std.proofs.lemmas.Slice.Eq.{bytes_eq-Decides}
use Rattle.std.specs.Cmp.Lexicographic.{nat_list_eq_equiv}
use Rattle.std.specs.List.{AllByRecursion}
use Rattle.eden_ids.specs.declared.id.Id.{Id}
use Rattle.eden_ids.specs.declared.content.Kind.{Kind}
use Rattle.eden_ids.specs.Sameness.{same_bytes}
use Rattle.eden_git.specs.Trees.{Entry, cut, is_name}
use Rattle.eden_objects.specs.Commits.{Row, under, rows_of_kind, entry_rows, entries_rows, find_row}
use Rattle.eden_objects.specs.Closed.{NamesDiffer}
use Rattle.eden_git.specs.Directories.{or_later, file_if, file_named, dir_if, dir_named}
use Rattle.eden_objects.specs.Walks.{then_find}
use Rattle.eden_git.proofs.Slashes.{has_slash, name_has_none, cut_none, cut_some, not_under, not_slashed, same_under}

abbrev pub AllNames : List Entry → Type 0
AllNames es = AllByRecursion (λ e. is_name e.name ≡ true) es

some_or : (t : Bool) (v : Kind × Id) (later : Option (Kind × Id)) → cond t (Some v) later ≡ or_later (cond t (Some v) None) later
some_or true v later = refl
some_or false v later = refl

or_assoc : (t : Bool) (v : Kind × Id) (a b : Option (Kind × Id)) → cond t (Some v) (or_later a b) ≡ or_later (cond t (Some v) a) b
or_assoc true v a b = refl
or_assoc false v a b = refl

or_none : (a : Option (Kind × Id)) → or_later a None ≡ a
or_none None = refl
or_none (Some v) = refl

pub find_row-append : (p : List ℕ) (xs ys : List Row) → find_row p (xs ++ ys) ≡ or_later (find_row p xs) (find_row p ys)
find_row-append p [] ys = refl
find_row-append p (row ∷ xs) ys =
    ap (cond (same_bytes row.0 p) (Some (row.1, row.2))) (find_row-append p xs ys) ∙ or_assoc (same_bytes row.0 p) (row.1, row.2) (find_row p xs) (find_row p ys)

-- no path without a slash is under a name
find_under_none : (name p : List ℕ) (rows : List Row) → has_slash p ≡ false → find_row p (map (under name) rows) ≡ None
find_under_none name p [] free = refl
find_under_none name p (row ∷ rows) free =
    ap (λ b. cond b (Some (row.1, row.2)) (find_row p (map (under name) rows))) (not_under name p row.0 free) ∙ find_under_none name p rows free

file_entry : (rows : List Row) (name p : List ℕ) (kind : Option Kind) (id : Id) → has_slash p ≡ false → find_row p (rows_of_kind name kind id rows) ≡ file_if kind id (same_bytes name p)
file_entry rows name p None id free = find_under_none name p rows free
file_entry rows name p (Some kind) id free = refl

pub look_file : (rows : Id → List Row) (p : List ℕ) (es : List Entry) → cut 47 p ≡ None → find_row p (entries_rows rows es) ≡ file_named p es
look_file rows p [] none = refl
look_file rows p (e ∷ es) none =
    let free : has_slash p ≡ false = cut_none p none in
    find_row-append p (entry_rows rows e) (entries_rows rows es)
    ∙ (let first = file_entry (rows e.id) e.name p e.kind e.id free in let rest = look_file rows p es none in λ i. or_later (first i) (rest i))

same_cond : {A : Type 0} (t : Bool) (x y z : A) → x ≡ y → cond t x z ≡ cond t y z
same_cond t x y z e = ap (λ v. cond t v z) e

under_here : (t : Bool) (s : Bool) (v : Kind × Id) (a : Option (Kind × Id)) → cond (t && s) (Some v) (cond t a None) ≡ cond t (cond s (Some v) a) None
under_here true s v a = refl
under_here false s v a = refl

none_both : (t : Bool) → ◌≡◌ {A = Option (Kind × Id)} None (cond t None None)
none_both true = refl
none_both false = refl

find_under : (name c r : List ℕ) (rows : List Row) → has_slash name ≡ false → has_slash c ≡ false → find_row (c ++ 47 ∷ r) (map (under name) rows) ≡ cond (same_bytes name c) (find_row r rows) None
find_under name c r [] free none = none_both (same_bytes name c)
find_under name c r (row ∷ rows) free none =
    let more = find_under name c r rows free none in
    let here = same_under name c row.0 r free none in
    (λ i. cond (here i) (Some (row.1, row.2)) (more i)) ∙ under_here (same_bytes name c) (same_bytes row.0 r) (row.1, row.2) (find_row r rows)

dir_entry : (rows : Id → List Row) (name c r : List ℕ) (kind : Option Kind) (id : Id) → has_slash name ≡ false → has_slash c ≡ false
    → find_row (c ++ 47 ∷ r) (rows_of_kind name kind id (rows id)) ≡ then_find rows r (dir_if kind id (same_bytes name c))
dir_entry rows name c r None id free none = find_under name c r (rows id) free none ∙ at_cond (same_bytes name c)
  where
    at_cond : (t : Bool) → cond t (find_row r (rows id)) None ≡ then_find rows r (cond t (Some id) None)
    at_cond true = refl
    at_cond false = refl
dir_entry rows name c r (Some kind) id free none = ap (λ b. cond b (Some (kind, id)) None) (not_slashed name c r free)

pub turn : (a b : List ℕ) → same_bytes a b ≡ same_bytes b a
turn = nat_list_eq_equiv.symm

if_not : (rows : Id → List Row) (r : List ℕ) (kind : Option Kind) (id : Id) (t : Bool) → t ≡ false → then_find rows r (dir_if kind id t) ≡ None
if_not rows r None id t f = ap (λ b. then_find rows r (cond b (Some id) None)) f
if_not rows r (Some kind) id t f = refl

-- where no entry has the name, there is no path with it
no_dir : (rows : Id → List Row) (c r : List ℕ) (es : List Entry) → has_slash c ≡ false → AllNames es → AllByRecursion (λ f. same_bytes c f.name ≡ false) es → find_row (c ++ 47 ∷ r) (entries_rows rows es) ≡ None
no_dir rows c r [] none names apart = refl
no_dir rows c r (e ∷ es) none names apart =
    let first : find_row (c ++ 47 ∷ r) (entry_rows rows e) ≡ None =
    dir_entry rows e.name c r e.kind e.id (name_has_none e.name names.0) none ∙ if_not rows r e.kind e.id (same_bytes e.name c) (turn e.name c ∙ apart.0) in
    let rest = no_dir rows c r es none names.1 apart.1 in
    find_row-append (c ++ 47 ∷ r) (entry_rows rows e) (entries_rows rows es) ∙ (λ i. or_later (first i) (rest i))

found_dir : (rows : Id → List Row) (r : List ℕ) (kind : Option Kind) (id : Id) (t : Bool) (rest : Option (Kind × Id)) (later : Option Id)
    → rest ≡ then_find rows r later → (t ≡ true → rest ≡ None) → or_later (then_find rows r (dir_if kind id t)) rest ≡ then_find rows r (or_later (dir_if kind id t) later)
found_dir rows r None id true rest later e none = ap (or_later (find_row r (rows id))) (none refl) ∙ or_none (find_row r (rows id))
found_dir rows r None id false rest later e none = e
found_dir rows r (Some kind) id t rest later e none = e

pub apart_from : (a b : List ℕ) (es : List Entry) → a ≡ b → AllByRecursion (λ f. same_bytes a f.name ≡ false) es → AllByRecursion (λ f. same_bytes b f.name ≡ false) es
apart_from a b [] e all = tt
apart_from a b (f ∷ es) e all = (ap (λ n. same_bytes n f.name) (sym e) ∙ all.0, apart_from a b es e all.1)

pub look_under : (rows : Id → List Row) (c r : List ℕ) (es : List Entry) → has_slash c ≡ false → AllNames es → NamesDiffer es → find_row (c ++ 47 ∷ r) (entries_rows rows es) ≡ then_find rows r (dir_named c es)
look_under rows c r [] none names differ = refl
look_under rows c r (e ∷ es) none names differ =
    let first = dir_entry rows e.name c r e.kind e.id (name_has_none e.name names.0) none in
    find_row-append (c ++ 47 ∷ r) (entry_rows rows e) (entries_rows rows es)
    ∙ ap (λ a. or_later a (find_row (c ++ 47 ∷ r) (entries_rows rows es))) first
    ∙ found_dir rows r e.kind e.id (same_bytes e.name c) _ (dir_named c es) (look_under rows c r es none names.1 differ.1)
    (λ t. no_dir rows c r es none names.1 (apart_from e.name c es ((bytes_eq-Decides e.name c).0 t) differ.0))

pub look_dir : (rows : Id → List Row) (p c r : List ℕ) (es : List Entry) → cut 47 p ≡ Some (c, r) → AllNames es → NamesDiffer es → find_row p (entries_rows rows es) ≡ then_find rows r (dir_named c es)
look_dir rows p c r es some names differ =
    let is = cut_some p c r some in
    ap (λ q. find_row q (entries_rows rows es)) is.0 ∙ look_under rows c r es is.1 names differ
