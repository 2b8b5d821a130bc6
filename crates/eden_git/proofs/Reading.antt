-- An entry that was read is at the front of the bytes, so that fewer are left.
use Rattle.std.proofs.Common.{◌≡◌, ◌∙◌, sym, refl, ap, subst, ℕ, ◌+◌, ◌<◌, ◌≤◌, Bool, true, false, cond, not, List, [], ◌∷◌, take, drop, length, Option, Some, None, Result, Ok, Err, nat_eq, nat_lt, IfOk, ◌&&◌, if◌then◌else◌, codes, drop_of_length-le, arith, ◌++◌, append_assoc, length-append}
use Rattle.std.proofs.lemmas.Bool.{ltb-false}
use Rattle.std.proofs.lemmas.List.{length-take-le, take-append-drop}
use Rattle.std.proofs.lemmas.Option.{same_Some}
use Rattle.std.proofs.lemmas.Slice.Eq.{bytes_eq-Decides}
use Rattle.eden_ids.specs.Sameness.{same_bytes}
use Rattle.eden_ids.specs.declared.content.Kind.{Kind}
use Rattle.eden_ids.specs.declared.content.Kind.TheVariants.{Plain, Exec, Link}
use Rattle.eden_git.specs.declared.fault.EntryFault.{EntryFault}
use Rattle.eden_git.specs.declared.fault.EntryFault.TheVariants.{BadName, CutShort}
use Rattle.std.specs.Borrow.{Bor}
use Rattle.eden_git.specs.declared.entry.RawEntry.{RawEntry}
use Rattle.eden_git.specs.Entries.{plain, reading_of}
use Rattle.eden_git.specs.Commits.{tree_named, id_read}
use Rattle.eden_ids.specs.Hex.{id_of_hex}
use Rattle.eden_ids.specs.declared.id.Id.{Id}
use Rattle.std.specs.List.{starts_with}
use Rattle.eden_git.specs.Starts.{breadth, mode_of, written}
use Rattle.eden_git.specs.Trees.{Entry, cut, read_id, read_named, read_kind, read_mode, read_entry, kind_of_mode, is_name}
use Rattle.eden_git.proofs.Slashes.{cut_first}

mode_is : (mode : List ℕ) (kind : Option Kind) → kind_of_mode mode ≡ Some kind → mode ≡ mode_of kind
mode_is mode kind h =
    by (same_bytes mode (codes "40000")) (same_bytes mode (codes "100644")) (same_bytes mode (codes "100755")) (same_bytes mode (codes "120000"))
    (same_text (codes "40000")) (same_text (codes "100644")) (same_text (codes "100755")) (same_text (codes "120000")) h where
      same_text : (text : List ℕ) → same_bytes mode text ≡ true → mode ≡ text
      same_text text = (bytes_eq-Decides mode text).0

      by : (a b c d : Bool) → (a ≡ true → mode ≡ mode_of None) → (b ≡ true → mode ≡ mode_of (Some Plain)) → (c ≡ true → mode ≡ mode_of (Some Exec))
          → (d ≡ true → mode ≡ mode_of (Some Link)) → (if a then Some None else if b then Some (Some Plain) else if c then Some (Some Exec) else
          if d then Some (Some Link) else None) ≡ Some kind → mode ≡ mode_of kind
      by true b c d first second third fourth is = first refl ∙ ap mode_of (same_Some None kind is)
      by false true c d first second third fourth is = second refl ∙ ap mode_of (same_Some (Some Plain) kind is)
      by false false true d first second third fourth is = third refl ∙ ap mode_of (same_Some (Some Exec) kind is)
      by false false false true first second third fourth is = fourth refl ∙ ap mode_of (same_Some (Some Link) kind is)
      by false false false false first second third fourth is = cc is

-- an entry that was read is before what is left, and its id is whole

abbrev pub IsRead : List ℕ → Entry × List ℕ → Type 0
IsRead bytes read = (bytes ≡ written read.0 ++ read.1) × (length read.0.id.0 ≡ 20)

read_or : Result (Entry × List ℕ) EntryFault → Entry × List ℕ → Entry × List ℕ
read_or (Ok read) other = read
read_or (Err fault) other = other

written_id : (kind : Option Kind) (name rest : List ℕ) (r : Entry × List ℕ) → read_id kind name rest ≡ Ok r → IsRead (mode_of kind ++ 32 ∷ (name ++ 0 ∷ rest)) r
unfolding read_or
written_id kind name rest r h = by (not (is_name name)) (nat_lt (length rest) 20) (ltb-false (length rest) 20) h where
  first : Entry × List ℕ
  first = (record { name = name; kind = kind; id = record { 0 = take 20 rest } }, drop 20 rest)

  by : (bad short : Bool) → (short ≡ false → 20 ≤ length rest) → cond bad (Err BadName) (cond short (Err CutShort) (Ok first)) ≡ Ok r
      → IsRead (mode_of kind ++ 32 ∷ (name ++ 0 ∷ rest)) r
  by true short long is = cc is
  by false true long is = cc is
  by false false long is =
      let same : first ≡ r = ap (λ read. read_or read r) is in
      let enough : 20 ≤ length rest = long refl in
      subst (IsRead (mode_of kind ++ 32 ∷ (name ++ 0 ∷ rest))) same (
        ap (λ bytes. mode_of kind ++ 32 ∷ (name ++ 0 ∷ bytes)) (sym (take-append-drop 20 rest))
            ∙ ap (λ bytes. mode_of kind ++ 32 ∷ bytes) (sym (append_assoc name (0 ∷ take 20 rest) (drop 20 rest)))
            ∙ sym (append_assoc (mode_of kind) (32 ∷ (name ++ 0 ∷ take 20 rest)) (drop 20 rest)),
        length-take-le 20 rest enough,
      )

written_named : (kind : Option Kind) (bytes : List ℕ) (r : Entry × List ℕ) (parts : Option (List ℕ × List ℕ)) → cut 0 bytes ≡ parts
    → read_named kind parts ≡ Ok r → IsRead (mode_of kind ++ 32 ∷ bytes) r
written_named kind bytes r None is h = cc h
written_named kind bytes r (Some parts) is h =
    let whole : bytes ≡ parts.0 ++ 0 ∷ parts.1 = (cut_first 0 bytes parts.0 parts.1 is).0 in
    subst (λ named. IsRead (mode_of kind ++ 32 ∷ named) r) (sym whole) (written_id kind parts.0 parts.1 r h)

written_kind : (mode rest : List ℕ) (r : Entry × List ℕ) (kind : Option (Option Kind)) → kind_of_mode mode ≡ kind → read_kind kind rest ≡ Ok r
    → IsRead (mode ++ 32 ∷ rest) r
written_kind mode rest r None is h = cc h
written_kind mode rest r (Some kind) is h =
    subst (λ digits. IsRead (digits ++ 32 ∷ rest) r) (sym (mode_is mode kind is)) (written_named kind rest r (cut 0 rest) refl h)

written_mode : (bytes : List ℕ) (r : Entry × List ℕ) (parts : Option (List ℕ × List ℕ)) → cut 32 bytes ≡ parts
    → read_mode parts ≡ Ok r → IsRead bytes r
written_mode bytes r None is h = cc h
written_mode bytes r (Some parts) is h =
    let whole : bytes ≡ parts.0 ++ 32 ∷ parts.1 = (cut_first 32 bytes parts.0 parts.1 is).0 in
    subst (λ all. IsRead all r) (sym whole) (written_kind parts.0 parts.1 r (kind_of_mode parts.0) refl h)

pub is_read : (bytes : List ℕ) (r : Entry × List ℕ) → read_entry bytes ≡ Ok r → IsRead bytes r
is_read bytes r h = written_mode bytes r (cut 32 bytes) refl h

-- and it takes its breadth

pub length-written : (e : Entry) → length e.id.0 ≡ 20 → length (written e) ≡ breadth e
length-written e long =
    let name = length-append e.name (0 ∷ e.id.0) in
    let all = length-append (mode_of e.kind) (32 ∷ (e.name ++ 0 ∷ e.id.0)) in
    omega (arith, name, all, long)

pub read_breadth : (bytes : List ℕ) (r : Entry × List ℕ) → read_entry bytes ≡ Ok r → length bytes ≡ breadth r.0 + length r.1
read_breadth bytes r h =
    let is = is_read bytes r h in
    ap length is.0 ∙ length-append (written r.0) r.1 ∙ ap (λ n. n + length r.1) (length-written r.0 is.1)

pub read_shorter : (bytes : List ℕ) (r : Entry × List ℕ) → read_entry bytes ≡ Ok r → length r.1 < length bytes
read_shorter bytes r h =
    let whole = read_breadth bytes r h in
    omega (arith, whole)

-- the name of an entry that was read is a name

entry_or : Result (Entry × List ℕ) EntryFault → List ℕ → List ℕ
entry_or (Ok read) other = read.0.name
entry_or (Err fault) other = other

name_id : (kind : Option Kind) (name rest : List ℕ) (r : Entry × List ℕ) → read_id kind name rest ≡ Ok r → is_name r.0.name ≡ true
unfolding entry_or
name_id kind name rest r h = by (is_name name) refl (nat_lt (length rest) 20) h where
  by : (good : Bool) → is_name name ≡ good → (short : Bool) → cond (not good) (Err BadName) (cond short (Err CutShort)
      (Ok (record { name = name; kind = kind; id = record { 0 = take 20 rest } }, drop 20 rest))) ≡ Ok r → is_name r.0.name ≡ true
  by true good false is = ap is_name (ap (λ read. entry_or read []) (sym is)) ∙ good
  by true good true is = cc is
  by false good short is = cc is

name_named : (kind : Option Kind) (parts : Option (List ℕ × List ℕ)) (r : Entry × List ℕ) → read_named kind parts ≡ Ok r → is_name r.0.name ≡ true
name_named kind None r h = cc h
name_named kind (Some parts) r h = name_id kind parts.0 parts.1 r h

name_kind : (kind : Option (Option Kind)) (rest : List ℕ) (r : Entry × List ℕ) → read_kind kind rest ≡ Ok r → is_name r.0.name ≡ true
name_kind None rest r h = cc h
name_kind (Some kind) rest r h = name_named kind (cut 0 rest) r h

name_mode : (parts : Option (List ℕ × List ℕ)) (r : Entry × List ℕ) → read_mode parts ≡ Ok r → is_name r.0.name ≡ true
name_mode None r h = cc h
name_mode (Some parts) r h = name_kind (kind_of_mode parts.0) parts.1 r h

pub name_read : (bytes : List ℕ) (r : Entry × List ℕ) → read_entry bytes ≡ Ok r → is_name r.0.name ≡ true
name_read bytes r h = name_mode (cut 32 bytes) r h

pub is_shorter : (bytes : List ℕ) (r : Result (RawEntry × Bor (List ℕ)) EntryFault) → reading_of r ≡ read_entry bytes
    → IfOk r (λ read. length read.1.now < length bytes)
is_shorter bytes (Err fault) h = tt
is_shorter bytes (Ok read) h = read_shorter bytes (plain read.0, read.1.now) (sym h)

no_line_feed : (t : Bool) (digits : Option Id) → (if t && false then digits else None) ≡ None
no_line_feed true digits = refl
no_line_feed false digits = refl

pub no_tree_in : (payload : List ℕ) → length payload < 46 → None ≡ tree_named payload
no_tree_in payload short =
    let few : length payload ≤ 45 = omega (arith, short) in
    let nothing : drop 45 payload ≡ [] = drop_of_length-le payload few in
    sym (ap (λ bytes. if starts_with nat_eq payload (codes "tree ") && starts_with nat_eq bytes (codes "\n")
    then id_read (id_of_hex (take 40 (drop 5 payload))) else None) nothing
    ∙ no_line_feed (starts_with nat_eq payload (codes "tree ")) (id_read (id_of_hex (take 40 (drop 5 payload)))))
