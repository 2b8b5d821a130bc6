-- A tree without a fault is one that a store may hold.
use Rattle.std.proofs.Common.{◌≡◌, sym, refl, ℕ, zero, suc, ◌≤◌, Bool, true, false, not, List, [], ◌∷◌, map, length, Option, Some, None, Result, Ok, Err, Less, arith}
use Rattle.std.proofs.lemmas.Bool.{or_parts, not-false}
use Rattle.std.specs.Ordering.{nat_cmp}
use Rattle.std.specs.Cmp.Lexicographic.{slice_cmp, nat_list_cmp_total}
use Rattle.std.specs.List.{AllByRecursion, list_any}
use Rattle.std.specs.List.Sorted.{IsStrictlySortedBy}
use Rattle.eden_objects.specs.declared.fault.PutFault.{PutFault}
use Rattle.eden_git.specs.declared.fault.EntryFault.{EntryFault}
use Rattle.eden_objects.specs.declared.fault.PutFault.TheVariants.{Duplicate, OutOfOrder}
use Rattle.eden_objects.specs.Objects.{Held}
use Rattle.eden_ids.specs.Sameness.{same_bytes}
use Rattle.eden_git.specs.Trees.{Entry, read_entry, is_name, key, entries, entries_after, entries_of}
use Rattle.eden_objects.specs.Trees.{entries_depth, entries_reach, tree_depth, tree_reach}
use Rattle.eden_objects.specs.Puts.{entries_fault, entry_fault, fault_after, first_fault, if_so, is_above, type_wanted}
use Rattle.eden_objects.specs.Closed.{IsHeld, IsTree, NamesDiffer}
use Rattle.eden_objects.proofs.Refusals.{entry_held}
use Rattle.eden_git.proofs.Reading.{name_read, read_shorter}
use Rattle.eden_ids.proofs.ByteOrder.{is_less}

-- what an entry without a fault has beside its object

pub first_none : (first second : Option PutFault) → first_fault first second ≡ None → (first ≡ None) × (second ≡ None)
first_none None second h = (refl, h)
first_none (Some fault) second h = cc h

pub not_so : (t : Bool) (fault : PutFault) → if_so t fault ≡ None → t ≡ false
not_so true fault h = cc h
not_so false fault h = refl

new_name : (held : List Held) (earlier : List Entry) (e : Entry) → entry_fault held earlier e ≡ None
    → list_any (λ f. same_bytes f.name e.name) earlier ≡ false
new_name held earlier e h =
    not_so (list_any (λ f. same_bytes f.name e.name) earlier) Duplicate
    (first_none (if_so (list_any (λ f. same_bytes f.name e.name) earlier) Duplicate) _ h).0

above : (held : List Held) (earlier : List Entry) (e : Entry) → entry_fault held earlier e ≡ None → is_above e earlier ≡ true
above held earlier e h =
    let rest = (first_none (if_so (list_any (λ f. same_bytes f.name e.name) earlier) Duplicate) _ h).1 in
    not-false (is_above e earlier) (not_so (not (is_above e earlier)) OutOfOrder (first_none (if_so (not (is_above e earlier)) OutOfOrder) _ rest).0)

-- the keys are above that of the last of the earlier entries
abbrev AreAbove : List Entry → List Entry → Type 0
AreAbove [] es = Unit {0}
AreAbove (before ∷ earlier) es = AllByRecursion (λ k. slice_cmp nat_cmp (key before) k ≡ Less) (map key es)

abbrev NewNames : List Entry → List Entry → Type 0
NewNames earlier es = AllByRecursion (λ e. list_any (λ f. same_bytes f.name e.name) earlier ≡ false) es

abbrev Sound : List Held → List Entry → List Entry → Type 0
Sound held earlier es = AllByRecursion (λ e. IsHeld held (type_wanted e.kind) e.id) es
    × IsStrictlySortedBy (slice_cmp nat_cmp) (map key es)
    × AllByRecursion (λ e. is_name e.name ≡ true) es
    × NamesDiffer es × AreAbove earlier es × NewNames earlier es

-- what holds of the entries after an entry that passed holds of it and them

older : (e f : Entry) (earlier : List Entry) → list_any (λ g. same_bytes g.name f.name) (e ∷ earlier) ≡ false
    → (same_bytes e.name f.name ≡ false) × (list_any (λ g. same_bytes g.name f.name) earlier ≡ false)
older e f earlier h = or_parts (same_bytes e.name f.name) (list_any (λ g. same_bytes g.name f.name) earlier) h

names_apart : (e : Entry) (earlier es : List Entry) → NewNames (e ∷ earlier) es
    → AllByRecursion (λ f. same_bytes e.name f.name ≡ false) es × NewNames earlier es
names_apart e earlier [] h = (tt, tt)
names_apart e earlier (f ∷ es) h =
    let parts = older e f earlier h.0 in
    let rest = names_apart e earlier es h.1 in
    ((parts.0, rest.0), (parts.1, rest.1))

further : (before e : Entry) (es : List Entry) → slice_cmp nat_cmp (key before) (key e) ≡ Less
    → AllByRecursion (λ k. slice_cmp nat_cmp (key e) k ≡ Less) (map key es)
    → AllByRecursion (λ k. slice_cmp nat_cmp (key before) k ≡ Less) (map key es)
further before e [] less all = tt
further before e (f ∷ es) less all = (nat_list_cmp_total.trans (key before) (key e) (key f) less all.0, further before e es less all.1)

all_above : (earlier : List Entry) (e : Entry) (es : List Entry) → is_above e earlier ≡ true
    → AllByRecursion (λ k. slice_cmp nat_cmp (key e) k ≡ Less) (map key es) → AreAbove earlier (e ∷ es)
all_above [] e es h all = tt
all_above (before ∷ earlier) e es h all =
    let less = is_less (slice_cmp nat_cmp (key before) (key e)) h in
    (less, further before e es less all)

sound_more : (held : List Held) (earlier : List Entry) (e : Entry) (es : List Entry) → entry_fault held earlier e ≡ None
    → is_name e.name ≡ true → Sound held (e ∷ earlier) es → Sound held earlier (e ∷ es)
unfolding IsStrictlySortedBy
sound_more held earlier e es passes name rest =
    let names = names_apart e earlier es rest.5 in (
      (entry_held held earlier e (sym passes), rest.0),
      (rest.4, rest.1),
      (name, rest.2),
      (names.0, rest.3),
      all_above earlier e es (above held earlier e passes) rest.4,
      (new_name held earlier e passes, names.1),
    )

nothing_sound : (held : List Held) (earlier : List Entry) → Sound held earlier []
unfolding IsStrictlySortedBy
nothing_sound held [] = (tt, tt, tt, tt, tt, tt)
nothing_sound held (e ∷ earlier) = (tt, tt, tt, tt, tt, tt)

judged : (n : ℕ) (held : List Held) (earlier : List Entry) (bytes : List ℕ) → length bytes ≤ n → entries_fault n held earlier bytes ≡ None
    → Sound held earlier (entries n bytes)
judged zero held earlier bytes fits h = nothing_sound held earlier
judged (suc n) held earlier [] fits h = nothing_sound held earlier
judged (suc n) held earlier (b ∷ bytes) fits h = by (read_entry (b ∷ bytes)) refl h (λ e rest. judged n held (e ∷ earlier) rest) where
  by : (r : Result (Entry × List ℕ) EntryFault) → read_entry (b ∷ bytes) ≡ r → fault_after held earlier (entries_fault n held) r ≡ None
      → ((e : Entry) (rest : List ℕ) → length rest ≤ n → entries_fault n held (e ∷ earlier) rest ≡ None → Sound held (e ∷ earlier) (entries n rest))
      → Sound held earlier (entries_after (entries n) r)
  by (Err fault) is h more = cc h
  by (Ok read) is h more =
      let parts = first_none (entry_fault held earlier read.0) (entries_fault n held (read.0 ∷ earlier) read.1) h in
      let shorter = read_shorter (b ∷ bytes) read is in
      sound_more held earlier read.0 (entries n read.1) parts.0 (name_read (b ∷ bytes) read is)
      (more read.0 read.1 (omega (arith, fits, shorter)) parts.1)

pub tree_sound : (payload : List ℕ) (held : List Held) (depth reach : ℕ) → entries_fault (length payload) held [] payload ≡ None
    → depth ≡ entries_depth (tree_depth held) (entries_of payload) → reach ≡ entries_reach (tree_reach held) (entries_of payload)
    → depth ≤ 64 → reach ≤ 1024 → IsTree held (entries_of payload)
tree_sound payload held depth reach passes deep long small short =
    let sound = judged (length payload) held [] payload (omega arith) passes in
    (sound.0, sound.1, sound.2, rw (← deep) small, rw (← long) short, sound.3)
