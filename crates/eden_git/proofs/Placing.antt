-- An entry of a payload is between two places that are kept.
use Rattle.std.proofs.Common.{◌≡◌, ◌∙◌, sym, refl, ap, subst, ℕ, zero, suc, ◌+◌, ◌-◌, ◌<◌, ◌≤◌, List, [], ◌∷◌, ◌++◌, take, drop, length, Some, None, Result, Ok, Err, arith, append_assoc, length-append}
use Rattle.std.proofs.Math.Seq.{drop-append_seam, take-append_seam}
use Rattle.std.proofs.lemmas.List.{length-map}
use Rattle.std.proofs.lemmas.Option.{get_or_from_slice_get, same_Some, slice_get_past, slice_get_within}
use Rattle.std.specs.List.{slice_get, slice_index_or}
use Rattle.eden_git.specs.declared.fault.EntryFault.{EntryFault}
use Rattle.eden_git.specs.Columns.{kind_byte, kinds_of}
use Rattle.eden_git.specs.Starts.{breadth, mode_of, places, written}
use Rattle.eden_git.specs.Trees.{Entry, entries, entries_after, entries_of, read_entry}
use Rattle.eden_git.proofs.Reading.{is_read, length-written}

-- the bytes of an entry are from the place at a row to the next one
abbrev pub Stands : List ℕ → List ℕ → ℕ → Entry → Type 0
Stands payload starts row e = (front : List ℕ) × (behind : List ℕ) × (payload ≡ front ++ (written e ++ behind)) × (slice_get starts row ≡ Some (length front))
    × (slice_get starts (suc row) ≡ Some (length front + breadth e)) × (length e.id.0 ≡ 20)

first_place : (start : ℕ) (es : List Entry) → slice_get (places start es) zero ≡ Some start
first_place start [] = refl
first_place start (e ∷ es) = refl

stands_here : (payload front bytes : List ℕ) (read : Entry × List ℕ) (es : List Entry) (e : Entry) → payload ≡ front ++ bytes → read_entry bytes ≡ Ok read → read.0 ≡ e
    → Stands payload (places (length front) (read.0 ∷ es)) zero e
stands_here payload front bytes read es e parts is same =
    let whole = is_read bytes read is in
    subst (Stands payload (places (length front) (read.0 ∷ es)) zero) same
    (front, read.1, parts ∙ ap (λ bytes. front ++ bytes) whole.0, refl, first_place (length front + breadth read.0) es, whole.1)

stands_after : (n : ℕ) (payload front bytes : List ℕ) (row : ℕ) (e : Entry) (r : Result (Entry × List ℕ) EntryFault) → read_entry bytes ≡ r → payload ≡ front ++ bytes
    → slice_get (entries_after (entries n) r) row ≡ Some e
    → ((front rest : List ℕ) (row : ℕ) → payload ≡ front ++ rest → slice_get (entries n rest) row ≡ Some e → Stands payload (places (length front) (entries n rest)) row e)
    → Stands payload (places (length front) (entries_after (entries n) r)) row e
stands_after n payload front bytes row e (Err fault) is parts at more = cc at
stands_after n payload front bytes zero e (Ok read) is parts at more = stands_here payload front bytes read (entries n read.1) e parts is (same_Some read.0 e at)
stands_after n payload front bytes (suc row) e (Ok read) is parts at more =
    let whole = is_read bytes read is in
    let next : length (front ++ written read.0) ≡ length front + breadth read.0 =
    length-append front (written read.0) ∙ ap (λ n. length front + n) (length-written read.0 whole.1) in
    let later = more (front ++ written read.0) read.1 row (parts ∙ ap (λ bytes. front ++ bytes) whole.0 ∙ sym (append_assoc front (written read.0) read.1)) at in
    subst (λ start. Stands payload (places start (entries n read.1)) row e) next later

stands_in : (n : ℕ) (payload front bytes : List ℕ) (row : ℕ) (e : Entry) → payload ≡ front ++ bytes → slice_get (entries n bytes) row ≡ Some e
    → Stands payload (places (length front) (entries n bytes)) row e
stands_in zero payload front bytes row e parts at = cc at
stands_in (suc n) payload front bytes row e parts at =
    stands_after n payload front bytes row e (read_entry bytes) refl parts at (λ front rest row parts at. stands_in n payload front rest row e parts at)

pub stands : (payload starts : List ℕ) (row : ℕ) (e : Entry) → starts ≡ places 0 (entries_of payload) → slice_get (entries_of payload) row ≡ Some e → Stands payload starts row e
stands payload starts row e are at =
    subst (λ starts. Stands payload starts row e) (sym are) (stands_in (length payload) payload [] payload row e refl at)

entry_there : (es : List Entry) (row : ℕ) → row < length (kinds_of es) → (e : Entry) × (slice_get es row ≡ Some e) × (slice_get (kinds_of es) row ≡ Some (kind_byte e.kind))
entry_there [] row low = absurd (omega (arith, low))
entry_there (e ∷ es) zero low = (e, refl, refl)
entry_there (e ∷ es) (suc row) low = entry_there es row (omega (arith, low))

-- what a row has: its entry, and the bytes of it
abbrev pub Has : List ℕ → ℕ → ℕ → ℕ → ℕ → Type 0
Has payload row kind start end = (e : Entry) × (slice_get (entries_of payload) row ≡ Some e) × (kind ≡ kind_byte e.kind) × (start + breadth e ≡ end) × (end ≤ length payload)
    × (take (end - start) (drop start payload) ≡ written e) × (length e.id.0 ≡ 20)

bytes_here : (payload front behind : List ℕ) (e : Entry) → payload ≡ front ++ (written e ++ behind) → length e.id.0 ≡ 20
    → (length front + breadth e ≤ length payload) × (take (length front + breadth e - length front) (drop (length front) payload) ≡ written e)
bytes_here payload front behind e parts long =
    let is = length-written e long in
    let whole : length payload ≡ length front + length (written e ++ behind) = ap length parts ∙ length-append front (written e ++ behind) in
    let some : length (written e ++ behind) ≡ length (written e) + length behind = length-append (written e) behind in
    let count : length front + breadth e - length front ≡ length (written e) = omega (arith, is) in (
      omega (arith, is, whole, some),
      ap (λ n. take n (drop (length front) payload)) count ∙ ap (λ bytes. take (length (written e)) (drop (length front) bytes)) parts
          ∙ ap (take (length (written e))) (drop-append_seam front (written e ++ behind)) ∙ take-append_seam (written e) behind,
    )

pub row_has : (payload starts kinds : List ℕ) (row : ℕ) → starts ≡ places 0 (entries_of payload) → kinds ≡ kinds_of (entries_of payload) → row < length kinds
    → (row + 1 < length starts) × Has payload row (slice_index_or kinds row 0) (slice_index_or starts row 0) (slice_index_or starts (row + 1) 0)
row_has payload starts kinds row are is low =
    let there = entry_there (entries_of payload) row (subst (λ kinds. row < length kinds) is low) in
    let e : Entry = there.0 in
    let at = stands payload starts row e are there.1 in
    let here = bytes_here payload at.0 at.1 e at.2 at.5 in
    let next : row + 1 ≡ suc row = omega arith in
    let kind : slice_index_or kinds row 0 ≡ kind_byte e.kind = get_or_from_slice_get kinds row (kind_byte e.kind) 0 (ap (λ kinds. slice_get kinds row) is ∙ there.2) in
    let start : slice_index_or starts row 0 ≡ length at.0 = get_or_from_slice_get starts row (length at.0) 0 at.3 in
    let end : slice_index_or starts (row + 1) 0 ≡ length at.0 + breadth e = ap (λ n. slice_index_or starts n 0) next ∙ get_or_from_slice_get starts (suc row) (length at.0 + breadth e) 0 at.4 in
    let within = slice_get_within starts (suc row) (length at.0 + breadth e) at.4 in (
      omega (arith, within),
      (
        e,
        there.1,
        kind,
        ap (λ n. n + breadth e) start ∙ sym end,
        subst (λ n. n ≤ length payload) (sym end) here.0,
        ap (λ n. take (n - slice_index_or starts row 0) (drop (slice_index_or starts row 0) payload)) end
            ∙ ap (λ n. take (length at.0 + breadth e - n) (drop n payload)) start ∙ here.1,
        at.5,
      ),
    )

pub no_row : (payload kinds : List ℕ) (row : ℕ) → kinds ≡ kinds_of (entries_of payload) → length kinds ≤ row → None ≡ slice_get (entries_of payload) row
no_row payload kinds row is past =
    let count : length kinds ≡ length (entries_of payload) = ap length is ∙ length-map (entries_of payload) (λ e. kind_byte e.kind) in
    sym (slice_get_past (entries_of payload) row (omega (arith, count, past)))

-- from its bytes and its kind an entry is read with no search

front_of_written : (e : Entry) → written e ≡ (mode_of e.kind ++ 32 ∷ (e.name ++ 0 ∷ [])) ++ e.id.0
front_of_written e =
    ap (λ bytes. mode_of e.kind ++ 32 ∷ bytes) (sym (append_assoc e.name (0 ∷ []) e.id.0)) ∙ sym (append_assoc (mode_of e.kind) (32 ∷ (e.name ++ 0 ∷ [])) e.id.0)

length-front : (e : Entry) → length e.id.0 ≡ 20 → length (mode_of e.kind ++ 32 ∷ (e.name ++ 0 ∷ [])) ≡ length (written e) - 20
length-front e long =
    let whole = ap length (front_of_written e) ∙ length-append (mode_of e.kind ++ 32 ∷ (e.name ++ 0 ∷ [])) e.id.0 in
    omega (arith, whole, long)

pub front_written : (e : Entry) → length e.id.0 ≡ 20 → take (length (written e) - 20) (written e) ≡ mode_of e.kind ++ 32 ∷ (e.name ++ 0 ∷ [])
front_written e long =
    ap (λ n. take n (written e)) (sym (length-front e long)) ∙ ap (take (length (mode_of e.kind ++ 32 ∷ (e.name ++ 0 ∷ [])))) (front_of_written e)
    ∙ take-append_seam (mode_of e.kind ++ 32 ∷ (e.name ++ 0 ∷ [])) e.id.0

pub id_written : (e : Entry) → length e.id.0 ≡ 20 → drop (length (written e) - 20) (written e) ≡ e.id.0
id_written e long =
    ap (λ n. drop n (written e)) (sym (length-front e long)) ∙ ap (drop (length (mode_of e.kind ++ 32 ∷ (e.name ++ 0 ∷ [])))) (front_of_written e)
    ∙ drop-append_seam (mode_of e.kind ++ 32 ∷ (e.name ++ 0 ∷ [])) e.id.0

-- the name is between a mode and its space and NUL
pub name_between : (mode name front : List ℕ) (start end : ℕ) → front ≡ mode ++ 32 ∷ (name ++ 0 ∷ []) → start ≡ length mode + 1 → end ≡ length front - 1
    → take (end - start) (drop start front) ≡ name
name_between mode name front start end is from to =
    let parts : front ≡ (mode ++ 32 ∷ []) ++ (name ++ 0 ∷ []) = is ∙ sym (append_assoc mode (32 ∷ []) (name ++ 0 ∷ [])) in
    let first : length (mode ++ 32 ∷ []) ≡ length mode + 1 = length-append mode (32 ∷ []) in
    let second : length (name ++ 0 ∷ []) ≡ length name + 1 = length-append name (0 ∷ []) in
    let whole : length front ≡ length (mode ++ 32 ∷ []) + length (name ++ 0 ∷ []) = ap length parts ∙ length-append (mode ++ 32 ∷ []) (name ++ 0 ∷ []) in
    let long : end - start ≡ length name = omega (arith, first, second, whole, from, to) in
    ap (λ n. take n (drop start front)) long ∙ ap (λ n. take (length name) (drop n front)) (from ∙ sym first)
    ∙ ap (λ bytes. take (length name) (drop (length (mode ++ 32 ∷ [])) bytes)) parts
    ∙ ap (take (length name)) (drop-append_seam (mode ++ 32 ∷ []) (name ++ 0 ∷ []))
    ∙ take-append_seam name (0 ∷ [])
