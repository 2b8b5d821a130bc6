-- The columns of a payload's entries, filled entry by entry.
use Rattle.std.proofs.Common.{◌≡◌, ◌∙◌, sym, refl, ap, ℕ, ◌+◌, List, [], ◌∷◌, ◌++◌, length, Ok, arith, append_assoc}
use Rattle.std.proofs.lemmas.List.{append-nil, map-append}
use Rattle.std.proofs.lemmas.List.Concat.{flat_map-append}
use Rattle.eden_ids.specs.declared.id.Id.{Id}
use Rattle.eden_git.specs.declared.columns.Columns.{Columns}
use Rattle.eden_git.specs.Trees.{Entry, entries_of, read_entry}
use Rattle.eden_git.specs.Starts.{breadth, extent, places}
use Rattle.eden_git.specs.Columns.{AreColumns, AreColumnsOf, ids_of, kind_byte, kinds_of, text_of}
use Rattle.eden_git.proofs.Fuel.{after_read}
use Rattle.eden_git.proofs.Reading.{read_breadth}

pub extent-more : (es : List Entry) (e : Entry) → extent (es ++ e ∷ []) ≡ extent es + breadth e
extent-more [] e = omega arith
extent-more (f ∷ es) e = let more = extent-more es e in omega (arith, more)

places-more : (start : ℕ) (es : List Entry) (e : Entry) → places start (es ++ e ∷ []) ≡ places start es ++ (start + (extent es + breadth e)) ∷ []
places-more start [] e = let next : start + breadth e ≡ start + (0 + breadth e) = omega arith in ap (λ (end : ℕ). start ∷ end ∷ []) next
places-more start (f ∷ es) e =
    let next : start + breadth f + (extent es + breadth e) ≡ start + (breadth f + extent es + breadth e) = omega arith in
    ap (λ (ends : List ℕ). start ∷ ends) (places-more (start + breadth f) es e ∙ ap (λ end. places (start + breadth f) es ++ end ∷ []) next)

-- an entry that is added to each column
pub one_more : (old : Columns) (e : Entry) (end : ℕ) (starts : List ℕ) (ids : List Id) (kinds names : List ℕ)
    → starts ≡ old.starts.items ++ end ∷ [] → ids ≡ old.ids ++ e.id ∷ [] → kinds ≡ old.kinds.items ++ kind_byte e.kind ∷ []
    → names ≡ old.names.items ++ (e.name ++ 47 ∷ []) → (es : List Entry) → AreColumnsOf es old → end ≡ extent es + breadth e
    → (starts ≡ places 0 (es ++ e ∷ [])) × (ids ≡ ids_of (es ++ e ∷ [])) × (kinds ≡ kinds_of (es ++ e ∷ [])) × (names ≡ text_of (es ++ e ∷ []))
one_more old e end starts ids kinds names at one kind name es so_far is =
    let from : end ≡ 0 + (extent es + breadth e) = omega (arith, is) in (
      at ∙ ap (λ s. s ++ end ∷ []) so_far.0 ∙ ap (λ n. places 0 es ++ n ∷ []) from ∙ sym (places-more 0 es e),
      one ∙ ap (λ s. s ++ e.id ∷ []) so_far.1 ∙ sym (map-append (λ (e : Entry). e.id) es (e ∷ [])),
      kind ∙ ap (λ s. s ++ kind_byte e.kind ∷ []) so_far.2 ∙ sym (map-append (λ (e : Entry). kind_byte e.kind) es (e ∷ [])),
      name ∙ ap (λ s. s ++ (e.name ++ 47 ∷ [])) so_far.3 ∙ ap (λ t. text_of es ++ t) (sym (append-nil (e.name ++ 47 ∷ [])))
          ∙ sym (flat_map-append (λ (e : Entry). e.name ++ 47 ∷ []) es (e ∷ [])),
    )

-- the entries before the rest are these, and the columns are theirs
abbrev pub AreNoted : List ℕ → Columns → List ℕ → Type 0
AreNoted payload columns rest = (es : List Entry) × (entries_of payload ≡ es ++ entries_of rest) × (length payload ≡ extent es + length rest) × AreColumnsOf es columns

pub begins : (payload : List ℕ) (columns : Columns) → AreColumnsOf [] columns → AreNoted payload columns payload
begins payload columns none = ([], refl, omega arith, none)

pub goes_on : (payload : List ℕ) (old new : Columns) (rest : List ℕ) (e : Entry) (after : List ℕ) (end : ℕ) → AreNoted payload old rest → read_entry rest ≡ Ok (e, after)
    → end + length after ≡ length payload
    → ((es : List Entry) → AreColumnsOf es old → end ≡ extent es + breadth e → AreColumnsOf (es ++ e ∷ []) new)
    → AreNoted payload new after
goes_on payload old new rest e after end noted read at more =
    let long : length rest ≡ breadth e + length after = read_breadth rest (e, after) read in
    let whole : length payload ≡ extent noted.0 + length rest = noted.2 in
    let wider : extent (noted.0 ++ e ∷ []) ≡ extent noted.0 + breadth e = extent-more noted.0 e in (
      noted.0 ++ e ∷ [],
      noted.1 ∙ ap (λ es. noted.0 ++ es) (after_read rest e after read) ∙ sym (append_assoc noted.0 (e ∷ []) (entries_of after)),
      omega (arith, long, whole, wider),
      more noted.0 noted.3 (omega (arith, long, whole, at)),
    )

pub ends : (payload : List ℕ) (columns : Columns) (rest : List ℕ) → AreNoted payload columns rest → entries_of rest ≡ [] → AreColumns payload columns
ends payload columns rest noted none =
    let all : noted.0 ≡ entries_of payload = sym (noted.1 ∙ ap (λ es. noted.0 ++ es) none ∙ append-nil noted.0) in
    rw (← all) noted.3
