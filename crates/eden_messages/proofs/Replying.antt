-- Every reply of a spellable world has a spelling.
use Rattle.std.proofs.Common.{◌≡◌, ℕ, ◌+◌, ◌^◌, ◌<◌, ◌≤◌, Bool, true, false, cond, not, nat_eq, nat_lt, List, [], ◌∷◌, map, length, Option, Some, None, refl, sym, ap, subst, ◌∙◌, length-append, arith}
use Rattle.std.specs.Prelude.{filter, if◌then◌else◌, IfOk, Result, Ok, Err}
use Rattle.std.proofs.lemmas.Bool.{ltb-false}
use Rattle.std.proofs.lemmas.List.Concat.{flat_map-cons}
use Rattle.std.proofs.lemmas.List.Elements.{All-filter, All-from_recursion, recursion_from_All}
use Rattle.std.proofs.lemmas.List.Kept.{IsStrictlySortedBy-filter}
use Rattle.std.specs.List.{AllByRecursion, flat_map}
use Rattle.std.specs.List.Sorted.{IsStrictlySortedBy}
use Rattle.eden_ids.specs.declared.content.Content.{Content}
use Rattle.eden_ids.specs.declared.id.Id.{Id}
use Rattle.eden_ids.specs.FileMaps.{FileMap, PathSet, file_at, listing, path_set, paths}
use Rattle.eden_ids.specs.Paths.{lies_below}
use Rattle.eden_ids.specs.Texts.{AreTexts, IsPathText}
use Rattle.eden_ids.proofs.ByteOrder.{fin_keys_rise, order}
use Rattle.eden_ids.proofs.TextLemmas.{paths_texts}
use Rattle.eden_globs.specs.Filters.{Patterns, admits}
use Rattle.eden_stream.specs.Frames.{body_limit}
use Rattle.eden_history.specs.declared.answer.SinceFault.{SinceFault}
use Rattle.eden_history.specs.declared.answer.SinceFault.TheVariants as since
use Rattle.eden_history.specs.declared.mark.Marked.{Marked}
use Rattle.eden_history.specs.declared.position.Position.{Position}
use Rattle.eden_history.specs.Worlds.{Row, WorldState, now, position_of}
use Rattle.eden_history.specs.Said.{Said, ends, paths_said}
use Rattle.eden_history.specs.Changes.{below, prefixes_since, prefixes_told, said_since}
use Rattle.eden_history.specs.Legal.{IsWorld}
use Rattle.eden_history.specs.Marks.{admitted, mark_said, marked_since}
use Rattle.eden_history.specs.Recorded.{floor_of}
use Rattle.eden_history.specs.Spellable.{IsRowText, IsSpellable}
use Rattle.eden_history.specs.Status.{status, status_of}
use Rattle.eden_history.proofs.Ends.{ends-paths}
use Rattle.eden_history.proofs.Floors.{floor_fits}
use Rattle.eden_history.proofs.Spelled.{named_texts, now_texts, prefixes_texts}
use Rattle.eden_messages.specs.declared.message.Cause.{Cause}
use Rattle.eden_messages.specs.declared.message.Cause.TheVariants.{Stale, Ahead, Truncated, TooLarge}
use Rattle.eden_messages.specs.declared.message.Query.{Query}
use Rattle.eden_messages.specs.declared.message.Request.TheVariants.{Basis, Poll, Fetch, List as Below}
use Rattle.eden_messages.specs.declared.message.Reply.{Reply}
use Rattle.eden_messages.specs.declared.message.Reply.TheVariants.{BasisIs, ChangesAre, ContentIs, Refused, ListIs}
use Rattle.eden_messages.specs.Spells.{AreBelow, Ascends, IsCause, IsListing, IsPosition, IsQuery, IsReply, IsValue, SpellsReply, cause_bytes, marked_bytes, paths_of, reply_bytes, text_bytes}
use Rattle.eden_messages.specs.Replies.{RepliesAreSpelled, admitted_paths, bounded, cause_of, polled, reply_of}
use Rattle.eden_messages.proofs.BodyLengths.{basis_len, changes_len, list_len}
use Rattle.eden_messages.proofs.Spelling.{paths_len}

-- ---- refusals, and replies that are refused where they are too long

cause_len : (cause : Cause) → length (cause_bytes cause) ≡ 9
cause_len (Stale generation) = refl
cause_len (Ahead head) = refl
cause_len (Truncated floor) = refl
cause_len TooLarge = refl

refused_len : (query : Query) (cause : Cause) → length (reply_bytes (Refused query cause)) ≡ 35
refused_len query cause = let nine = cause_len cause in simp length-append (omega (arith, nine))

refused_spelled : (query : Query) (cause : Cause) → IsQuery query → IsCause cause → SpellsReply (reply_bytes (Refused query cause)) (Refused query cause)
refused_spelled query cause is fits = record { fields = (is, fits); bytes = refl; limit = omega (arith, refused_len query cause) }

bounded_spelled : (query : Query) (reply : Reply) → IsQuery query → (length (reply_bytes reply) ≤ body_limit → IsReply reply)
    → SpellsReply (reply_bytes (bounded query reply)) (bounded query reply)
unfolding bounded
bounded_spelled query reply is fields = by (nat_lt body_limit (length (reply_bytes reply))) refl
  where
    by : (long : Bool) → nat_lt body_limit (length (reply_bytes reply)) ≡ long
        → SpellsReply (reply_bytes (if long then Refused query TooLarge else reply)) (if long then Refused query TooLarge else reply)
    by true e = refused_spelled query TooLarge is tt
    by false e =
        let small = ltb-false body_limit (length (reply_bytes reply)) e in
        record { fields = fields small; bytes = refl; limit = small }

-- ---- lists of paths

-- a path takes two bytes at least
paths_few : (ps : List (List ℕ)) → length ps + length ps ≤ length (flat_map text_bytes ps)
paths_few [] = omega arith
paths_few (p ∷ ps) =
    let rest = paths_few ps in
    let one : length (flat_map text_bytes (p ∷ ps)) ≡ length (text_bytes p) + length (flat_map text_bytes ps) =
    ap length (flat_map-cons text_bytes p ps) ∙ length-append (text_bytes p) (flat_map text_bytes ps) in
    omega (arith, rest, one)

marked_few : (list : List Marked) → length list + length list ≤ length (flat_map marked_bytes list)
marked_few [] = omega arith
marked_few (m ∷ ms) =
    let rest = marked_few ms in
    let one : length (flat_map marked_bytes (m ∷ ms)) ≡ length (marked_bytes m) + length (flat_map marked_bytes ms) =
    ap length (flat_map-cons marked_bytes m ms) ∙ length-append (marked_bytes m) (flat_map marked_bytes ms) in
    omega (arith, rest, one)

-- paths in byte order ascend
ascends : (ps : List (List ℕ)) → IsStrictlySortedBy order ps → Ascends ps
unfolding IsStrictlySortedBy
ascends [] rise = tt
ascends (p ∷ []) rise = (tt, tt)
ascends (p ∷ q ∷ ps) rise = (rise.0.0, ascends (q ∷ ps) rise.1)

-- paths, strictly in byte order
record AreListed (ps : List (List ℕ)) : Type 0 where
  pub texts : AllByRecursion IsPathText ps
  pub rise : IsStrictlySortedBy order ps

-- those of a list that pass a test
sifted : (test : List ℕ → Bool) (ps : List (List ℕ)) → AreListed ps → AreListed (filter test ps)
sifted test ps are =
    record {
      texts = recursion_from_All IsPathText (filter test ps) (All-filter test IsPathText ps (All-from_recursion IsPathText ps are.texts));
      rise = IsStrictlySortedBy-filter order test ps are.rise;
    }

listed : (ps : List (List ℕ)) → AreListed ps → length ps < 2 ^ 32 → IsListing ps
listed ps are few = record { count = few; texts = are.texts; ascends = ascends ps are.rise }

-- those of a set
of_set : (set : PathSet) → AllByRecursion IsPathText (listing set) → AreListed (listing set)
of_set set texts = record { texts = texts; rise = fin_keys_rise set }

all_below : (prefix : List ℕ) (ps : List (List ℕ)) → AreBelow prefix (below prefix ps)
all_below prefix [] = tt
all_below prefix (p ∷ ps) = by (lies_below p prefix) refl (all_below prefix ps)
  where
    by : (b : Bool) → lies_below p prefix ≡ b → AreBelow prefix (below prefix ps) → AreBelow prefix (cond b (p ∷ below prefix ps) (below prefix ps))
    by true e more = (e, more)
    by false e more = more

-- the paths of marked ones, of which a filter admits some
pub admitted_listed : (patterns : Patterns) (marked : List Marked) → paths_of (admitted patterns marked) ≡ filter (admits patterns) (paths_of marked)
admitted_listed patterns [] = refl
admitted_listed patterns (m ∷ ms) = by (admits patterns m.path) (admitted_listed patterns ms)
  where
    by : (b : Bool) → paths_of (admitted patterns ms) ≡ filter (admits patterns) (paths_of ms)
        → paths_of (cond b (m ∷ admitted patterns ms) (admitted patterns ms)) ≡ cond b (m.path ∷ filter (admits patterns) (paths_of ms)) (filter (admits patterns) (paths_of ms))
    by true more = ap (λ ps. m.path ∷ ps) more
    by false more = more

marks_listed : (list : List Said) → paths_of (map mark_said list) ≡ paths_said list
marks_listed [] = refl
marks_listed (one ∷ more) = ap (λ ps. one.0 ∷ ps) (marks_listed more)

-- the paths that are marked since a number are those of which something is said
pub marked_paths : (world : WorldState) (since : ℕ) → paths_of (marked_since world since) ≡ listing (path_set (paths_said (said_since world since)))
marked_paths world since = marks_listed (ends (said_since world since)) ∙ ends-paths (said_since world since)

-- ---- what a world replies

position_text : (row : Row) → IsRowText row → IsPosition (position_of row)
position_text row is = record { generation = is.generation; sequence = is.sequence; root = is.root.twenty; root_bytes = is.root.bytes }

value_text : (files : FileMap) (path : List ℕ) → AreTexts files → IsValue (file_at files path)
value_text files path texts = by (file_at files path) refl
  where
    by : (o : Option Content) → file_at files path ≡ o → IsValue o
    by None e = tt
    by (Some file) e = (texts path file e).1

-- the causes for which a position is refused
abbrev OfCause : Option SinceFault → Type 0
OfCause None = Unit {0}
OfCause (Some fault) = IsCause (cause_of fault)

status_cause : (generation head floor : ℕ) (position : Position) → generation < 2 ^ 64 → head < 2 ^ 64 → floor < 2 ^ 64 → OfCause (status generation head floor position)
status_cause generation head floor position one two three =
    by (not (nat_eq position.generation generation)) (nat_lt head position.sequence) (nat_lt position.sequence floor)
  where
    by : (stale ahead truncated : Bool)
        → OfCause (if stale then Some (since.Stale generation) else (if ahead then Some (since.Ahead head) else (if truncated then Some (since.Truncated floor) else None)))
    by true ahead truncated = one
    by false true truncated = two
    by false false true = three
    by false false false = tt

module _ (name : List ℕ → List ℕ → Id) (world : WorldState) (is : IsWorld name world) (spellable : IsSpellable world) where
  present : IsRowText (now world)
  present = now_texts name world is spellable

  files_listed : (patterns : Patterns) → AreListed (admitted_paths patterns (now world).files)
  files_listed patterns =
      sifted (admits patterns) (paths (now world).files)
      (record { texts = paths_texts (now world).files present.files; rise = fin_keys_rise (now world).files })

  basis_spelled : (query : Query) (patterns : Patterns) → IsQuery query
      → SpellsReply (reply_bytes (reply_of world (Basis query patterns))) (reply_of world (Basis query patterns))
  basis_spelled query patterns asked =
      bounded_spelled query (BasisIs query (position_of (now world)) (admitted_paths patterns (now world).files)) asked
      (λ small.
      let long = basis_len query (position_of (now world)) (admitted_paths patterns (now world).files) in
      let few = paths_few (admitted_paths patterns (now world).files) in (
        asked,
        position_text (now world) present,
        listed (admitted_paths patterns (now world).files) (files_listed patterns) (omega (arith, small, long, few)),
      ))

  list_spelled : (query : Query) (prefix : List ℕ) (patterns : Patterns) → IsQuery query → IsPathText prefix
      → SpellsReply (reply_bytes (reply_of world (Below query prefix patterns))) (reply_of world (Below query prefix patterns))
  list_spelled query prefix patterns asked text =
      let paths = below prefix (admitted_paths patterns (now world).files) in
      bounded_spelled query (ListIs query (position_of (now world)) prefix paths) asked
      (λ small.
      let long = list_len query (position_of (now world)) prefix paths in
      let few = paths_few paths in (
        asked,
        position_text (now world) present,
        text,
        listed paths (sifted (λ path. lies_below path prefix) (admitted_paths patterns (now world).files) (files_listed patterns)) (omega (arith, small, long, few)),
        all_below prefix (admitted_paths patterns (now world).files),
      ))

  content_spelled : (query : Query) (path : List ℕ) → IsQuery query → IsPathText path
      → SpellsReply (reply_bytes (reply_of world (Fetch query path))) (reply_of world (Fetch query path))
  content_spelled query path asked text =
      bounded_spelled query (ContentIs query (position_of (now world)) path (file_at (now world).files path)) asked
      (λ small. (asked, position_text (now world) present, text, value_text (now world).files path present.files))

  changes_listing : (since : ℕ) (patterns : Patterns) → length (admitted patterns (marked_since world since)) < 2 ^ 32
      → IsListing (paths_of (admitted patterns (marked_since world since)))
  changes_listing since patterns few =
      let named = listing (path_set (paths_said (said_since world since))) in
      let texts = named_texts name world since is spellable in
      let same : paths_of (admitted patterns (marked_since world since)) ≡ filter (admits patterns) named =
      admitted_listed patterns (marked_since world since) ∙ ap (filter (admits patterns)) (marked_paths world since) in
      let count = paths_len (admitted patterns (marked_since world since)) in
      let short : length (filter (admits patterns) named) < 2 ^ 32 = omega (arith, few, count, ap length same) in
      subst IsListing (sym same)
      (listed (filter (admits patterns) named) (sifted (admits patterns) named (of_set (path_set (paths_said (said_since world since))) texts)) short)

  prefixes_listing : (since : ℕ) → length (prefixes_since world since) < 2 ^ 32 → IsListing (prefixes_since world since)
  prefixes_listing since few =
      listed (prefixes_since world since)
      (of_set (path_set (prefixes_told (now world).generation since (now world).sequence world.past)) (prefixes_texts name world since is spellable)) few

  changes_spelled : (query : Query) (since : ℕ) (patterns : Patterns) → IsQuery query
      → SpellsReply (reply_bytes (polled world query since patterns None)) (polled world query since patterns None)
  changes_spelled query since patterns asked =
      bounded_spelled query (ChangesAre query (position_of (now world)) (admitted patterns (marked_since world since)) (prefixes_since world since)) asked
      (λ small.
      let long = changes_len query (position_of (now world)) (admitted patterns (marked_since world since)) (prefixes_since world since) in
      let few = marked_few (admitted patterns (marked_since world since)) in
      let more = paths_few (prefixes_since world since) in (
        asked,
        position_text (now world) present,
        changes_listing since patterns (omega (arith, small, long, few)),
        prefixes_listing since (omega (arith, small, long, more)),
      ))

  polled_spelled : (query : Query) (since : ℕ) (patterns : Patterns) (fault : Option SinceFault) → IsQuery query → OfCause fault
      → SpellsReply (reply_bytes (polled world query since patterns fault)) (polled world query since patterns fault)
  polled_spelled query since patterns None asked fits = changes_spelled query since patterns asked
  polled_spelled query since patterns (Some fault) asked fits = refused_spelled query (cause_of fault) asked fits

  status_text : (position : Position) → OfCause (status_of world position)
  status_text position =
      let low = floor_fits world is.legal in
      let high = present.sequence in
      status_cause (now world).generation (now world).sequence (floor_of world) position present.generation high (omega (arith, low, high))

pub reply_spelled : RepliesAreSpelled
reply_spelled name world (Basis query patterns) is spellable asked = basis_spelled name world is spellable query patterns asked.0
reply_spelled name world (Fetch query path) is spellable asked = content_spelled name world is spellable query path asked.0 asked.1
reply_spelled name world (Below query prefix patterns) is spellable asked = list_spelled name world is spellable query prefix patterns asked.0 asked.1
reply_spelled name world (Poll query position patterns) is spellable asked =
    polled_spelled name world is spellable query position.sequence patterns (status_of world position) asked.0 (status_text name world is spellable position)

-- so has what a call gives, where that is the right reply
pub spelled_as : {E : Type 0} (result : Result Reply E) (right : Reply) → IfOk result (λ reply. reply ≡ right) → SpellsReply (reply_bytes right) right
    → IfOk result (λ reply. SpellsReply (reply_bytes reply) reply)
spelled_as (Ok reply) right is spells = subst (λ r. SpellsReply (reply_bytes r) r) (sym is) spells
spelled_as (Err fault) right is spells = tt
