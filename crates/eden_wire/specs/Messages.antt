-- The format of each field and message, which encodes as eden_messages' specs/Spells says
-- and adds in which order faults are met.
use Rattle.std.specs.Prelude.{ℕ, Bool, true, ◌&&◌, List, [], ◌∷◌, length, Option, Some, None, is_none, nat_lt, nat_le, ◌==◌, ◌⊎◌}
use Rattle.std.specs.Int.{w16, w32, w64}
use Rattle.std.specs.Option.{option_map}
use Rattle.std.specs.Ordering.{nat_cmp, is_lt}
use Rattle.std.specs.Cmp.Lexicographic.{slice_cmp}
use mathlib.Core.Logic.{inl, inr}
use Rattle.eden_ids.specs.declared.content.Content.{Content}
use Rattle.eden_ids.specs.declared.content.Kind.{Kind}
use Rattle.eden_ids.specs.declared.content.Kind.TheVariants.{Plain, Exec, Link}
use Rattle.eden_ids.specs.declared.id.Id.{Id}
use Rattle.eden_ids.specs.Paths.{path_fault, lies_below}
use Rattle.eden_globs.specs.Filters.{Patterns, filter_fault, including}
use Rattle.eden_history.specs.declared.mark.Mark.{Mark}
use Rattle.eden_history.specs.declared.mark.Mark.TheVariants.{Created, Removed, Changed, Root}
use Rattle.eden_history.specs.declared.mark.Marked.{Marked}
use Rattle.eden_history.specs.declared.position.Position.{Position}
use Rattle.eden_messages.specs.declared.message.Query.{Query}
use Rattle.eden_messages.specs.declared.message.Request.{Request}
use Rattle.eden_messages.specs.declared.message.Request.TheVariants.{Basis, Poll, Fetch, List as Below}
use Rattle.eden_messages.specs.declared.message.Cause.{Cause}
use Rattle.eden_messages.specs.declared.message.Cause.TheVariants as causes
use Rattle.eden_messages.specs.declared.message.Reply.{Reply}
use Rattle.eden_messages.specs.declared.message.Reply.TheVariants.{BasisIs, ChangesAre, ContentIs, Refused, ListIs}
use Rattle.eden_messages.specs.Spells.{kind_byte, mark_byte}
use Rattle.eden_wire.specs.declared.fault.DecodeFault.TheVariants.{BadTag, BadField}
use Rattle.eden_wire.specs.Formats.{Format, Cases, nothing, byte, number, exactly, only, then_by, ◌▹◌, as_type, as_some, counted, list, one_of, versioned, no_case, case, tagged}

-- ---- fields

abbrev pub query : Format Query
query = as_type (number w64 ▹ number w64 ▹ number w64)
    (λ x. record { mirror = x.0; life = x.1.0; number = x.1.1 })
    (λ q. (q.mirror, (q.life, q.number)))

abbrev pub position : Format Position
position = as_type (number w64 ▹ number w64 ▹ exactly 20)
    (λ x. record { generation = x.0; sequence = x.1.0; root = record { 0 = x.1.1 } })
    (λ p. (p.generation, (p.sequence, p.root.0)))

abbrev pub id : Format Id
id = as_type (exactly 20) (λ bytes. record { 0 = bytes }) (λ id. id.0)

-- one byte at least and `limit` at most, after a count of two bytes; the count is a fault
-- before the bytes that it counts are looked for
abbrev pub text : ℕ → Format (List ℕ)
text limit = counted (only (number w16) (λ n. nat_lt 0 n && nat_le n limit))

abbrev pub path : Format (List ℕ)
path = only (text 1024) (λ bytes. is_none (path_fault bytes))

abbrev pub any_order : {A : Type 0} → Option A → A → Bool
any_order last x = true

-- a filter that excludes nothing is one field: its patterns are checked when the last of
-- them is there
abbrev pub filter : Format Patterns
filter = as_some (only (list (only byte (λ n. nat_le n 32)) (text 256) any_order) (λ patterns. is_none (filter_fault patterns))) including (λ f. f.included)

-- such a filter of the patterns that are excluded, of which there is one at least
abbrev pub excluded : Format Patterns
excluded = only filter (λ f. nat_lt 0 (length f.included))

abbrev pub marks : List Mark
marks = Created ∷ Removed ∷ Changed ∷ Root ∷ []

abbrev pub mark : Format Mark
mark = one_of mark_byte marks

abbrev pub marked_path : Format Marked
marked_path = as_type (mark ▹ path) (λ x. record { mark = x.0; path = x.1 }) (λ m. (m.mark, m.path))

-- a path sorts after the last one, if there is one
abbrev pub is_above : Option (List ℕ) → List ℕ → Bool
is_above None next = true
is_above (Some last) next = is_lt (slice_cmp nat_cmp last next)

-- a path is below the directory, if there is one
abbrev pub is_within : Option (List ℕ) → List ℕ → Bool
is_within None next = true
is_within (Some prefix) next = lies_below next prefix

-- paths that ascend, each below the directory if there is one
abbrev pub paths_within : Option (List ℕ) → Format (List (List ℕ))
paths_within prefix = list (number w32) (only path (is_within prefix)) is_above

abbrev pub ascending_marks : Option Marked → Marked → Bool
ascending_marks last marked = is_above (option_map (λ m. m.path) last) marked.path

-- marked paths that ascend
abbrev pub marked_paths : Format (List Marked)
marked_paths = list (number w32) marked_path ascending_marks

-- the bytes of a file, at most 8 MiB
abbrev pub file_bytes : Format (List ℕ)
file_bytes = counted (only (number w32) (λ n. nat_le n 8388608))

abbrev pub kinds : List Kind
kinds = Plain ∷ Exec ∷ Link ∷ []

abbrev pub kind : Format Kind
kind = one_of kind_byte kinds

-- nothing, or the bytes of a plain file, of an executable one or of a link
abbrev pub Held : Type 0
Held = Unit ⊎ (List ℕ ⊎ (List ℕ ⊎ (List ℕ ⊎ ⊥)))

abbrev pub content_of : Held → Option Content
content_of (inl x) = None
content_of (inr (inl bytes)) = Some (record { kind = Plain; bytes = bytes })
content_of (inr (inr (inl bytes))) = Some (record { kind = Exec; bytes = bytes })
content_of (inr (inr (inr (inl bytes)))) = Some (record { kind = Link; bytes = bytes })
content_of (inr (inr (inr (inr x)))) = absurd x

abbrev pub held_by : Content → Held
held_by content = elim content.kind as (λ _. Held) [
  | Plain ↦ inr (inl content.bytes)
  | Exec ↦ inr (inr (inl content.bytes))
  | Link ↦ inr (inr (inr (inl content.bytes)))
]

abbrev pub held : Option Content → Held
held None = inl tt
held (Some content) = held_by content

-- a file, or its absence
abbrev pub content : Format (Option Content)
content = as_type (tagged (case 0 nothing (case 1 file_bytes (case 2 file_bytes (case 3 file_bytes (no_case BadField)))))) content_of held

-- the number of each cause in turn
abbrev pub Numbers : Type 0
Numbers = ℕ ⊎ (ℕ ⊎ (ℕ ⊎ (ℕ ⊎ ⊥)))

abbrev pub cause_of : Numbers → Cause
cause_of (inl n) = causes.Stale n
cause_of (inr (inl n)) = causes.Ahead n
cause_of (inr (inr (inl n))) = causes.Truncated n
cause_of (inr (inr (inr (inl n)))) = causes.TooLarge
cause_of (inr (inr (inr (inr x)))) = absurd x

abbrev pub cause_number : Cause → Numbers
cause_number (causes.Stale n) = inl n
cause_number (causes.Ahead n) = inr (inl n)
cause_number (causes.Truncated n) = inr (inr (inl n))
cause_number causes.TooLarge = inr (inr (inr (inl 0)))

-- a cause and its number; the last cause has none, which is encoded as 0
abbrev pub cause : Format Cause
cause = as_type (tagged (case 1 (number w64) (case 2 (number w64) (case 3 (number w64) (case 4 (only (number w64) (λ n. n == 0)) (no_case BadField)))))) cause_of cause_number

-- ---- requests

-- those with a filter, which may come after what it excludes
abbrev pub FilteredParts : Type 0
FilteredParts = (Query × Patterns) ⊎ ((Query × (Position × Patterns)) ⊎ ((Query × (List ℕ × Patterns)) ⊎ ⊥))

abbrev pub filtered_of : FilteredParts → Request
filtered_of (inl x) = Basis x.0 x.1
filtered_of (inr (inl x)) = Poll x.0 x.1.0 x.1.1
filtered_of (inr (inr (inl x))) = Below x.0 x.1.0 x.1.1
filtered_of (inr (inr (inr x))) = absurd x

abbrev pub filtered_cases : Cases FilteredParts
filtered_cases =
    case 1 (query ▹ filter) (
    case 2 (query ▹ position ▹ filter) (
    case 4 (query ▹ path ▹ filter) (no_case BadTag)))

-- the request with the patterns of another filter excluded
abbrev pub excepting : Patterns → Request → Request
excepting e (Basis q f) = Basis q (record f { excluded = e.included })
excepting e (Poll q s f) = Poll q s (record f { excluded = e.included })
excepting e (Fetch q p) = Fetch q p
excepting e (Below q p f) = Below q p (record f { excluded = e.included })

abbrev pub RequestParts : Type 0
RequestParts = (Query × Patterns) ⊎ ((Query × (Position × Patterns)) ⊎ ((Query × List ℕ) ⊎ ((Query × (List ℕ × Patterns)) ⊎ ((Patterns × FilteredParts) ⊎ ⊥))))

abbrev pub request_of : RequestParts → Request
request_of (inl x) = Basis x.0 x.1
request_of (inr (inl x)) = Poll x.0 x.1.0 x.1.1
request_of (inr (inr (inl x))) = Fetch x.0 x.1
request_of (inr (inr (inr (inl x)))) = Below x.0 x.1.0 x.1.1
request_of (inr (inr (inr (inr (inl x))))) = excepting x.0 (filtered_of x.1)
request_of (inr (inr (inr (inr (inr x))))) = absurd x

-- what a filter excludes comes first, if it excludes anything
abbrev pub parts_by : List (List ℕ) → RequestParts → FilteredParts → RequestParts
parts_by [] alone filtered = alone
parts_by (pattern ∷ patterns) alone filtered = inr (inr (inr (inr (inl (including (pattern ∷ patterns), filtered)))))

abbrev pub request_parts : Request → RequestParts
request_parts (Basis q f) = parts_by f.excluded (inl (q, including f.included)) (inl (q, including f.included))
request_parts (Poll q s f) = parts_by f.excluded (inr (inl (q, (s, including f.included)))) (inr (inl (q, (s, including f.included))))
request_parts (Fetch q p) = inr (inr (inl (q, p)))
request_parts (Below q p f) =
    parts_by f.excluded (inr (inr (inr (inl (q, (p, including f.included)))))) (inr (inr (inl (q, (p, including f.included)))))

abbrev pub request_cases : Cases RequestParts
request_cases =
    case 1 (query ▹ filter) (
    case 2 (query ▹ position ▹ filter) (
    case 3 (query ▹ path) (
    case 4 (query ▹ path ▹ filter) (
    case 7 (excluded ▹ versioned (tagged filtered_cases)) (no_case BadTag)))))

abbrev pub request : Format Request
request = as_type (versioned (tagged request_cases)) request_of request_parts

-- ---- replies

abbrev pub ReplyParts : Type 0
ReplyParts = (Query × (Position × List (List ℕ))) ⊎ ((Query × (Position × (List Marked × List (List ℕ)))) ⊎ ((Query × (Position × (List ℕ × Option Content))) ⊎ ((Query × Cause) ⊎ ((Query × (Position × (List ℕ × List (List ℕ)))) ⊎ ⊥))))

abbrev pub reply_of : ReplyParts → Reply
reply_of (inl x) = BasisIs x.0 x.1.0 x.1.1
reply_of (inr (inl x)) = ChangesAre x.0 x.1.0 x.1.1.0 x.1.1.1
reply_of (inr (inr (inl x))) = ContentIs x.0 x.1.0 x.1.1.0 x.1.1.1
reply_of (inr (inr (inr (inl x)))) = Refused x.0 x.1
reply_of (inr (inr (inr (inr (inl x))))) = ListIs x.0 x.1.0 x.1.1.0 x.1.1.1
reply_of (inr (inr (inr (inr (inr x))))) = absurd x

abbrev pub reply_parts : Reply → ReplyParts
reply_parts (BasisIs q s ps) = inl (q, (s, ps))
reply_parts (ChangesAre q s ms ps) = inr (inl (q, (s, (ms, ps))))
reply_parts (ContentIs q s p c) = inr (inr (inl (q, (s, (p, c)))))
reply_parts (Refused q c) = inr (inr (inr (inl (q, c))))
reply_parts (ListIs q s p ps) = inr (inr (inr (inr (inl (q, (s, (p, ps)))))))

-- the paths of the last reply are below the directory that is read before them
abbrev pub reply_cases : Cases ReplyParts
reply_cases =
    case 129 (query ▹ position ▹ paths_within None) (
    case 130 (query ▹ position ▹ marked_paths ▹ paths_within None) (
    case 131 (query ▹ position ▹ path ▹ content) (
    case 132 (query ▹ cause) (
    case 133 (query ▹ position ▹ then_by path (λ prefix. paths_within (Some prefix))) (no_case BadTag)))))

abbrev pub reply : Format Reply
reply = as_type (versioned (tagged reply_cases)) reply_of reply_parts
