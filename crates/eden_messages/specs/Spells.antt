-- The bytes of each message. All numbers are unsigned and big-endian. A body is the
-- version 2, a tag, the query and the fields of the tag; it is sent in a frame
-- (`Rattle.eden_stream.specs.Frames`).
use Rattle.std.specs.Prelude.{◌≡◌, true, ℕ, ◌<◌, ◌≤◌, ◌^◌, List, [], ◌∷◌, ◌++◌, length, map, nat_lt, if◌then◌else◌, Option, Some, None}
use Rattle.std.specs.Int.{w16, w32, w64, to_be_bytes}
use Rattle.std.specs.List.{flat_map, AllByRecursion}
use Rattle.std.specs.Ordering.{nat_cmp}
use Rattle.std.specs.Cmp.Lexicographic.{slice_cmp}
use Rattle.std.specs.declared.cmp.Ordering.TheVariants.{Less}
use Rattle.eden_ids.specs.declared.content.Content.{Content}
use Rattle.eden_ids.specs.declared.content.Kind.{Kind}
use Rattle.eden_ids.specs.declared.content.Kind.TheVariants.{Plain, Exec, Link}
use Rattle.eden_ids.specs.Paths.{lies_below}
use Rattle.eden_ids.specs.Texts.{AreBytes, IsContentText, IsPathText}
use Rattle.eden_globs.specs.Filters.{IsFilter, Patterns}
use Rattle.eden_stream.specs.Frames.{body_limit}
use Rattle.eden_history.specs.declared.mark.Mark.{Mark}
use Rattle.eden_history.specs.declared.mark.Mark.TheVariants.{Created, Removed, Changed, Root}
use Rattle.eden_history.specs.declared.mark.Marked.{Marked}
use Rattle.eden_history.specs.declared.position.Position.{Position}
use Rattle.eden_messages.specs.declared.message.Query.{Query}
use Rattle.eden_messages.specs.declared.message.Request.{Request}
use Rattle.eden_messages.specs.declared.message.Request.TheVariants.{Basis, Poll, Fetch, List as Below}
use Rattle.eden_messages.specs.declared.message.Cause.{Cause}
use Rattle.eden_messages.specs.declared.message.Cause.TheVariants.{Stale, Ahead, Truncated, TooLarge}
use Rattle.eden_messages.specs.declared.message.Reply.{Reply}
use Rattle.eden_messages.specs.declared.message.Reply.TheVariants.{BasisIs, ChangesAre, ContentIs, Refused, ListIs}

-- ---- fields

abbrev pub query_bytes : Query → List ℕ
query_bytes q = to_be_bytes w64 q.mirror ++ to_be_bytes w64 q.life ++ to_be_bytes w64 q.number

pub record IsQuery (q : Query) : Type 0 where
  pub mirror : q.mirror < 2 ^ 64
  pub life : q.life < 2 ^ 64
  pub number : q.number < 2 ^ 64

-- a root is twenty bytes
abbrev pub position_bytes : Position → List ℕ
position_bytes p = to_be_bytes w64 p.generation ++ to_be_bytes w64 p.sequence ++ p.root.0

pub record IsPosition (p : Position) : Type 0 where
  pub generation : p.generation < 2 ^ 64
  pub sequence : p.sequence < 2 ^ 64
  pub root : length p.root.0 ≡ 20
  pub root_bytes : AreBytes p.root.0

-- two bytes of length, and that many bytes: a path, or a pattern
abbrev pub text_bytes : List ℕ → List ℕ
text_bytes text = to_be_bytes w16 (length text) ++ text

-- a byte of count, and each pattern
abbrev pub filter_bytes : List (List ℕ) → List ℕ
filter_bytes patterns = length patterns ∷ flat_map text_bytes patterns

-- what comes before a request whose filter excludes patterns: the version, the tag 7, and
-- those patterns
abbrev pub excluded_bytes : List (List ℕ) → List ℕ
excluded_bytes [] = []
excluded_bytes (pattern ∷ patterns) = 2 ∷ 7 ∷ filter_bytes (pattern ∷ patterns)

pub record IsFilterText (wanted : Patterns) : Type 0 where
  pub filter : IsFilter wanted
  pub included : AllByRecursion AreBytes wanted.included
  pub excluded : AllByRecursion AreBytes wanted.excluded

-- the path sorts before each of the list that follows it; since that ascends, it is
-- enough to compare the first
abbrev pub IsBelowFirst : List ℕ → List (List ℕ) → Type 0
IsBelowFirst path [] = Unit {0}
IsBelowFirst path (next ∷ paths) = slice_cmp nat_cmp path next ≡ Less

-- paths that ascend strictly in byte order
abbrev pub Ascends : List (List ℕ) → Type 0
Ascends [] = Unit {0}
Ascends (path ∷ paths) = IsBelowFirst path paths × Ascends paths

-- paths that may be in a list
pub record IsListing (paths : List (List ℕ)) : Type 0 where
  pub count : length paths < 2 ^ 32
  pub texts : AllByRecursion IsPathText paths
  pub ascends : Ascends paths

-- each path is below the directory
abbrev pub AreBelow : List ℕ → List (List ℕ) → Type 0
AreBelow prefix paths = AllByRecursion (λ path. lies_below path prefix ≡ true) paths

-- four bytes of count, and each path
abbrev pub paths_bytes : List (List ℕ) → List ℕ
paths_bytes paths = to_be_bytes w32 (length paths) ++ flat_map text_bytes paths

abbrev pub mark_byte : Mark → ℕ
mark_byte Created = 1
mark_byte Removed = 2
mark_byte Changed = 3
mark_byte Root = 4

-- a mark and a path
abbrev pub marked_bytes : Marked → List ℕ
marked_bytes marked = mark_byte marked.mark ∷ text_bytes marked.path

-- four bytes of count, and each marked path
abbrev pub list_bytes : List Marked → List ℕ
list_bytes list = to_be_bytes w32 (length list) ++ flat_map marked_bytes list

-- the paths without their marks
abbrev pub paths_of : List Marked → List (List ℕ)
paths_of list = map (λ marked. marked.path) list

abbrev pub kind_byte : Kind → ℕ
kind_byte Plain = 1
kind_byte Exec = 2
kind_byte Link = 3

-- an absent file is one byte; any other is its kind, four bytes of length, and that many
-- bytes
abbrev pub content_bytes : Option Content → List ℕ
content_bytes None = 0 ∷ []
content_bytes (Some content) = kind_byte content.kind ∷ to_be_bytes w32 (length content.bytes) ++ content.bytes

abbrev pub IsValue : Option Content → Type 0
IsValue None = Unit {0}
IsValue (Some content) = IsContentText content

-- a cause and its number, which is 0 if it has none
abbrev pub cause_bytes : Cause → List ℕ
cause_bytes (Stale generation) = 1 ∷ to_be_bytes w64 generation
cause_bytes (Ahead head) = 2 ∷ to_be_bytes w64 head
cause_bytes (Truncated floor) = 3 ∷ to_be_bytes w64 floor
cause_bytes TooLarge = 4 ∷ to_be_bytes w64 0

abbrev pub IsCause : Cause → Type 0
IsCause (Stale generation) = generation < 2 ^ 64
IsCause (Ahead head) = head < 2 ^ 64
IsCause (Truncated floor) = floor < 2 ^ 64
IsCause TooLarge = Unit {0}

-- ---- bodies

-- the bytes of a request's body, if it has an encoding; what a filter excludes comes before
-- a request of what it includes
abbrev pub request_bytes : Request → List ℕ
request_bytes (Basis query filter) = excluded_bytes filter.excluded ++ (2 ∷ 1 ∷ query_bytes query ++ filter_bytes filter.included)
request_bytes (Poll query since filter) =
    excluded_bytes filter.excluded ++ (2 ∷ 2 ∷ query_bytes query ++ (position_bytes since ++ filter_bytes filter.included))
request_bytes (Fetch query path) = 2 ∷ 3 ∷ query_bytes query ++ text_bytes path
request_bytes (Below query prefix filter) =
    excluded_bytes filter.excluded ++ (2 ∷ 4 ∷ query_bytes query ++ (text_bytes prefix ++ filter_bytes filter.included))

abbrev pub IsRequest : Request → Type 0
IsRequest (Basis query filter) = IsQuery query × IsFilterText filter
IsRequest (Poll query since filter) = IsQuery query × IsPosition since × IsFilterText filter
IsRequest (Fetch query path) = IsQuery query × IsPathText path
IsRequest (Below query prefix filter) = IsQuery query × IsPathText prefix × IsFilterText filter

abbrev pub reply_bytes : Reply → List ℕ
reply_bytes (BasisIs query position paths) = 2 ∷ 129 ∷ query_bytes query ++ (position_bytes position ++ paths_bytes paths)
reply_bytes (ChangesAre query target marked prefixes) = 2 ∷ 130 ∷ query_bytes query ++ (position_bytes target ++ (list_bytes marked ++ paths_bytes prefixes))
reply_bytes (ContentIs query position path content) = 2 ∷ 131 ∷ query_bytes query ++ (position_bytes position ++ (text_bytes path ++ content_bytes content))
reply_bytes (Refused query cause) = 2 ∷ 132 ∷ query_bytes query ++ cause_bytes cause
reply_bytes (ListIs query position prefix paths) = 2 ∷ 133 ∷ query_bytes query ++ (position_bytes position ++ (text_bytes prefix ++ paths_bytes paths))

abbrev pub IsReply : Reply → Type 0
IsReply (BasisIs query position paths) = IsQuery query × IsPosition position × IsListing paths
IsReply (ChangesAre query target marked prefixes) = IsQuery query × IsPosition target × IsListing (paths_of marked) × IsListing prefixes
IsReply (ContentIs query position path content) = IsQuery query × IsPosition position × IsPathText path × IsValue content
IsReply (Refused query cause) = IsQuery query × IsCause cause
IsReply (ListIs query position prefix paths) = IsQuery query × IsPosition position × IsPathText prefix × IsListing paths × AreBelow prefix paths

-- this number of bytes, if a body may have that many
abbrev pub if_small : ℕ → Option ℕ
if_small count = if nat_lt body_limit count then None else Some count

-- the body encodes the request
pub record SpellsRequest (body : List ℕ) (request : Request) : Type 0 where
  pub fields : IsRequest request
  pub bytes : body ≡ request_bytes request
  pub limit : length body ≤ body_limit

-- the body encodes the reply
pub record SpellsReply (body : List ℕ) (reply : Reply) : Type 0 where
  pub fields : IsReply reply
  pub bytes : body ≡ reply_bytes reply
  pub limit : length body ≤ body_limit
