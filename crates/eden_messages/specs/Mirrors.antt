-- A mirror: a client's copy of the files that its filter admits. It follows a mount in
-- rounds. It asks what changed since its place. Then it asks for the paths below each
-- directory that files were moved from or to, and for the content of each path that was
-- named or listed. Requests and replies may be lost, repeated or reordered. So a reply
-- counts only if it answers the round under way, and the place moves only with the last
-- reply of a round.
use Rattle.std.specs.Prelude.{ℕ, ◌+◌, ◌-◌, ◌^◌, ◌==◌, Bool, true, false, not, ◌&&◌, ◌||◌, nat_lt, nat_le, if◌then◌else◌, List, [], ◌∷◌, ◌++◌, map, filter, Option, Some, None}
use Rattle.std.specs.FinMap.{retain_keys}
use Rattle.std.specs.List.{list_any}
use Rattle.eden_ids.specs.declared.content.Content.{Content}
use Rattle.eden_ids.specs.FileMaps.{FileMap, no_files, put_option, same_path}
use Rattle.eden_ids.specs.Paths.{lies_below}
use Rattle.eden_globs.specs.Filters.{Patterns}
use Rattle.eden_history.specs.declared.position.Position.{Position}
use Rattle.eden_messages.specs.declared.message.Query.{Query}
use Rattle.eden_messages.specs.declared.message.Request.{Request}
use Rattle.eden_messages.specs.declared.message.Request.TheVariants.{Basis, Poll, Fetch, List as Below}
use Rattle.eden_messages.specs.declared.message.Cause.{Cause}
use Rattle.eden_messages.specs.declared.message.Cause.TheVariants.{Stale, Ahead, Truncated, TooLarge}
use Rattle.eden_messages.specs.declared.message.Reply.{Reply}
use Rattle.eden_messages.specs.declared.message.Reply.TheVariants.{BasisIs, ChangesAre, ContentIs, Refused, ListIs}
use Rattle.eden_messages.specs.declared.outcome.Outcome.{Outcome}
use Rattle.eden_messages.specs.declared.outcome.Outcome.TheVariants.{Taken, Placed, Unplaced, Ended, Ignored}
use Rattle.eden_messages.specs.Spells.{paths_of}

-- the state of a round: there is none; its list was asked for; or the list has come. In
-- the last state the mirror waits for the contents of these paths and for the lists of
-- these directories, each in the order in which they came to be awaited. At the end its
-- place is the target, the position of the list
pub data Round : Type 0 where
  Idle : Round
  Asked : (request : Request) → Round
  Gathering : (query : Query) (target : Position) (awaited : List (List ℕ)) (prefixes : List (List ℕ)) → Round

-- its id and its life, the patterns of its filter, the number of its last round, the
-- files that it holds, the position that they are of, and its round
pub record MirrorState : Type 0 where
  pub id : ℕ
  pub life : ℕ
  pub patterns : Patterns
  pub last : ℕ
  pub files : FileMap
  pub place : Option Position
  pub round : Round

abbrev pub new_mirror : ℕ → ℕ → Patterns → MirrorState
new_mirror id life patterns = record { id = id; life = life; patterns = patterns; last = 0; files = no_files; place = None; round = Idle }

-- ---- a round begins

-- numbers of rounds end at 2 ^ 64 - 1
abbrev pub has_number : MirrorState → Bool
has_number m = nat_lt m.last (2 ^ 64 - 1)

-- the request that begins a round: what changed since a place, or all paths if there is
-- none
abbrev pub list_request : Query → Option Position → Patterns → Request
list_request query None patterns = Basis query patterns
list_request query (Some place) patterns = Poll query place patterns

abbrev pub query_numbered : MirrorState → ℕ → Query
query_numbered m number = record { mirror = m.id; life = m.life; number = number }

-- the next round; the one under way is given up
abbrev pub next_round : MirrorState → MirrorState
next_round m = record m { last = m.last + 1; round = Asked (list_request (query_numbered m (m.last + 1)) m.place m.patterns) }

-- a mirror whose numbers are used up stays as it is
unfoldable pub begun : MirrorState → MirrorState
begun m = if has_number m then next_round m else m

-- ---- what it asks

-- the requests that a round still waits for: its list; or a list for each awaited
-- directory, under the mirror's filter, and a content for each awaited path
abbrev pub requests_in : Patterns → Round → List Request
requests_in patterns Idle = []
requests_in patterns (Asked request) = request ∷ []
requests_in patterns (Gathering query target awaited prefixes) =
    map (λ prefix. Below query prefix patterns) prefixes ++ map (λ path. Fetch query path) awaited

unfoldable pub outstanding_of : MirrorState → List Request
outstanding_of m = requests_in m.patterns m.round

abbrev pub is_idle : Round → Bool
is_idle Idle = true
is_idle (Asked request) = false
is_idle (Gathering query target awaited prefixes) = false

-- with a round under way: the present one, or the next
unfoldable pub stepped : MirrorState → MirrorState
stepped m = if is_idle m.round then begun m else m

-- the requests that are outstanding when a round is under way
abbrev pub next_requests : MirrorState → List Request
next_requests m = outstanding_of (stepped m)

-- ---- a reply comes

abbrev pub same_query : Query → Query → Bool
same_query q r = q.mirror == r.mirror && q.life == r.life && q.number == r.number

-- the paths but this one
abbrev pub without : List ℕ → List (List ℕ) → List (List ℕ)
without path paths = filter (λ p. not (same_path p path)) paths

-- each path once, at its first occurrence
abbrev pub distinct : List (List ℕ) → List (List ℕ)
distinct [] = []
distinct (path ∷ paths) = path ∷ without path (distinct paths)

abbrev pub is_among : List ℕ → List (List ℕ) → Bool
is_among path paths = list_any (λ p. same_path path p) paths

-- a reply that does not count changes nothing
abbrev pub taken_if : Bool → MirrorState → MirrorState × Outcome → MirrorState × Outcome
taken_if true m taken = taken
taken_if false m taken = (m, Ignored)

-- the mirror waits for these paths and directories; if there are none of either, it is
-- placed and the round is over
abbrev pub gathers : MirrorState → Query → Position → List (List ℕ) → List (List ℕ) → MirrorState × Outcome
gathers m query target [] [] = (record m { place = Some target; round = Idle }, Placed)
gathers m query target [] (prefix ∷ prefixes) = (record m { round = Gathering query target [] (prefix ∷ prefixes) }, Taken)
gathers m query target (path ∷ paths) prefixes = (record m { round = Gathering query target (path ∷ paths) prefixes }, Taken)

-- a whole list replaces all that was held
abbrev pub emptied : MirrorState → MirrorState
emptied m = record m { files = no_files; place = None }

abbrev pub listed : MirrorState → Request → Query → Position → List (List ℕ) → MirrorState × Outcome
listed m (Basis asked patterns) query target paths = taken_if (same_query query asked) m (gathers (emptied m) asked target (distinct paths) [])
listed m (Poll asked since patterns) query target paths = (m, Ignored)
listed m (Fetch asked path) query target paths = (m, Ignored)
listed m (Below asked prefix patterns) query target paths = (m, Ignored)

abbrev pub changed : MirrorState → Request → Query → Position → List (List ℕ) → List (List ℕ) → MirrorState × Outcome
changed m (Basis asked patterns) query target paths prefixes = (m, Ignored)
changed m (Poll asked since patterns) query target paths prefixes =
    taken_if (same_query query asked) m (gathers m asked target (distinct paths) (distinct prefixes))
changed m (Fetch asked path) query target paths prefixes = (m, Ignored)
changed m (Below asked prefix patterns) query target paths prefixes = (m, Ignored)

-- a position that cannot be followed is given up, and the files stay; a list that is too
-- long leaves the position
abbrev pub refused : MirrorState → Cause → MirrorState × Outcome
refused m (Stale generation) = (record m { place = None; round = Idle }, Unplaced)
refused m (Ahead head) = (record m { place = None; round = Idle }, Unplaced)
refused m (Truncated floor) = (record m { place = None; round = Idle }, Unplaced)
refused m TooLarge = (record m { round = Idle }, Ended)

abbrev pub query_of : Request → Query
query_of (Basis query patterns) = query
query_of (Poll query since patterns) = query
query_of (Fetch query path) = query
query_of (Below query prefix patterns) = query

-- a content, or a list of a directory, counts: it has the round's query, it is of the
-- target's generation and not older than the target, and its path or directory is awaited
abbrev pub counts : Query → Position → List (List ℕ) → Query → Position → List ℕ → Bool
counts asked target awaited query position path =
    same_query query asked && position.generation == target.generation && nat_le target.sequence position.sequence && is_among path awaited

-- the content is put at its path, which is no longer awaited
abbrev pub fetched : MirrorState → Query → Position → List (List ℕ) → List (List ℕ) → List ℕ → Option Content → MirrorState × Outcome
fetched m asked target awaited prefixes path content =
    gathers (record m { files = put_option m.files path content }) asked target (without path awaited) prefixes

-- the files, without those below a directory that are not among these paths
abbrev pub listed_files : FileMap → List ℕ → List (List ℕ) → FileMap
listed_files files prefix paths = retain_keys files (λ path. not (lies_below path prefix) || is_among path paths)

-- files below the directory that are not listed are removed; each listed path is awaited
-- if it was not yet; and the directory is no longer awaited
abbrev pub listed_below : MirrorState → Query → Position → List (List ℕ) → List (List ℕ) → List ℕ → List (List ℕ) → MirrorState × Outcome
listed_below m asked target awaited prefixes prefix paths =
    gathers (record m { files = listed_files m.files prefix paths }) asked target (distinct (awaited ++ paths)) (without prefix prefixes)

-- a list that would be too long ends the round that waits for one, and leaves the place
abbrev pub ends_round : List (List ℕ) → Cause → Bool
ends_round (prefix ∷ prefixes) TooLarge = true
ends_round prefixes cause = false

-- by the reply and the round
abbrev pub delivered_in : MirrorState → Round → Reply → MirrorState × Outcome
delivered_in m (Asked request) (BasisIs query position paths) = listed m request query position paths
delivered_in m (Asked request) (ChangesAre query target marked prefixes) = changed m request query target (paths_of marked) prefixes
delivered_in m (Asked request) (Refused query cause) = taken_if (same_query query (query_of request)) m (refused m cause)
delivered_in m (Gathering asked target awaited prefixes) (ContentIs query position path content) =
    taken_if (counts asked target awaited query position path) m (fetched m asked target awaited prefixes path content)
delivered_in m (Gathering asked target awaited prefixes) (ListIs query position prefix paths) =
    taken_if (counts asked target prefixes query position prefix) m (listed_below m asked target awaited prefixes prefix paths)
delivered_in m (Gathering asked target awaited prefixes) (Refused query cause) =
    taken_if (same_query query asked && ends_round prefixes cause) m (record m { round = Idle }, Ended)
delivered_in m round reply = (m, Ignored)

unfoldable pub delivered : MirrorState → Reply → MirrorState × Outcome
delivered m reply = delivered_in m m.round reply

-- ---- another filter

-- the files were those of the old filter; the number stays, so that no later round is
-- taken for an earlier one
unfoldable pub refiltered : MirrorState → Patterns → MirrorState
refiltered m patterns = record m { patterns = patterns; files = no_files; place = None; round = Idle }
