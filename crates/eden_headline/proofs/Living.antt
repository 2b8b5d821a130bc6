-- A mirror keeps its id, its life and its filter, whatever comes to it.
use Rattle.std.proofs.Common.{◌≡◌, Bool, true, false, ◌&&◌, List, [], ◌∷◌, ◌++◌, ℕ, if◌then◌else◌, refl}
use Rattle.eden_ids.specs.FileMaps.{put_option}
use Rattle.eden_globs.specs.Filters.{Patterns}
use Rattle.eden_history.specs.declared.position.Position.{Position}
use Rattle.eden_messages.specs.declared.message.Cause.{Cause}
use Rattle.eden_messages.specs.declared.message.Cause.TheVariants.{TooLarge}
use Rattle.eden_messages.specs.declared.message.Query.{Query}
use Rattle.eden_messages.specs.declared.message.Reply.{Reply}
use Rattle.eden_messages.specs.declared.message.Reply.TheVariants.{BasisIs, ChangesAre, ContentIs, Refused, ListIs}
use Rattle.eden_messages.specs.declared.message.Request.TheVariants.{Basis, Poll}
use Rattle.eden_messages.specs.declared.outcome.Outcome.{Outcome}
use Rattle.eden_messages.specs.declared.outcome.Outcome.TheVariants.{Ended}
use Rattle.eden_messages.specs.Mirrors.{MirrorState, Round, begun, counts, delivered, delivered_in, distinct, emptied, ends_round, gathers, has_number, listed_files, next_round, query_of, refused, same_query, taken_if, without}
use Rattle.eden_messages.specs.Mirrors.Round.{Idle, Asked, Gathering}
use Rattle.eden_messages.specs.Spells.{paths_of}

pub record Name : Type 0 where
  pub id : ℕ
  pub life : ℕ
  pub patterns : Patterns

abbrev pub name_of : MirrorState → Name
name_of m = record { id = m.id; life = m.life; patterns = m.patterns }

-- the same id, life and filter
abbrev pub KeepsName : MirrorState → MirrorState → Type 0
KeepsName m n = name_of n ≡ name_of m

pub begun_keeps : (m : MirrorState) → KeepsName m (begun m)
unfolding begun
begun_keeps m = by (has_number m)
  where
    by : (b : Bool) → KeepsName m (if b then next_round m else m)
    by true = refl
    by false = refl

gathers_keeps : (m : MirrorState) (query : Query) (target : Position) (awaited prefixes : List (List ℕ)) → KeepsName m (gathers m query target awaited prefixes).0
gathers_keeps m query target [] [] = refl
gathers_keeps m query target [] (prefix ∷ prefixes) = refl
gathers_keeps m query target (path ∷ paths) prefixes = refl

taken_keeps : (b : Bool) (m : MirrorState) (taken : MirrorState × Outcome) → KeepsName m taken.0 → KeepsName m (taken_if b m taken).0
taken_keeps true m taken is = is
taken_keeps false m taken is = refl

refused_keeps : (m : MirrorState) (cause : Cause) → KeepsName m (refused m cause).0
refused_keeps m TooLarge = refl
refused_keeps m cause = refl

in_round_keeps : (m : MirrorState) (round : Round) (reply : Reply) → KeepsName m (delivered_in m round reply).0
in_round_keeps m (Asked (Basis asked patterns)) (BasisIs query target paths) =
    taken_keeps (same_query query asked) m _ (gathers_keeps (emptied m) asked target (distinct paths) [])
in_round_keeps m (Asked (Poll asked since patterns)) (ChangesAre query target marked prefixes) =
    taken_keeps (same_query query asked) m _ (gathers_keeps m asked target (distinct (paths_of marked)) (distinct prefixes))
in_round_keeps m (Asked request) (Refused query cause) = taken_keeps (same_query query (query_of request)) m _ (refused_keeps m cause)
in_round_keeps m (Gathering asked target awaited prefixes) (ContentIs query position path content) =
    taken_keeps (counts asked target awaited query position path) m _
    (gathers_keeps (record m { files = put_option m.files path content }) asked target (without path awaited) prefixes)
in_round_keeps m (Gathering asked target awaited prefixes) (ListIs query position prefix paths) =
    taken_keeps (counts asked target prefixes query position prefix) m _
    (gathers_keeps (record m { files = listed_files m.files prefix paths }) asked target (distinct (awaited ++ paths)) (without prefix prefixes))
in_round_keeps m (Gathering asked target awaited prefixes) (Refused query cause) =
    taken_keeps (same_query query asked && ends_round prefixes cause) m (record m { round = Idle }, Ended) refl
in_round_keeps m round reply = refl

pub delivered_keeps : (m : MirrorState) (reply : Reply) → KeepsName m (delivered m reply).0
unfolding delivered
delivered_keeps m reply = in_round_keeps m m.round reply
