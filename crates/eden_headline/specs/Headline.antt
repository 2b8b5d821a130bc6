-- What holds of each mirror after every schedule. If a placed mirror differs from the
-- working copy at a path that it wants, a poll since its place reports the path, or is
-- refused.
use Rattle.std.specs.Prelude.{◌≡◌, ◌≢◌, ◌≤◌, ◌⊎◌, ℕ, true, ◌||◌, if◌then◌else◌, List, Some, None}
use Rattle.eden_ids.specs.FileMaps.{PathSet, file_at}
use Rattle.eden_globs.specs.Filters.{admits}
use Rattle.eden_history.specs.declared.answer.SinceFault.TheVariants as since
use Rattle.eden_messages.specs.declared.message.Query.{Query}
use Rattle.eden_messages.specs.declared.message.Reply.{Reply}
use Rattle.eden_messages.specs.declared.message.Reply.TheVariants.{BasisIs, ChangesAre, ContentIs, Refused, ListIs}
use Rattle.eden_messages.specs.declared.message.Request.TheVariants.{Poll}
use Rattle.eden_messages.specs.declared.message.Cause.{Cause}
use Rattle.eden_messages.specs.declared.message.Cause.TheVariants.{Stale, Ahead, Truncated, TooLarge}
use Rattle.eden_history.specs.declared.position.Position.{Position}
use Rattle.eden_history.specs.Changes.{below_any, is_among, named_since, prefixes_told}
use Rattle.eden_messages.specs.Mirrors.{MirrorState, is_among as is_listed}
use Rattle.eden_history.specs.Recorded.{floor_of}
use Rattle.eden_messages.specs.Replies.{reply_of}
use Rattle.eden_history.specs.Rows.{IsPlace, Stands}
use Rattle.eden_headline.specs.Schedules.{Scene}
use Rattle.eden_messages.specs.Spells.{paths_of}
use Rattle.eden_history.specs.Status.{status_of}
use Rattle.eden_history.specs.Worlds.{WorldState, now}

-- a path that a mirror wants and at which it does not hold what the working copy does
pub record Differs (world : WorldState) (m : MirrorState) (path : List ℕ) : Type 0 where
  pub wanted : admits m.patterns path ≡ true
  pub apart : file_at m.files path ≢ file_at (now world).files path

-- the paths named since a position, up to now
abbrev pub changes_after : WorldState → Position → PathSet
changes_after world place = named_since place.generation place.sequence (now world).sequence world.opening world.past

-- the directories that files were moved from or to since a position, up to now
abbrev pub prefixes_after : WorldState → Position → List (List ℕ)
prefixes_after world place = prefixes_told place.generation place.sequence (now world).sequence world.past

-- the position is refused: as stale, or as truncated
abbrev pub IsRefused : WorldState → Position → Type 0
IsRefused world place =
    (status_of world place ≡ Some (since.Stale (now world).generation)) ⊎ (status_of world place ≡ Some (since.Truncated (floor_of world)))

-- each path at which a placed mirror and the working copy differ is among the changes
-- since its place, or the place is refused. It is among them if it is named, or is below
-- a directory that files were moved from or to
abbrev pub IsCovered : WorldState → MirrorState → Type 0
IsCovered world m = (place : Position) (path : List ℕ) → m.place ≡ Some place → Differs world m path
    → (is_among (changes_after world place) (prefixes_after world place) path ≡ true) ⊎ IsRefused world place

-- the position is refused as stale or truncated, or the reply as too large
abbrev pub IsTellingCause : Cause → Type 0
IsTellingCause (Stale generation) = Unit {0}
IsTellingCause (Ahead head) = ⊥
IsTellingCause (Truncated floor) = Unit {0}
IsTellingCause TooLarge = Unit {0}

-- the reply lists the path among the changes, or a directory above it that files were
-- moved from or to, or is such a refusal
abbrev pub Tells : Reply → List ℕ → Type 0
Tells (BasisIs query position paths) path = ⊥
Tells (ChangesAre query target marked prefixes) path = (is_listed path (paths_of marked) || below_any prefixes path) ≡ true
Tells (ContentIs query position place content) path = ⊥
Tells (Refused query cause) path = IsTellingCause cause
Tells (ListIs query position prefix paths) path = ⊥

-- the mount's reply to a poll since the place reports each such path
abbrev pub IsTold : WorldState → MirrorState → Type 0
IsTold world m = (place : Position) (path : List ℕ) (query : Query) → m.place ≡ Some place → Differs world m path
    → Tells (reply_of world (Poll query place m.patterns)) path

-- the position is at the journal's head
pub record IsAtHead (world : WorldState) (place : Position) : Type 0 where
  pub generation : place.generation ≡ (now world).generation
  pub sequence : place.sequence ≡ (now world).sequence

-- a mirror at the head holds what the working copy does at the paths that it wants, and
-- nothing else
abbrev pub AgreesAtHead : WorldState → MirrorState → Type 0
AgreesAtHead world m = (place : Position) → m.place ≡ Some place → IsAtHead world place
    → (path : List ℕ) → file_at m.files path ≡ (if admits m.patterns path then file_at (now world).files path else None)

-- two mirrors at the head hold the same at the paths that both want
abbrev pub AgreeTogether : WorldState → MirrorState → MirrorState → Type 0
AgreeTogether world m n = (here there : Position) → m.place ≡ Some here → n.place ≡ Some there → IsAtHead world here → IsAtHead world there
    → (path : List ℕ) → admits m.patterns path ≡ true → admits n.patterns path ≡ true → file_at m.files path ≡ file_at n.files path

-- a mirror's place is that of a row of the world, and in the present generation not ahead
-- of the head
pub record IsReached (world : WorldState) (place : Position) : Type 0 where
  pub is_place : IsPlace world place
  pub in_time : place.generation ≡ (now world).generation → place.sequence ≤ (now world).sequence

abbrev pub HasPlace : WorldState → MirrorState → Type 0
HasPlace world m = (place : Position) → m.place ≡ Some place → IsReached world place

-- what a placed mirror holds at a path that it wants was there in some row of its place's
-- generation, at its place or after it
abbrev pub HasValues : WorldState → MirrorState → Type 0
HasValues world m = (place : Position) (path : List ℕ) → m.place ≡ Some place → admits m.patterns path ≡ true
    → Stands world place.generation place.sequence path (file_at m.files path)

-- ---- for all mirrors

abbrev pub OfMirrors : (WorldState → MirrorState → Type 0) → Scene → Type 0
OfMirrors Holds s = (id : ℕ) (m : MirrorState) → s.mirrors id ≡ Some m → Holds s.world m

abbrev pub OfPairs : (WorldState → MirrorState → MirrorState → Type 0) → Scene → Type 0
OfPairs Holds s = (id other : ℕ) (m n : MirrorState) → s.mirrors id ≡ Some m → s.mirrors other ≡ Some n → Holds s.world m n
