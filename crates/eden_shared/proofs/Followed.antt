-- What an audit and the check of a follower say together.
use Rattle.std.proofs.Common.{List, None, sym, ap, ◌∙◌, subst}
use Rattle.std.specs.Prelude.{if◌then◌else◌}
use Rattle.eden_accumulate.proofs.Standing.{sequence_is}
use Rattle.eden_accumulate.specs.Mounts.{State, StandsFor}
use Rattle.eden_globs.specs.Filters.{admits}
use Rattle.eden_headline.specs.Headline.{AgreesAtHead}
use Rattle.eden_headline.specs.Merges.{GoesWith}
use Rattle.eden_history.specs.Worlds.{Namer, WorldState}
use Rattle.eden_headline.specs.declared.note.Note.{Note}
use Rattle.eden_ids.specs.FileMaps.{FileMap, file_at}
use Rattle.eden_logs.specs.declared.log.CallLog.{CallLog}
use Rattle.eden_messages.specs.Mirrors.{MirrorState}
use Rattle.eden_objects.specs.Objects.{Held}
use Rattle.eden_objects.specs.Closed.{AllNamed}
use Rattle.eden_shared.specs.Audits.{OpensWorlds, Replays, Stored}
use Rattle.eden_logs.specs.Histories.{replay}
use Rattle.eden_shared.specs.Followings.{AgreesAlong, FollowsHistory, HoldsAtHead}

-- a world whose present is a mount over objects that the naming names has the naming's ids
pub opens_worlds : (name : Namer) (opening : State) → AllNamed name opening.held → OpensWorlds name opening
opens_worlds name opening named world h =
    let is = h.is_world.1 in
    record { closed = is.closed; named = subst (λ (held : List Held). AllNamed name held) h.held named; legal = is.legal; begins = is.begins; number = is.number }

pub follows_history : (name : Namer) (stored : Stored) (logs : List CallLog) (m : MirrorState) (notes : List Note) → OpensWorlds name stored.opening → Replays name stored
    → AgreesAlong name stored logs → GoesWith logs m notes → FollowsHistory name stored m
follows_history name stored logs m notes opens replays agree goes world h =
    (goes name world stored.entries (opens world h) (replays.legal world h) (agree world h)).faithful

-- a mirror that agrees at its head with a world whose present a mount is, holds the mount's files there
held_at_head : (mount : State) (world : WorldState) (m : MirrorState) → StandsFor mount world → AgreesAtHead world m → HoldsAtHead mount m
held_at_head mount world m h agrees place placed head path =
    agrees place placed (record { generation = head.generation ∙ h.log.generation; sequence = head.sequence ∙ sequence_is mount world h }) path
    ∙ ap (λ (files : FileMap). if admits m.patterns path then file_at files path else None) (sym h.files)

holds_at_head : (name : Namer) (stored : Stored) (m : MirrorState) → Replays name stored → FollowsHistory name stored m → HoldsAtHead stored.present m
holds_at_head name stored m replays follows =
    let world = replays.some.0 in
    let h = replays.some.1 in
    held_at_head stored.present (replay name world stored.entries) m (replays.present world h) (follows world h).at_head

pub head_holds : (name : Namer) (stored : Stored) (logs : List CallLog) (m : MirrorState) (notes : List Note) → OpensWorlds name stored.opening → Replays name stored
    → AgreesAlong name stored logs → GoesWith logs m notes → HoldsAtHead stored.present m
head_holds name stored logs m notes opens replays agree goes =
    holds_at_head name stored m replays (follows_history name stored logs m notes opens replays agree goes)
