-- What is said to a question.
use Rattle.std.specs.Prelude.{ℕ, List, length, nat_lt, if◌then◌else◌, Option, Some, None}
use Rattle.std.specs.Option.{option_map}
use Rattle.eden_globs.specs.Filters.{Patterns}
use Rattle.eden_ids.specs.FileMaps.{FileMap}
use Rattle.eden_objects.specs.Files.{commit_files}
use Rattle.eden_objects.specs.Stats.{stat_of}
use Rattle.eden_history.specs.declared.described.Described.{Described}
use Rattle.eden_history.specs.declared.position.Position.{Position}
use Rattle.eden_history.specs.Described.{described, described_below}
use Rattle.eden_history.specs.DirtyFiles.{dirty_marks}
use Rattle.eden_history.specs.Worlds.{Namer, WorldState, now, position_of}
use Rattle.eden_messages.specs.declared.message.Cause.TheVariants.{TooLarge}
use Rattle.eden_messages.specs.declared.message.Query.{Query}
use Rattle.eden_messages.specs.declared.message.Reply.{Reply}
use Rattle.eden_messages.specs.declared.message.Reply.TheVariants.{BasisIs, ChangesAre, ContentIs, Refused, ListIs}
use Rattle.eden_messages.specs.declared.message.Request.{Request}
use Rattle.eden_messages.specs.declared.message.Request.TheVariants.{Basis, Poll, Fetch, List as Below}
use Rattle.eden_messages.specs.Replies.{reply_of}
use Rattle.eden_messages.specs.Spells.{reply_bytes}
use Rattle.eden_stream.specs.Frames.{body_limit}
use Rattle.eden_wire.specs.declared.question.Wants.{Wants}
use Rattle.eden_wire.specs.declared.question.Wants.TheVariants as wants
use Rattle.eden_wire.specs.Attributes.{attributes_bytes}
use Rattle.eden_wire.specs.Stats.{stat_bytes}
use Rattle.eden_wire.specs.Statuses.{status_bytes}

-- a body, or a refusal if the body would be too long
abbrev pub or_refused : Query → List ℕ → List ℕ
or_refused query body = if nat_lt body_limit (length body) then reply_bytes (Refused query TooLarge) else body

-- ---- what follows from a reply

-- what is said of a reply when the bytes of a file are not wanted: it is another body only if the
-- reply is a content
abbrev pub stat_said : Namer → Reply → List ℕ
stat_said name (BasisIs q s ps) = reply_bytes (BasisIs q s ps)
stat_said name (ChangesAre q s ms ps) = reply_bytes (ChangesAre q s ms ps)
stat_said name (ContentIs q s p c) = stat_bytes (record { query = q; position = s; path = p; stat = option_map (stat_of name) c })
stat_said name (Refused q c) = reply_bytes (Refused q c)
stat_said name (ListIs q s p ps) = reply_bytes (ListIs q s p ps)

-- the body that is said of a reply alone; more of its files, or another list of paths, is none
abbrev pub said : Namer → Wants → Reply → List ℕ
said name wants.Whole reply = reply_bytes reply
said name wants.Stat reply = stat_said name reply
said name wants.Attributes reply = reply_bytes reply
said name wants.Status reply = reply_bytes reply

-- ---- what follows from the files

-- those files that are below the prefix, if there is one
abbrev pub files_below : Option (List ℕ) → List Described → List Described
files_below None files = files
files_below (Some prefix) files = described_below prefix files

-- the files that a filter admits, without their bytes
abbrev pub attributes_said : Namer → Query → Position → Option (List ℕ) → Patterns → FileMap → List ℕ
attributes_said name q s prefix f files = or_refused q (attributes_bytes (record { query = q; position = s; prefix = prefix; files = files_below prefix (described name f files) }))

-- the paths that a filter admits and at which the files are not the commit's, each with its mark
abbrev pub status_said : Query → Position → Patterns → FileMap → FileMap → List ℕ
status_said q s f files root = or_refused q (status_bytes (record { query = q; position = s; marked = dirty_marks files root f }))

-- ---- what a world says

-- to a Basis, or to the List of a prefix, whose files are wanted too; to another request its reply
abbrev pub attributes_of : Namer → WorldState → Request → List ℕ
attributes_of name world (Basis q f) = attributes_said name q (position_of (now world)) None f (now world).files
attributes_of name world (Poll q since f) = reply_bytes (reply_of world (Poll q since f))
attributes_of name world (Fetch q p) = reply_bytes (reply_of world (Fetch q p))
attributes_of name world (Below q prefix f) = attributes_said name q (position_of (now world)) (Some prefix) f (now world).files

-- to a Basis in whose place a status is wanted; to another request its reply
abbrev pub status_in : WorldState → Request → List ℕ
status_in world (Basis q f) = status_said q (position_of (now world)) f (now world).files (commit_files world.held (now world).root)
status_in world (Poll q since f) = reply_bytes (reply_of world (Poll q since f))
status_in world (Fetch q p) = reply_bytes (reply_of world (Fetch q p))
status_in world (Below q prefix f) = reply_bytes (reply_of world (Below q prefix f))

-- the body that is said to a request, by what is wanted of the reply
abbrev pub wanted_of : Namer → WorldState → Wants → Request → List ℕ
wanted_of name world wants.Whole request = reply_bytes (reply_of world request)
wanted_of name world wants.Stat request = stat_said name (reply_of world request)
wanted_of name world wants.Attributes request = attributes_of name world request
wanted_of name world wants.Status request = status_in world request
