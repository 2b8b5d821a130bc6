-- How long the bodies of questions and of what is said to them are.
use Rattle.std.proofs.Common.{◌≡◌, ℕ, ◌+◌, ◌≤◌, ◌<◌, List, ◌∷◌, length, get_or, take, Option, Some, None, refl, arith}
use Rattle.std.specs.List.{flat_map}
use Rattle.std.proofs.lemmas.List.{length-append}
use Rattle.eden_globs.specs.Filters.{Patterns}
use Rattle.eden_messages.specs.declared.message.Cause.TheVariants.{TooLarge}
use Rattle.eden_messages.specs.declared.message.Query.{Query}
use Rattle.eden_messages.specs.declared.message.Reply.TheVariants.{Refused}
use Rattle.eden_messages.specs.Spells.{excluded_bytes, filter_bytes, if_small, marked_bytes, reply_bytes, text_bytes}
use Rattle.eden_messages.proofs.BodyLengths.{front_small}
use Rattle.eden_wire.specs.declared.attributes.AttributesAre.{AttributesAre}
use Rattle.eden_history.specs.declared.described.Described.{Described}
use Rattle.eden_wire.specs.declared.question.Question.TheVariants as asks
use Rattle.eden_wire.specs.declared.status.StatusIs.{StatusIs}
use Rattle.eden_wire.specs.Attributes.{attributes_bytes, described_bytes}
use Rattle.eden_wire.specs.Formats.{optional}
use Rattle.eden_wire.specs.Messages.{path}
use Rattle.eden_wire.specs.Questions.{question_bytes}
use Rattle.eden_wire.specs.Statuses.{status_bytes}

pub attributes_len : (query : Query) (prefix : Option (List ℕ)) (filter : Patterns)
    → length (question_bytes (asks.Attributes query prefix filter))
    ≡ 26 + length ((optional path).spell prefix) + (length (excluded_bytes filter.excluded) + length (filter_bytes filter.included))
attributes_len query prefix filter = simp length-append (omega arith)

pub status_len : (query : Query) (filter : Patterns)
    → length (question_bytes (asks.Status query filter)) ≡ 26 + (length (excluded_bytes filter.excluded) + length (filter_bytes filter.included))
status_len query filter = simp length-append (omega arith)

pub described_len : (d : Described) → length d.stat.id.0 ≡ 20 → length (described_bytes d) ≡ length (text_bytes d.path) + 25
described_len d twenty = simp length-append (omega (arith, twenty))

pub attributes_are_len : (a : AttributesAre) → length a.position.root.0 ≡ 20
    → length (attributes_bytes a) ≡ 66 + length ((optional path).spell a.prefix) + length (flat_map described_bytes a.files)
attributes_are_len a root = simp length-append (omega (arith, root))

pub status_is_len : (s : StatusIs) → length s.position.root.0 ≡ 20 → length (status_bytes s) ≡ 66 + length (flat_map marked_bytes s.marked)
status_is_len s root = simp length-append (omega (arith, root))

pub files_front_small : (i : ℕ) (list : List Described) (file : Described) → i < length list → file ≡ get_or list i file
    → 16777216 < length (flat_map described_bytes (take i list)) + length (described_bytes file) → if_small (length (flat_map described_bytes list)) ≡ None
files_front_small i list file more is long = front_small described_bytes i list file more is long

pub too_large_fits : (query : Query) → length (reply_bytes (Refused query TooLarge)) ≤ 16777216
too_large_fits query = omega arith
