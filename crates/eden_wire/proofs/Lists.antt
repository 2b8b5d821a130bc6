-- How many items a list has whose bytes fit a body.
use Rattle.std.proofs.Common.{ℕ, ◌<◌, ◌≤◌, List, [], ◌∷◌, ◌++◌, length, ◌^◌, Option, arith, ap}
use Rattle.std.specs.Int.{w16, w32, to_be_bytes}
use Rattle.std.specs.List.{flat_map}
use Rattle.std.proofs.lemmas.List.{length-append}
use Rattle.std.proofs.lemmas.List.Concat.{flat_map-cons}
use Rattle.eden_ids.specs.declared.content.Content.{Content}
use Rattle.eden_history.specs.declared.mark.Marked.{Marked}
use Rattle.eden_history.specs.declared.position.Position.{Position}
use Rattle.eden_messages.specs.declared.message.Query.{Query}
use Rattle.eden_messages.specs.declared.message.Reply.TheVariants.{BasisIs, ChangesAre, ContentIs, ListIs}
use Rattle.eden_messages.specs.Spells.{query_bytes, position_bytes, text_bytes, marked_bytes, list_bytes, content_bytes, reply_bytes}
use Rattle.eden_wire.specs.declared.attributes.AttributesAre.{AttributesAre}
use Rattle.eden_history.specs.declared.described.Described.{Described}
use Rattle.eden_wire.specs.declared.status.StatusIs.{StatusIs}
use Rattle.eden_wire.specs.Attributes.{attributes_bytes, described_bytes}
use Rattle.eden_wire.specs.Formats.{optional}
use Rattle.eden_wire.specs.Messages.{path}
use Rattle.eden_wire.specs.Stats.{stat}
use Rattle.eden_wire.specs.Statuses.{status_bytes}
use Rattle.eden_messages.proofs.BodyLengths.{basis_len, changes_len, content_len, list_len}

-- each marked path takes a byte at least
marks_len : (list : List Marked) → length list ≤ length (flat_map marked_bytes list)
marks_len [] = omega arith
marks_len (m ∷ ms) = omega (arith, ap length (flat_map-cons marked_bytes m ms), length-append (marked_bytes m) (flat_map marked_bytes ms), marks_len ms)

-- and so does each path
pub paths_len : (paths : List (List ℕ)) → length paths ≤ length (flat_map text_bytes paths)
paths_len [] = omega arith
paths_len (p ∷ ps) = omega (arith, ap length (flat_map-cons text_bytes p ps), length-append (text_bytes p) (flat_map text_bytes ps), paths_len ps)

pub list_few : (query : Query) (target : Position) (list : List Marked) (prefixes : List (List ℕ))
    → length (reply_bytes (ChangesAre query target list prefixes)) ≤ 16777216 → length list < 2 ^ 32
list_few query target list prefixes fits = omega (arith, fits, changes_len query target list prefixes, marks_len list)

pub prefixes_few : (query : Query) (target : Position) (list : List Marked) (prefixes : List (List ℕ))
    → length (reply_bytes (ChangesAre query target list prefixes)) ≤ 16777216 → length prefixes < 2 ^ 32
prefixes_few query target list prefixes fits = omega (arith, fits, changes_len query target list prefixes, paths_len prefixes)

pub paths_few : (query : Query) (position : Position) (paths : List (List ℕ)) → length (reply_bytes (BasisIs query position paths)) ≤ 16777216 → length paths < 2 ^ 32
paths_few query position paths fits = omega (arith, fits, basis_len query position paths, paths_len paths)

pub below_few : (query : Query) (position : Position) (prefix : List ℕ) (paths : List (List ℕ))
    → length (reply_bytes (ListIs query position prefix paths)) ≤ 16777216 → length paths < 2 ^ 32
below_few query position prefix paths fits = omega (arith, fits, list_len query position prefix paths, paths_len paths)

pub content_few : (query : Query) (position : Position) (path : List ℕ) (content : Option Content)
    → length (reply_bytes (ContentIs query position path content)) ≤ 16777216 → length (content_bytes content) ≤ 16777216
content_few query position path content fits = omega (arith, fits, content_len query position path content)

pub marked_few : (s : StatusIs) → length (status_bytes s) ≤ 16777216 → length s.marked < 2 ^ 32
marked_few s fits =
    omega (
      arith,
      fits,
      length-append (query_bytes s.query) (position_bytes s.position ++ list_bytes s.marked),
      length-append (position_bytes s.position) (list_bytes s.marked),
      length-append (to_be_bytes w32 (length s.marked)) (flat_map marked_bytes s.marked),
      marks_len s.marked,
    )

-- each file takes a byte at least
files_len : (files : List Described) → length files ≤ length (flat_map described_bytes files)
files_len [] = omega arith
files_len (d ∷ ds) =
    omega (
      arith,
      ap length (flat_map-cons described_bytes d ds),
      length-append (described_bytes d) (flat_map described_bytes ds),
      length-append (text_bytes d.path) (stat.spell d.stat),
      length-append (to_be_bytes w16 (length d.path)) d.path,
      files_len ds,
    )

pub files_few : (a : AttributesAre) → length (attributes_bytes a) ≤ 16777216 → length a.files < 2 ^ 32
files_few a fits =
    let prefix = (optional path).spell a.prefix in
    let files = to_be_bytes w32 (length a.files) ++ flat_map described_bytes a.files in
    omega (
      arith,
      fits,
      length-append (query_bytes a.query) (position_bytes a.position ++ (prefix ++ files)),
      length-append (position_bytes a.position) (prefix ++ files),
      length-append prefix files,
      length-append (to_be_bytes w32 (length a.files)) (flat_map described_bytes a.files),
      files_len a.files,
    )
