-- The laws of a reply to a Stat, to attributes and to a status, and what a call wrote of each.
use Rattle.std.proofs.Common.{◌≡◌, ℕ, ◌≤◌, List, ◌∷◌, ◌++◌, length, Option, None, Result, Ok, Err, refl, sym, ap, ◌∙◌}
use Rattle.std.specs.Prelude.{OnOk}
use Rattle.eden_history.specs.declared.mark.Marked.{Marked}
use Rattle.eden_stream.specs.Frames.{body_limit, frame}
use Rattle.eden_messages.specs.declared.message.Query.{Query}
use Rattle.eden_wire.specs.declared.attributes.AttributesAre.{AttributesAre}
use Rattle.eden_history.specs.declared.described.Described.{Described}
use Rattle.eden_objects.specs.declared.stat.Stat.{Stat}
use Rattle.eden_wire.specs.declared.stat.StatIs.{StatIs}
use Rattle.eden_wire.specs.declared.status.StatusIs.{StatusIs}
use Rattle.eden_wire.specs.Attributes.{attributes_are, file_within, files_within}
use Rattle.eden_wire.specs.Formats.{Format}
use Rattle.eden_wire.specs.Messages.{path, is_within}
use Rattle.eden_wire.specs.Reading.{Spells}
use Rattle.eden_wire.specs.Stats.{SpellsStat, stat, stat_bytes, stat_is}
use Rattle.eden_wire.specs.Statuses.{status_is}
use Rattle.eden_wire.specs.Wanted.{or_refused}
use Rattle.eden_wire.proofs.FormatLaws.{Laws, and_laws, as_type_laws, only_laws, then_laws}
use Rattle.eden_wire.proofs.ListLaws.{list_laws}
use Rattle.eden_wire.proofs.MessageLaws.{u32, query_laws, position_laws, id_laws, kind_laws, path_laws, marked_paths_laws}
use Rattle.eden_wire.proofs.TagLaws.{optional_laws}
use Rattle.eden_wire.proofs.Written.{kept_body}

stat_laws : Laws Stat stat
stat_laws = as_type_laws _ (and_laws _ kind_laws _ (and_laws _ u32 _ id_laws)) _ _ (λ x fits. refl) (λ s. refl)

pub stat_is_laws : Laws StatIs stat_is
stat_is_laws =
    as_type_laws _ (and_laws _ query_laws _ (and_laws _ position_laws _ (and_laws _ path_laws _ (optional_laws stat stat_laws)))) _ _ (λ x fits. refl) (λ s. refl)

file_laws : (prefix : Option (List ℕ)) → Laws Described (file_within prefix)
file_laws prefix = as_type_laws _ (and_laws _ (only_laws _ path_laws _) _ stat_laws) _ _ (λ x fits. refl) (λ d. refl)

files_laws : (prefix : Option (List ℕ)) → Laws (List Described) (files_within prefix)
files_laws prefix = list_laws _ u32 _ (file_laws prefix) _

pub attributes_are_laws : Laws AttributesAre attributes_are
attributes_are_laws =
    as_type_laws _ (and_laws _ query_laws _ (and_laws _ position_laws _ (then_laws _ (optional_laws path path_laws) _ files_laws))) _ _ (λ x fits. refl) (λ a. refl)

pub status_is_laws : Laws StatusIs status_is
status_is_laws = as_type_laws _ (and_laws _ query_laws _ (and_laws _ position_laws _ marked_paths_laws)) _ _ (λ x fits. refl) (λ s. refl)

-- ---- what a call wrote

pub spells_framed : {X E : Type 0} (result : Result X E) (s : StatIs) (old new : List ℕ) → stat_is.fits s → length (stat_bytes s) ≤ 16777216
    → OnOk result (new ≡ old ++ frame (stat_bytes s)) → OnOk result ((body : List ℕ) × SpellsStat body s × (new ≡ old ++ frame body))
spells_framed (Ok x) s old new fields limit told = (stat_bytes s, record { fields = fields; bytes = refl; limit = limit }, told)
spells_framed (Err e) s old new fields limit told = told

-- a body that encodes the message was written as it is
pub spelled_framed : {A X E : Type 0} (tag : ℕ) (format : Format A) (message : A) (query : Query) (body : List ℕ) (result : Result X E) (old new : List ℕ)
    → Spells tag format body message → OnOk result (new ≡ old ++ frame (or_refused query (2 ∷ tag ∷ format.spell message))) → OnOk result (new ≡ old ++ frame body)
spelled_framed tag format message query body (Ok x) old new spells told =
    told ∙ ap (λ (b : List ℕ). old ++ frame (or_refused query b)) (sym spells.bytes) ∙ ap (λ (b : List ℕ). old ++ frame b) (kept_body query body spells.limit)
spelled_framed tag format message query body (Err e) old new spells told = told
