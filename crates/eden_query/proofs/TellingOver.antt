-- What was held gives the same reply over a store with more objects.
use Rattle.std.proofs.Common.{◌≡◌, ℕ, true, ◌&&◌, List, [], ◌∷◌, ◌++◌, map, Option, Some, None, refl, sym, ap, subst, ◌∙◌}
use Rattle.std.specs.Prelude.{IsSome, is_some, filter}
use Rattle.std.specs.List.{list_all}
use Rattle.std.proofs.lemmas.Bool.{and_parts}
use Rattle.eden_globs.specs.Filters.{Patterns, admits}
use Rattle.eden_ids.specs.declared.id.Id.{Id}
use Rattle.eden_ids.specs.FileMaps.{FileMap, PathSet, differ, listing, union}
use Rattle.eden_history.specs.Changes.{below}
use Rattle.eden_history.specs.Marks.{admitted, mark_said}
use Rattle.eden_history.specs.Said.{by_root, by_touch, ends}
use Rattle.eden_messages.specs.declared.message.Reply.TheVariants.{BasisIs, ChangesAre, ListIs}
use Rattle.eden_messages.specs.Replies.{admitted_paths, bounded}
use Rattle.eden_renames.specs.Renames.{at_paths, seen_through}
use Rattle.eden_objects.specs.Closed.{IsClosed}
use Rattle.eden_objects.specs.Commits.{commit_map}
use Rattle.eden_objects.specs.Files.{files_of}
use Rattle.eden_objects.specs.Laws.{HasAll}
use Rattle.eden_objects.specs.Objects.{Held}
use Rattle.eden_objects.proofs.Grown.{maps_stay}
use Rattle.eden_ranges.specs.Expanded.{are_commits, differing, differing_after}
use Rattle.eden_overlay.specs.Layers.{over}
use Rattle.eden_accumulate.specs.declared.snapshot.Snapshot.{Snapshot}
use Rattle.eden_history.specs.Worlds.{Namer}
use Rattle.eden_messages.specs.Spells.{reply_bytes}
use Rattle.eden_wire.specs.declared.question.Wants.{Wants}
use Rattle.eden_wire.specs.declared.question.Wants.TheVariants as wants
use Rattle.eden_wire.specs.Wanted.{attributes_said, stat_said, status_said}
use Rattle.eden_query.specs.Raws.{NamesCommits, SaysOver, StaysAnswerable, TellsOver, attributes_told, status_told, told, wanted_told}
use Rattle.eden_query.specs.declared.raw.Raw.{Raw}
use Rattle.eden_query.specs.declared.raw.Raw.TheVariants as raw
use Rattle.eden_query.proofs.Telling.{named_answerable}

-- the files that a snapshot shows over those of its commit
abbrev shown_of : Snapshot → Option FileMap → FileMap
shown_of snapshot files = over (at_paths (seen_through (files_of files) snapshot.renames)) snapshot.overlay

module _ (held more : List Held) (closed : IsClosed held) (grown : IsClosed more) (all : HasAll held more) where
  same_commit : (commit : Id) → IsSome (commit_map held commit) → commit_map more commit ≡ commit_map held commit
  same_commit commit there = by (commit_map held commit) refl there
    where
      by : (files : Option FileMap) → commit_map held commit ≡ files → IsSome files → commit_map more commit ≡ files
      by (Some files) e h = maps_stay held more closed grown all commit files e
      by None e h = absurd cc

  same_after : (root : Id) (roots : List Id) → IsSome (commit_map held root) → are_commits (commit_map held) roots ≡ true
      → differing_after (commit_map more) root roots ≡ differing_after (commit_map held) root roots
  same_after root [] here there = refl
  same_after root (next ∷ roots) here there =
      let parts = and_parts (is_some (commit_map held next)) (list_all (λ id. is_some (commit_map held id)) roots) there in
      λ i. union (differ (files_of (same_commit root here i)) (files_of (same_commit next parts.0 i))) (same_after next roots parts.0 parts.1 i)

  same_differing : (roots : List Id) → are_commits (commit_map held) roots ≡ true → differing (commit_map more) roots ≡ differing (commit_map held) roots
  same_differing [] there = refl
  same_differing (root ∷ roots) there =
      let parts = and_parts (is_some (commit_map held root)) (list_all (λ id. is_some (commit_map held id)) roots) there in
      same_after root roots parts.0 parts.1

  same_told : (patterns : Patterns) (raw : Raw) → NamesCommits (commit_map held) raw → told more patterns raw ≡ told held patterns raw
  same_told patterns (raw.Ranged query range) names =
      ap (λ (paths : PathSet). bounded query (ChangesAre query range.to
      (admitted patterns (map mark_said (ends (map by_touch range.changes ++ map by_root (range.unclean ++ listing paths))))) range.prefixes))
      (same_differing range.roots names.0)
  same_told patterns (raw.Based query snapshot) names =
      ap (λ (files : Option FileMap). bounded query (BasisIs query snapshot.position (admitted_paths patterns (shown_of snapshot files)))) (same_commit snapshot.position.root names)
  same_told patterns (raw.Held query position path content) names = refl
  same_told patterns (raw.Listed query snapshot prefix) names =
      ap (λ (files : Option FileMap). bounded query (ListIs query snapshot.position prefix (below prefix (admitted_paths patterns (shown_of snapshot files)))))
      (same_commit snapshot.position.root names)
  same_told patterns (raw.Refused query cause) names = refl

  same_attributes : (name : Namer) (patterns : Patterns) (raw : Raw) → NamesCommits (commit_map held) raw → attributes_told name more patterns raw ≡ attributes_told name held patterns raw
  same_attributes name patterns (raw.Ranged query range) names = ap reply_bytes (same_told patterns (raw.Ranged query range) names)
  same_attributes name patterns (raw.Based query snapshot) names =
      ap (λ (files : Option FileMap). attributes_said name query snapshot.position None patterns (shown_of snapshot files)) (same_commit snapshot.position.root names)
  same_attributes name patterns (raw.Held query position path content) names = refl
  same_attributes name patterns (raw.Listed query snapshot prefix) names =
      ap (λ (files : Option FileMap). attributes_said name query snapshot.position (Some prefix) patterns (shown_of snapshot files)) (same_commit snapshot.position.root names)
  same_attributes name patterns (raw.Refused query cause) names = refl

  same_status : (patterns : Patterns) (raw : Raw) → NamesCommits (commit_map held) raw → status_told more patterns raw ≡ status_told held patterns raw
  same_status patterns (raw.Ranged query range) names = ap reply_bytes (same_told patterns (raw.Ranged query range) names)
  same_status patterns (raw.Based query snapshot) names =
      ap (λ (files : Option FileMap). status_said query snapshot.position patterns (shown_of snapshot files) (files_of files)) (same_commit snapshot.position.root names)
  same_status patterns (raw.Held query position path content) names = refl
  same_status patterns (raw.Listed query snapshot prefix) names = ap reply_bytes (same_told patterns (raw.Listed query snapshot prefix) names)
  same_status patterns (raw.Refused query cause) names = refl

  same_wanted : (name : Namer) (patterns : Patterns) (wants : Wants) (raw : Raw) → NamesCommits (commit_map held) raw
      → wanted_told name more patterns wants raw ≡ wanted_told name held patterns wants raw
  same_wanted name patterns wants.Whole raw names = ap reply_bytes (same_told patterns raw names)
  same_wanted name patterns wants.Stat raw names = ap (stat_said name) (same_told patterns raw names)
  same_wanted name patterns wants.Attributes raw names = same_attributes name patterns raw names
  same_wanted name patterns wants.Status raw names = same_status patterns raw names

  commit_stays : (commit : Id) → IsSome (commit_map held commit) → IsSome (commit_map more commit)
  commit_stays commit there = subst IsSome (sym (same_commit commit there)) there

  commits_stay : (roots : List Id) → are_commits (commit_map held) roots ≡ true → are_commits (commit_map more) roots ≡ true
  commits_stay [] there = refl
  commits_stay (root ∷ roots) there =
      let parts = and_parts (is_some (commit_map held root)) (list_all (λ id. is_some (commit_map held id)) roots) there in
      ap (λ b. b && list_all (λ id. is_some (commit_map more id)) roots) (commit_stays root parts.0) ∙ commits_stay roots parts.1

  names_stay : (raw : Raw) → NamesCommits (commit_map held) raw → NamesCommits (commit_map more) raw
  names_stay (raw.Ranged query range) names = (commits_stay range.roots names.0, commit_stays range.to.root names.1)
  names_stay (raw.Based query snapshot) names = commit_stays snapshot.position.root names
  names_stay (raw.Held query position path content) names = commit_stays position.root names
  names_stay (raw.Listed query snapshot prefix) names = commit_stays snapshot.position.root names
  names_stay (raw.Refused query cause) names = names

pub tells_over : TellsOver
tells_over held more closed grown all patterns asked names = same_told held more closed grown all patterns asked names

pub says_over : SaysOver
says_over name held more closed grown all patterns wants asked names = same_wanted held more closed grown all name patterns wants asked names

pub stays_answerable : StaysAnswerable
stays_answerable held more closed grown all asked names = named_answerable (commit_map more) asked (names_stay held more closed grown all asked names)
