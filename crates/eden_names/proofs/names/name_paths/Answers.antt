use Rattle.std.proofs.Common.{◌≡◌, ℕ, List, ◌++◌, map, append_assoc, ap, ◌∙◌}
use Rattle.eden_ids.specs.FileMaps.{FileMap}
use Rattle.eden_objects.specs.Commits.{commit_map}
use Rattle.eden_journal.specs.declared.run.Run.{Run}
use Rattle.eden_journal.specs.Runs.{after}
use Rattle.eden_workcopy.specs.declared.work.WorkCopy.{WorkCopy}
use Rattle.eden_workcopy.specs.Meanings.{means}
use Rattle.eden_history.specs.Back.{places, was_all}
use Rattle.eden_history.specs.Marks.{admitted}
use Rattle.eden_ranges.specs.Expanded.{expanded}
use Rattle.eden_names.specs.Naming.{found_below, remarked, with_roots}
use Rattle.eden_names.proofs.Named.{remarked_admitted}
use Rattle.eden_names.proofs.names.name_paths.Goals as goal

pub returns-clause-named : goal.returns-clause-named
returns-clause-named g c =
    let held = c.args.store.now in
    let range = c.args.range in
    let wanted = c.args.wanted.now in
    let now : FileMap = means held c.args.work.now in
    let before : FileMap = means held c.in_ok-before.before in
    let unclean : c.from_vec.result ≡ range.unclean ++ (found_below range.prefixes now ++ found_below range.prefixes before) =
    c.from_vec.ensures
    ∙ c.in_ok-add_below-2.ensures
    ∙ (λ i. (c.in_ok-add_below.ensures ∙ (λ j. c.into_vec-paths.ensures j ++ found_below (c.as_slice.ensures j) now)) i ++ found_below (c.as_slice-2.ensures i) before)
    ∙ append_assoc range.unclean (found_below range.prefixes now) (found_below range.prefixes before) in (
      before,
      λ path.
          c.in_ok-before.ensures.places path
          ∙ ap (λ (work : WorkCopy). was_all (commit_map held) (map (λ (run : Run). run.what) (after range.from c.args.recent.now)) (places (means held work)) path) c.in_ok-copy.ensures,
      c.in_ok-marked-2.ensures
          ∙ (λ i. map (remarked (c.as_slice-3.ensures i) (places (c.over.ensures i)) (places (c.over-2.ensures i))) c.in_ok-marked.marked.items)
          ∙ ap (map (remarked range.prefixes (places before) (places now)))
          (c.in_ok-marked.ensures.marked ∙ ap (λ (paths : List (List ℕ)). admitted wanted (expanded held (record range { unclean = paths }))) unclean)
          ∙ remarked_admitted range.prefixes (places before) (places now) wanted
          (expanded held (with_roots range (found_below range.prefixes now ++ found_below range.prefixes before))),
    )
