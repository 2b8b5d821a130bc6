-- What a world answers to a change can be encoded.
use Rattle.std.proofs.Common.{◌≡◌, ℕ, ◌+◌, ◌-◌, ◌^◌, ◌≤◌, min, Bool, true, false, nat_lt, List, [], ◌∷◌, length, Some, None, Ok, Err, refl, sym, ap, subst, arith}
use Rattle.std.specs.Prelude.{if◌then◌else◌}
use Rattle.std.specs.Int.{w32}
use Rattle.std.specs.List.{AllByRecursion}
use Rattle.std.specs.List.Sorted.{IsStrictlySortedBy}
use Rattle.std.specs.Ordering.{is_lt}
use Rattle.eden_ids.specs.Texts.{IsPathText}
use Rattle.eden_ids.proofs.ByteOrder.{fin_keys_rise, order}
use Rattle.eden_objects.specs.Files.{files_of}
use Rattle.eden_objects.specs.Imports.{Imported, import_outcome}
use Rattle.eden_objects.specs.declared.import.ImportFault.TheVariants as imports
use Rattle.eden_history.specs.declared.answer.Answer.TheVariants as answers
use Rattle.eden_history.specs.declared.change.Change.{Change}
use Rattle.eden_history.specs.declared.change.Change.TheVariants.{Checkout, Import}
use Rattle.eden_history.specs.declared.position.Position.{Position}
use Rattle.eden_history.specs.Checkouts.{conflicts}
use Rattle.eden_history.specs.Outcome.{Outcome, answer_at, answered, import_answer, outcome}
use Rattle.eden_history.specs.Outcome.Outcome.{Refuses, NoEvent, Next}
use Rattle.eden_history.specs.Worlds.{Row, Commits, commits_of, now, position_of}
use Rattle.eden_wire.specs.declared.done.Done.{Done}
use Rattle.eden_wire.specs.declared.done.Done.TheVariants.{Checked, Conflicting}
use Rattle.eden_wire.specs.Commands.{AnswersListInOrder, ListsInOrder, done, done_of}
use Rattle.eden_wire.specs.Formats.{Follow, number}
use Rattle.eden_wire.specs.Messages.{is_above, position}
use Rattle.eden_wire.proofs.DoneLaws.{conflicts_few}
use Rattle.eden_wire.proofs.Same.{paths_fit, within_any}
use Rattle.eden_stream.specs.Frames.{body_limit}

-- ---- conflicts are in order

-- paths in byte order follow one another
rise_after : (p : List ℕ) (ps : List (List ℕ)) → IsStrictlySortedBy order (p ∷ ps) → Follow is_above (Some p) ps
unfolding IsStrictlySortedBy
rise_after p [] rise = tt
rise_after p (q ∷ ps) rise = (ap is_lt rise.0.0, rise_after q ps rise.1)

rise_follow : (ps : List (List ℕ)) → IsStrictlySortedBy order ps → Follow is_above None ps
rise_follow [] rise = tt
rise_follow (p ∷ ps) rise = (refl, rise_after p ps rise)

checked_in_order : (at : Position) (paths : List (List ℕ)) → Follow is_above None paths → ListsInOrder (done_of (answers.Checked at paths))
checked_in_order at paths ascend = by (nat_lt body_limit (26 + length (done.spell (Checked at paths))))
  where
    by : (long : Bool) → ListsInOrder (if long then Conflicting at (min (length paths) (2 ^ 32 - 1)) else Checked at paths)
    by true = tt
    by false = ascend

at_in_order : (commits : Commits) (row : Row) (change : Change) (at : Position) → ListsInOrder (done_of (answer_at commits row change at))
at_in_order commits row (Checkout commit mode) at =
    checked_in_order at _ (rise_follow _ (fin_keys_rise (conflicts row.files (files_of (commits row.root)) (files_of (commits commit)))))
at_in_order commits row change at = tt

answered_in_order : (commits : Commits) (row : Row) (change : Change) (made : Outcome) → ListsInOrder (done_of (answered commits row change made))
answered_in_order commits row change (Refuses why) = tt
answered_in_order commits row change NoEvent = at_in_order commits row change (position_of row)
answered_in_order commits row change (Next event) = at_in_order commits row change (position_of event.row)

import_in_order : (place : Position) (imported : Imported) → ListsInOrder (done_of (import_answer place imported))
import_in_order place (Ok held) = tt
import_in_order place (Err (imports.BadObject index why)) = tt
import_in_order place (Err imports.NoMemory) = tt

pub answers_in_order : AnswersListInOrder
answers_in_order name world (Import objects) = import_in_order (position_of (now world)) (import_outcome name objects world.held)
answers_in_order name world change = answered_in_order (commits_of world) (now world) change (outcome (commits_of world) (now world) change)

-- ---- the parts of an answer

pub checked_fits : (d : Done) (at : Position) (paths : List (List ℕ)) → d ≡ Checked at paths → length (done.spell d) ≤ body_limit
    → position.fits at → AllByRecursion IsPathText paths → ListsInOrder d → done.fits d
checked_fits d at paths is small fits texts ascend =
    let few = conflicts_few at paths (omega (arith, small, ap (λ (x : Done). length (done.spell x)) is)) in
    subst done.fits (sym is) (fits, (few, paths_fit None paths texts (within_any paths), subst ListsInOrder is ascend))

pub conflicting_fits : (d : Done) (at : Position) (count : ℕ) → d ≡ Conflicting at count → position.fits at → (number w32).fits count → ListsInOrder d → done.fits d
conflicting_fits d at count is fits few ascend = subst done.fits (sym is) (fits, few)
