-- What holds before a turn of the walk holds after it, whatever the pair is.
use Rattle.std.proofs.Common.{rules, ◌≡◌, ◌++◌, ◌∷◌, [], ℕ, true, false, length, map, take, ◌||◌, List, sym, ap, subst, ◌∙◌}
use Rattle.std.specs.Prelude.{IsSome}
use Rattle.eden_globs.specs.Filters.{admits}
use Rattle.eden_treediff.specs.internal.Settled.{is_known, is_settled}
use Rattle.eden_treediff.specs.internal.Walks.{directory_read}
use Rattle.eden_treediff.proofs.Blocks.{below}
use Rattle.eden_treediff.proofs.Leaving.{begins, ends, turn_of}
use Rattle.eden_treediff.proofs.Settling.{known_same, known_sides, none_inside, settled_more, some_path}
use Rattle.eden_treediff.proofs.Steps.{directory_is, one_file}
use Rattle.eden_treediff.proofs.Turns.{found_is_path, goes_on_file, goes_on_inside, goes_on_other, goes_on_outside, goes_on_same, inner_legal, step}
use Rattle.eden_treediff.proofs.difference.+walk.Given as given
use Rattle.eden_treediff.proofs.difference.+walk.Goals.{In-Some-2, then-is_one_tree-via-then-is_one_tree, then-is_one_tree-via-else-is_one_tree+then-has}
use Rattle.eden_treediff.proofs.difference.+walk.Goals as goal
use Rattle.eden_objects.proofs.Gathering.{left}

pub pairs-init : goal.pairs-init
pairs-init g t c =
    record {
      stands =
          begins c.args.store.now c.args.first c.args.second (admits c.args.filter.now) c.args.found.now.front c.args.found.now.paths.items c.closed_law.ensures.closed
          c.requires.first c.requires.second c.requires.first_paths c.requires.second_paths c.in_ok-merge.merge
          (c.in_ok-merge.ensures ∙ λ i. (c.rows_of.ensures i, c.rows_of-2.ensures i));
      other = λ no. absurd cc;
      front = λ i. c.args.found.now.front;
      settled = c.requires.settled;
      kept = λ a b is. is;
    }

pub pairs-preserved-then-not-is_changed : goal.pairs-preserved-then-not-is_changed
pairs-preserved-then-not-is_changed g t c =
    record {
      stands = goes_on_same (turn_of c.in-Some.ensures c.pairs.invariant.stands) (sym c.is_changed.ensures ∙ c.if-not-is_changed.true);
      other = c.pairs.invariant.other;
      front = c.pairs.invariant.front;
      settled = c.pairs.invariant.settled;
      kept = c.pairs.invariant.kept;
    }

pub pairs-preserved-in_default-directory : goal.pairs-preserved-in_default-directory
pairs-preserved-in_default-directory g t c =
    let turn = turn_of c.in-Some.ensures c.pairs.invariant.stands in
    let changed = sym c.is_changed.ensures ∙ c.if-not-is_changed.false in
    let file = sym c.directory.ensures ∙ ap directory_read c.in_default-directory.is in
    record {
      stands = goes_on_file turn changed file c.pairs.invariant.front c.name.ensures c.in_ok-add.ensures.paths;
      other = λ no. goes_on_other turn c.pairs.invariant.other (λ all. some_path _ _ (one_file (step turn) changed file));
      front = c.in_ok-add.ensures.front ∙ c.pairs.invariant.front;
      settled = c.pairs.invariant.settled;
      kept = c.pairs.invariant.kept;
    }

pub pairs-preserved-in_default-2 : goal.pairs-preserved-in_default-2
pairs-preserved-in_default-2 g t c =
    let turn = turn_of c.in-Some.ensures c.pairs.invariant.stands in
    let dir = sym c.directory.ensures ∙ ap directory_read c.in-Some-directory.is in
    let kept = rw c.in_default-2.is at c.in_ok-length.ensures.entered in
    record {
      stands = goes_on_outside turn dir c.pairs.invariant.front kept.1;
      other = λ no all none. let bad : false ≡ true = subst IsSome c.in_default-2.is (c.in_ok-length.ensures.all all) in absurd (cc);
      front = kept.0 ∙ c.pairs.invariant.front;
      settled = c.pairs.invariant.settled;
      kept = c.pairs.invariant.kept;
    }

-- the directory that is entered, and the length that leads back
entered : (g : given.Over) (t : ℕ) (c : In-Some-2 g t)
    → (c.enter.new.self ≡ c.args.found.now.front ++ c.in-Some-directory.name.now ++ 47 ∷ []) × (c.in-Some-2.length ≡ length c.args.found.now.front)
entered g t c = rw (← c.pairs.invariant.front) (rw c.in-Some-2.is at c.in_ok-length.ensures.entered)

pub walk-requires : goal.walk-requires
walk-requires g t c κs within =
    let turn = turn_of c.in-Some.ensures c.pairs.invariant.stands in
    let dir = sym c.directory.ensures ∙ ap directory_read c.in-Some-directory.is in
    let known = directory_is (step turn) dir in
    let paths = inner_legal turn dir (entered g t (goal.at.walk-requires g t c).In-Some-2).0 in
    (search rules, (search rules, (known.1, (known.2, (c.pairs.invariant.settled, paths)))))

pub add-requires : goal.add-requires
add-requires g t c =
    rw (c.pairs.invariant.front, c.name.ensures)
    (found_is_path (turn_of c.in-Some.ensures c.pairs.invariant.stands) (sym c.directory.ensures ∙ ap directory_read c.in_default-directory.is))

-- after it, the directory that is read is the one from before
back : {front inner walked new : List ℕ} {long : ℕ} (name : List ℕ) → (inner ≡ front ++ name ++ 47 ∷ []) × (long ≡ length front) → walked ≡ inner → new ≡ take long walked → new ≡ front
back {front} {walked = walked} name there same is = is ∙ ap (λ n. take n walked) there.1 ∙ left front walked name (same ∙ there.0)

pub pairs-preserved-then-not-inside : goal.pairs-preserved-then-not-inside
pairs-preserved-then-not-inside g t c =
    let turn = turn_of c.in-Some.ensures c.pairs.invariant.stands in
    let dir = sym c.directory.ensures ∙ ap directory_read c.in-Some-directory.is in
    let there = entered g t (goal.at.pairs-preserved-then-not-inside g t c).In-Some-2 in
    record {
      stands = goes_on_inside turn dir there.0 c.in_ok-inside.ensures.paths (λ yes. absurd cc);
      other = λ no. goes_on_other turn c.pairs.invariant.other (λ all none.
          let bad : false ≡ true = sym c.if-not-inside.true ∙ c.in_ok-inside.ensures.known all (none_inside _ _ _ (directory_is (step turn) dir).0 none) in cc);
      front = back c.in-Some-directory.name.now there c.in_ok-inside.ensures.front c.leave.ensures;
      settled = c.in_ok-inside.ensures.settled;
      kept = λ a b is. c.in_ok-inside.ensures.kept a b (c.pairs.invariant.kept a b is);
    }

pub pairs-preserved : goal.pairs-preserved
pairs-preserved g t c =
    let turn = turn_of c.in-Some.ensures c.pairs.invariant.stands in
    let dir = sym c.directory.ensures ∙ ap directory_read c.in-Some-directory.is in
    let there = entered g t (goal.at.pairs-preserved g t c).In-Some-2 in
    let alike = known_same _ _ _ _ c.in_ok-inside.ensures.settled (c.in_ok-inside.ensures.same c.if-not-inside.false) in
    let nothing = (directory_is (step turn) dir).0 ∙ ap (map (below c.in-Some-directory.name.now)) alike in
    record {
      stands = goes_on_inside turn dir there.0 c.in_ok-inside.ensures.paths (λ yes. (yes, nothing));
      other = c.pairs.invariant.other;
      front = back c.in-Some-directory.name.now there c.in_ok-inside.ensures.front c.leave.ensures;
      settled = c.in_ok-inside.ensures.settled;
      kept = λ a b is. c.in_ok-inside.ensures.kept a b (c.pairs.invariant.kept a b is);
    }

pub returns-then-is_one_tree-clause-paths : goal.returns-then-is_one_tree-clause-paths
returns-then-is_one_tree-clause-paths g t c =
    let known : is_known c.args.settled.now c.args.first c.args.second ≡ true = elim c.then-is_one_tree.branch [
      | then-is_one_tree-via-then-is_one_tree w ↦ ap (λ b. b || is_settled c.args.settled.now c.args.first c.args.second) (sym c.is_one_tree.ensures ∙ w.if-is_one_tree.true)
      | then-is_one_tree-via-else-is_one_tree+then-has w ↦ ap (λ b. b || is_settled c.args.settled.now c.args.first c.args.second) (sym c.is_one_tree.ensures ∙ w.if-is_one_tree.false) ∙ (sym w.has.ensures ∙ w.if-has.true)
    ] in
    known_sides c.args.store.now c.args.settled.now c.args.first c.args.second (admits c.args.filter.now) c.args.found.now.front c.args.found.now.paths.items c.requires.settled known

pub returns-then-not-same-clause-paths : goal.returns-then-not-same-clause-paths
returns-then-not-same-clause-paths g t c = (ends c.in_default.ensures c.pairs.invariant.stands).0

pub returns-clause-paths : goal.returns-clause-paths
returns-clause-paths g t c = (ends c.in_default.ensures c.pairs.invariant.stands).0

pub returns-clause-settled : goal.returns-clause-settled
returns-clause-settled g t c =
    settled_more c.args.store.now c.pairs.settled c.add-2.new.self c.args.first c.args.second c.pairs.invariant.settled
    ((ends c.in_default.ensures c.pairs.invariant.stands).1 c.if-not-same.false) c.in_ok-add-2.ensures
