use Rattle.std.proofs.Common.{rules, ◌≡◌, ◌∷◌, ◌<◌, ◌++◌, [], length, take, ℕ, List, None, Ok, Err, refl, ap, sym, subst, ◌∙◌, append_assoc}
use Rattle.std.proofs.Math.Seq.{take-append_seam}
use Rattle.std.specs.List.{AllByRecursion}
use Rattle.eden_git.specs.Entries.{plain}
use Rattle.eden_git.specs.Trees.{Entry}
use Rattle.eden_objects.specs.Objects.{Held}
use Rattle.eden_objects.specs.Trees.{tree_depth}
use Rattle.eden_objects.specs.Commits.{Row, entries_rows, entry_rows, tree_rows}
use Rattle.eden_objects.specs.internal.Passed.{rows_but}
use Rattle.eden_objects.proofs.Searched.{all_passed}
use Rattle.eden_objects.proofs.Visiting.{IsAhead, all_ahead, dir_ahead, dir_lies_below, dir_rows, ended, file_rows, no_files, one_more}
use Rattle.eden_objects.proofs.WalkSteps.{rows_here}
use Rattle.eden_objects.proofs.store.Store.+walk.Goals as goal
use Rattle.eden_objects.proofs.store.Store.+walk.Goals.{then-outline-eq0-via-then-outline-eq0, then-outline-eq0-via-else-outline-eq0+then-passes_below, in-Some-kind+in_ok-visit_file, in_default+then-enters+in_ok-walk, in_default+else-enters}

pub returns-then-outline-eq0-clause-visit : goal.returns-then-outline-eq0-clause-visit
returns-then-outline-eq0-clause-visit g t c =
    let held : List Held = c.args.self.now in
    let passes = g.S.Passes.passes c.args.passed.now in
    let rows : List Row = tree_rows held c.args.tree in
    let front : List ℕ = c.args.trail.now in
    let kept = c.read_tree-rows.ensures.kept in
    let none : rows_but passes front rows ≡ [] = elim c.then-outline-eq0.branch [
      | then-outline-eq0-via-then-outline-eq0 w ↦ no_files passes front rows c.read_tree-rows.result.1.now.files kept.4 w.if-outline-eq0.true
      | then-outline-eq0-via-else-outline-eq0+then-passes_below w ↦
          all_passed passes front held c.args.tree c.read_tree-rows.result.1.now c.closed_law.ensures.closed c.requires.tree kept
          (λ rest within. ap (λ bytes. passes (bytes ++ rest)) (sym w.as_bytes.ensures) ∙ w.passes_below.ensures w.if-passes_below.true rest within)
    ] in
    subst (λ found. g.V.Visit.gives c.args.visit.now found (Ok tt) c.args.visit.now) (sym none) (g.met.V.Visit.laws.nothing c.args.visit.now)

pub entries-init : goal.entries-init
entries-init g t c =
    let held : List Held = c.args.self.now in
    let passes = g.S.Passes.passes c.args.passed.now in
    let es : List Entry = c.into_iter-entry-iterator.result in
    let is = c.into_iter-entry-iterator.ensures.into_iter_gives ∙ c.iter-entry-items.ensures ∙ c.read_tree-rows.ensures.rows in
    record {
      visited = λ result new. subst (λ found. g.V.Visit.gives c.args.visit.now (rows_but passes c.args.trail.now found) result new)
          (sym (rows_here held c.closed_law.ensures.closed c.args.tree c.requires.tree ∙ ap (entries_rows (tree_rows held)) (sym is)));
      trail = refl;
      ahead = all_ahead g.V.Visit.allows passes c.args.trail.now held c.args.tree es c.closed_law.ensures.closed c.requires.tree c.requires.room c.requires.paths is;
    }

pub returns-in_err-visit_file-clause-visit : goal.returns-in_err-visit_file-clause-visit
returns-in_err-visit_file-clause-visit g t c =
    let held : List Held = c.args.self.now in
    let passes = g.S.Passes.passes c.args.passed.now in
    let front : List ℕ = c.args.trail.now in
    let e : Entry = plain c.in-Some.entry in
    let path : c.as_bytes-in-Some-kind.result.now ≡ front ++ e.name = c.as_bytes-in-Some-kind.ensures ∙ c.add-length.ensures.added ∙ ap (λ bytes. bytes ++ e.name) c.entries.invariant.trail in
    let is : c.from_residual.result ≡ Err c.in_err-visit_file.field-0.0 = search rules in
    subst (λ result. g.V.Visit.gives c.args.visit.now (rows_but passes front (tree_rows held c.args.tree)) result c.visit_file.new.visit) (sym is)
    (ended g.V.Visit.gives g.met.V.Visit.laws passes front (tree_rows held) c.args.visit.now (rows_but passes front (tree_rows held c.args.tree)) c.entries.visit c.visit_file.new.visit e c.next.new.self
    c.entries.entry-iterator c.in-Some.ensures.steps c.entries.invariant.visited c.in_err-visit_file.field-0.0
    (subst (λ result. g.V.Visit.gives c.entries.visit (rows_but passes front (entry_rows (tree_rows held) e)) result c.visit_file.new.visit) c.in_err-visit_file.was
    (subst (λ found. g.V.Visit.gives c.entries.visit found c.visit_file.result c.visit_file.new.visit)
    (file_rows passes front (tree_rows held) e c.in-Some-kind.kind c.as_bytes-in-Some-kind.result.now c.in-Some-kind.is path) c.visit_file.ensures)))

pub walk-requires : goal.walk-requires
walk-requires g t c κs within =
    let held : List Held = c.args.self.now in
    let passes = g.S.Passes.passes c.args.passed.now in
    let front : List ℕ = c.args.trail.now in
    let e : Entry = plain c.in-Some.entry in
    let ahead = (subst (λ es. AllByRecursion (IsAhead g.V.Visit.allows passes front held c.args.tree) es) c.in-Some.ensures.steps c.entries.invariant.ahead).0 in
    let added : c.add-length.new.self ≡ front ++ e.name = c.add-length.ensures.added ∙ ap (λ bytes. bytes ++ e.name) c.entries.invariant.trail in
    let entered : c.add.new.self ≡ front ++ e.name ++ 47 ∷ [] = search rules in
    let dir : c.in-Some.entry.kind ≡ None = search rules in
    let inner = dir_ahead g.V.Visit.allows passes front c.add.new.self held c.args.tree e ahead dir entered in
    let less : tree_depth held c.in-Some.entry.id < tree_depth held c.args.tree = inner.1 in
    (search rules, (search rules, (search rules, (search rules, (search rules, (inner.0, (inner.2, inner.3)))))))

pub returns-in_err-walk-clause-visit : goal.returns-in_err-walk-clause-visit
returns-in_err-walk-clause-visit g t c =
    let held : List Held = c.args.self.now in
    let passes = g.S.Passes.passes c.args.passed.now in
    let front : List ℕ = c.args.trail.now in
    let e : Entry = plain c.in-Some.entry in
    let dir : c.in-Some.entry.kind ≡ None = search rules in
    let added : c.add-length.new.self ≡ front ++ e.name = c.add-length.ensures.added ∙ ap (λ bytes. bytes ++ e.name) c.entries.invariant.trail in
    let entered : c.add.new.self ≡ front ++ e.name ++ 47 ∷ [] = search rules in
    let is : c.from_residual-in_err-walk.result ≡ Err c.in_err-walk.field-0.0 = search rules in
    subst (λ result. g.V.Visit.gives c.args.visit.now (rows_but passes front (tree_rows held c.args.tree)) result c.walk.new.visit) (sym is)
    (ended g.V.Visit.gives g.met.V.Visit.laws passes front (tree_rows held) c.args.visit.now (rows_but passes front (tree_rows held c.args.tree)) c.entries.visit c.walk.new.visit e c.next.new.self
    c.entries.entry-iterator c.in-Some.ensures.steps c.entries.invariant.visited c.in_err-walk.field-0.0
    (subst (λ result. g.V.Visit.gives c.entries.visit (rows_but passes front (entry_rows (tree_rows held) e)) result c.walk.new.visit) c.in_err-walk.was
    (subst (λ found. g.V.Visit.gives c.entries.visit found c.walk.result c.walk.new.visit) (dir_rows passes front (tree_rows held) e c.add.new.self dir entered) c.walk.ensures.visit)))

pub entries-preserved : goal.entries-preserved
entries-preserved g t c =
    let held : List Held = c.args.self.now in
    let passes = g.S.Passes.passes c.args.passed.now in
    let front : List ℕ = c.args.trail.now in
    let e : Entry = plain c.in-Some.entry in
    let is : c.entries.entry-iterator ≡ e ∷ c.next.new.self = c.in-Some.ensures.steps in
    let added : c.add-length.new.self ≡ front ++ e.name = c.add-length.ensures.added ∙ ap (λ bytes. bytes ++ e.name) c.entries.invariant.trail in
    let one : g.V.Visit.gives c.entries.visit (rows_but passes front (entry_rows (tree_rows held) e)) (Ok tt) c.match-entry.visit × ((rest : List ℕ) × (c.match-entry.trail ≡ front ++ rest)) =
    elim c.match-entry.branch [
      | in-Some-kind+in_ok-visit_file w ↦ (
        subst (λ found. g.V.Visit.gives c.entries.visit found (Ok tt) c.match-entry.visit)
            (file_rows passes front (tree_rows held) e w.in-Some-kind.kind w.as_bytes-in-Some-kind.result.now w.in-Some-kind.is (w.as_bytes-in-Some-kind.ensures ∙ added))
            (subst (λ visit. g.V.Visit.gives c.entries.visit (rows_but passes [] ((w.as_bytes-in-Some-kind.result.now, w.in-Some-kind.kind, e.id) ∷ [])) (Ok tt) visit) (sym w.visit-is) w.in_ok-visit_file.ensures),
        (e.name, w.trail-is ∙ added),
      )
      | in_default+then-enters+in_ok-walk w ↦
          let dir : c.in-Some.entry.kind ≡ None = search rules in
          let entered : w.add.new.self ≡ front ++ e.name ++ 47 ∷ [] = search rules in (
            subst (λ found. g.V.Visit.gives c.entries.visit found (Ok tt) c.match-entry.visit) (dir_rows passes front (tree_rows held) e w.add.new.self dir entered)
                (subst (λ visit. g.V.Visit.gives c.entries.visit (rows_but passes w.add.new.self (tree_rows held e.id)) (Ok tt) visit) (sym w.visit-is) w.in_ok-walk.ensures.visit),
            (e.name ++ 47 ∷ [], w.trail-is ∙ w.in_ok-walk.ensures.trail ∙ entered ∙ append_assoc front e.name (47 ∷ [])),
          )
      | in_default+else-enters w ↦ (
        subst (λ visit. g.V.Visit.gives c.entries.visit (rows_but passes front (entry_rows (tree_rows held) e)) (Ok tt) visit) (sym w.visit-is)
            (w.enters.ensures w.if-enters.false (rows_but passes front (entry_rows (tree_rows held) e)) (dir_lies_below passes front w.as_bytes-in_default.result.now (tree_rows held) e (let dir : c.in-Some.entry.kind ≡ None = search rules in dir) (w.as_bytes-in_default.ensures ∙ added))),
        (e.name, w.trail-is ∙ added),
      )
    ] in
    record {
      visited = one_more g.V.Visit.gives g.met.V.Visit.laws passes front (tree_rows held) c.args.visit.now (rows_but passes front (tree_rows held c.args.tree)) c.entries.visit c.match-entry.visit e c.next.new.self c.entries.entry-iterator is
          c.entries.invariant.visited one.0;
      trail =
          c.leave.ensures ∙ ap (λ n. take n c.match-entry.trail) (c.add-length.ensures.length ∙ ap length c.entries.invariant.trail)
          ∙ ap (take (length front)) one.1.1 ∙ take-append_seam front one.1.0;
      ahead = (subst (λ es. AllByRecursion (IsAhead g.V.Visit.allows passes front held c.args.tree) es) is c.entries.invariant.ahead).1;
    }
