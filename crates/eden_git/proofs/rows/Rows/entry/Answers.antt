use Rattle.std.proofs.Common.{rules, ◌≡◌, ◌<◌, ◌+◌, ◌∙◌, sym, ap, arith, length, Some, slice_get}
use Rattle.eden_git.specs.Starts.{mode_of}
use Rattle.eden_git.specs.Entries.{plain}
use Rattle.eden_git.proofs.Placing.{no_row, row_has}
use Rattle.eden_git.proofs.Reading.{length-written}
use Rattle.eden_git.proofs.rows.Rows.entry.Goals as goal

pub offset_bounds-starts-row : goal.offset_bounds-starts-row
offset_bounds-starts-row c =
    let has = row_has c.self.inside.payload.now _ _ c.args.row (c.as_slice-starts.ensures.value ∙ c.self.invariant.0) (c.deref.ensures.value ∙ c.self.invariant.2) (search rules) in
    let low : c.args.row < length c.as_slice-starts.result.now = omega (arith, has.0) in search rules

pub bounds-starts-row : goal.bounds-starts-row
bounds-starts-row c =
    let has = row_has c.self.inside.payload.now _ _ c.args.row (c.as_slice-starts.ensures.value ∙ c.self.invariant.0) (c.deref.ensures.value ∙ c.self.invariant.2) (search rules) in
    omega (arith, has.0)

pub offset_bounds-starts-row-in-Some : goal.offset_bounds-starts-row-in-Some
offset_bounds-starts-row-in-Some c =
    let has = row_has c.self.inside.payload.now _ _ c.args.row (c.as_slice-starts.ensures.value ∙ c.self.invariant.0) (c.deref.ensures.value ∙ c.self.invariant.2) (search rules) in
    let low : c.args.row + 1 < length c.as_slice-starts.result.now = has.0 in search rules

pub bounds-starts-row-in-Some : goal.bounds-starts-row-in-Some
bounds-starts-row-in-Some c =
    let has = row_has c.self.inside.payload.now _ _ c.args.row (c.as_slice-starts.ensures.value ∙ c.self.invariant.0) (c.deref.ensures.value ∙ c.self.invariant.2) (search rules) in
    has.0

pub slice_bounds-bytes-count : goal.slice_bounds-bytes-count
slice_bounds-bytes-count c =
    let has = row_has c.self.inside.payload.now _ _ c.args.row (c.as_slice-starts.ensures.value ∙ c.self.invariant.0) (c.deref.ensures.value ∙ c.self.invariant.2) (search rules) in
    omega (arith, has.1.3)

pub slice_bounds-bytes-start : goal.slice_bounds-bytes-start
slice_bounds-bytes-start c =
    let has = row_has c.self.inside.payload.now _ _ c.args.row (c.as_slice-starts.ensures.value ∙ c.self.invariant.0) (c.deref.ensures.value ∙ c.self.invariant.2) (search rules) in
    omega (arith, has.1.3)

pub slice_bounds-bytes-end : goal.slice_bounds-bytes-end
slice_bounds-bytes-end c =
    let has = row_has c.self.inside.payload.now _ _ c.args.row (c.as_slice-starts.ensures.value ∙ c.self.invariant.0) (c.deref.ensures.value ∙ c.self.invariant.2) (search rules) in
    has.1.4

pub entry_in-requires : goal.entry_in-requires
entry_in-requires c =
    let has = row_has c.self.inside.payload.now _ _ c.args.row (c.as_slice-starts.ensures.value ∙ c.self.invariant.0) (c.deref.ensures.value ∙ c.self.invariant.2) (search rules) in
    let kind : c.kind_of.result ≡ has.1.0.kind = c.kind_of.ensures has.1.0.kind (search rules ∙ has.1.2) in
    let mode = ap (λ k. length (mode_of k)) kind in
    let long = ap length has.1.5 ∙ length-written has.1.0 has.1.6 in
    omega (arith, mode, long)

pub returns-in-Some : goal.returns-in-Some
returns-in-Some c =
    let has = row_has c.self.inside.payload.now _ _ c.args.row (c.as_slice-starts.ensures.value ∙ c.self.invariant.0) (c.deref.ensures.value ∙ c.self.invariant.2) (search rules) in
    let kind : c.kind_of.result ≡ has.1.0.kind = c.kind_of.ensures has.1.0.kind (search rules ∙ has.1.2) in
    let same : plain c.entry_in.result ≡ has.1.0 = c.entry_in.ensures has.1.0 has.1.5 kind has.1.6 in
    ap Some same ∙ sym has.1.1 ∙ ap (λ es. slice_get es c.args.row) c.self.view_is

pub returns-in-None : goal.returns-in-None
returns-in-None c =
    no_row c.self.inside.payload.now _ c.args.row (c.deref.ensures.value ∙ c.self.invariant.2) (search rules)
    ∙ ap (λ es. slice_get es c.args.row) c.self.view_is
