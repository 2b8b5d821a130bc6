use Rattle.std.proofs.Common.{rules, ◌≡◌, ◌≢◌, ◌<◌, [], length, None, Some, Result, Ok, Err, IfErr, refl, sym, subst, ◌∙◌}
use Rattle.eden_git.specs.Trees.{read_entry}
use Rattle.eden_git.specs.Entries.{plain}
use Rattle.eden_objects.specs.declared.fault.PutFault.{PutFault}
use Rattle.eden_objects.specs.declared.fault.PutFault.TheVariants.{NoMemory}
use Rattle.eden_objects.specs.declared.outline.Outline.{Outline}
use Rattle.eden_objects.specs.Puts.{entries_fault, entry_fault, unread}
use Rattle.eden_objects.proofs.Judging.{begins, goes_on, stands, unreadable}
use Rattle.eden_objects.proofs.Refusals.{entry_held}
use Rattle.eden_objects.proofs.store.Store.judged.Goals as goal

pub loop-rest-init : goal.loop-rest-init
loop-rest-init g c = record {
  judging = begins c.args.self.now c.args.payload.now c.new-seen.result (record { depth = 0; reach = 0 }) c.in_ok-columns.columns c.new-seen.ensures refl refl c.in_ok-columns.ensures;
  small = search rules;
  within = search rules;
}

pub returns-in_err-entry-clause-refuses : goal.returns-in_err-entry-clause-refuses
returns-in_err-entry-clause-refuses g c =
    let some : 0 < length c.loop-rest.rest.now = search rules in
    let read : read_entry c.loop-rest.rest.now ≡ Err c.in_err-entry.field-0.0 = search rules in
    let is : c.from_residual-in_err-entry.result ≡ Err (unread c.in_err-entry.field-0.0) = search rules in
    subst (λ (result : Result Outline PutFault). IfErr result (λ fault. fault ≢ NoMemory → entries_fault (length c.args.payload.now) c.args.self.now [] c.args.payload.now ≡ Some fault)) (sym is)
    (λ other. unreadable c.args.self.now c.args.payload.now c.loop-rest.seen c.loop-rest.size c.loop-rest.files c.loop-rest.columns c.loop-rest.rest.now c.in_err-entry.field-0.0
    c.loop-rest.invariant.judging some read)

pub returns-in-Some-clause-refuses : goal.returns-in-Some-clause-refuses
returns-in-Some-clause-refuses g c = λ other.
    let some : 0 < length c.loop-rest.rest.now = search rules in
    let read : read_entry c.loop-rest.rest.now ≡ Ok (plain c.in_ok-entry.entry, c.in_ok-entry.after.now) = search rules in
    stands c.args.self.now c.args.payload.now c.loop-rest.seen c.loop-rest.size c.loop-rest.files c.loop-rest.columns c.loop-rest.rest.now
    (plain c.in_ok-entry.entry) c.in_ok-entry.after.now c.in-Some.fault c.loop-rest.invariant.judging some read
    (λ earlier seen. sym c.in-Some.is ∙ c.entry_fault.ensures earlier seen)

pub measure_of-count-requires : goal.measure_of-count-requires
measure_of-count-requires g c =
    let judging = c.loop-rest.invariant.judging in
    let passes : None ≡ entry_fault c.args.self.now judging.earlier (plain c.in_ok-entry.entry) =
    sym c.in_default.is ∙ c.entry_fault.ensures judging.earlier judging.has_seen in
    entry_held c.args.self.now judging.earlier (plain c.in_ok-entry.entry) passes

pub loop-rest-preserved : goal.loop-rest-preserved
loop-rest-preserved g c =
    let some : 0 < length c.loop-rest.rest.now = search rules in
    let less : length c.in_ok-entry.after.now < length c.loop-rest.rest.now = search rules in
    let read : read_entry c.loop-rest.rest.now ≡ Ok (plain c.in_ok-entry.entry, c.in_ok-entry.after.now) = search rules in
    record {
      judging = goes_on c.args.self.now c.args.payload.now c.loop-rest.seen c.note.new.self c.loop-rest.size c.or_greater-size.result c.loop-rest.files c.saturating_add-files.result
          c.loop-rest.columns c.push.new.self c.loop-rest.rest.now (plain c.in_ok-entry.entry) c.in_ok-entry.after.now
          c.loop-rest.invariant.judging some less c.loop-rest.invariant.within read
          (record {
            passes = λ earlier seen. sym c.in_default.is ∙ c.entry_fault.ensures earlier seen;
            notes = search rules;
            depth = search rules;
            reach = search rules;
            count = search rules;
            column = search rules;
          });
      small = c.saturating_add-files.type_inv;
      within = search rules;
    }
