use Rattle.std.proofs.Common.{rules, arith, ◌≡◌, ◌-◌, length, Err, Ok}
use Rattle.eden_git.specs.Entries.{plain}
use Rattle.eden_git.specs.Trees.{read_entry}
use Rattle.eden_git.proofs.Fuel.{none_left}
use Rattle.eden_git.proofs.Noting.{begins, ends, goes_on}
use Rattle.eden_git.proofs.columns.Columns.of.Goals as goal

pub entries-init : goal.entries-init
entries-init c = record { noted = begins c.args.payload.now c.in_ok-columns.columns c.in_ok-columns.ensures }

pub returns : goal.returns
returns c =
    let read : read_entry c.entries.rest.now ≡ Err c.in_default.field-0 = search rules in
    ends c.args.payload.now c.entries.columns c.entries.rest.now c.entries.invariant.noted (none_left c.entries.rest.now c.in_default.field-0 read)

pub entries-preserved : goal.entries-preserved
entries-preserved c =
    let payload = c.args.payload.now in
    let read : read_entry c.entries.rest.now ≡ Ok (plain c.in-Ok.entry, c.in-Ok.after.now) = search rules in
    record {
      noted = goes_on payload c.entries.columns c.push.new.self c.entries.rest.now (plain c.in-Ok.entry) c.in-Ok.after.now (length payload - length c.in-Ok.after.now)
          c.entries.invariant.noted read (search (rules, arith)) c.in_ok-push.ensures;
    }
