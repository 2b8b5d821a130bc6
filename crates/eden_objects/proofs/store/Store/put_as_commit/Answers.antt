use Rattle.std.proofs.Common.{rules, ◌≡◌, Err, Some, None}
use Rattle.eden_objects.specs.Puts.{commit_fault}
use Rattle.eden_objects.specs.Payloads.{payload_bytes}
use Rattle.eden_objects.proofs.Refusals.{commit_refused, commit_sound, few_bytes}
use Rattle.eden_objects.proofs.store.Store.put_as_commit.Goals as goal

pub put-requires-clause-sound : goal.put-requires-clause-sound
put-requires-clause-sound g c =
    let is : commit_fault (payload_bytes c.args.payload) c.args.self.now ≡ None = search rules in
    commit_sound (payload_bytes c.args.payload) c.args.self.now is

pub put-requires-clause-small : goal.put-requires-clause-small
put-requires-clause-small g c =
    let is : commit_fault (payload_bytes c.args.payload) c.args.self.now ≡ None = search rules in
    few_bytes (payload_bytes c.args.payload) _ is

pub returns-in_err-tree : goal.returns-in_err-tree
returns-in_err-tree g c =
    let is : commit_fault (payload_bytes c.args.payload) c.args.self.now ≡ Some c.in_err-tree.field-0.0 = search rules in
    let told : c.from_residual.result ≡ Err c.in_err-tree.field-0.0 = search rules in
    rw told (commit_refused g.N.Naming.id (payload_bytes c.args.payload) c.args.self.now c.in_err-tree.field-0.0 is)
