use Rattle.std.proofs.Common.{rules, ◌≡◌, Some, None, subst}
use Rattle.std.specs.Prelude.{IfOk}
use Rattle.eden_ids.specs.Naming.{git_name}
use Rattle.eden_objects.specs.declared.import.Object.{Object}
use Rattle.eden_objects.specs.Imports as imports
use Rattle.eden_script.specs.Sessions.{object_of, put_acted, put_label}
use Rattle.eden_edend.specs.declared.objects.Objects.{Objects}
use Rattle.eden_edend.specs.internal.Standing.{Gave, session_of, session_put}
use Rattle.eden_edend.proofs.Acting.{put_told_early, put_told_late, put_unbound}
use Rattle.eden_edend.proofs.PutSteps.{put_gave}
use Rattle.eden_edend.proofs.session.Session.put.Goals as goal

pub returns-in_default : goal.returns-in_default
returns-in_default c =
    let none : object_of c.args.self.now.objects.labels c.args.line ≡ None = search rules in
    put_unbound c.args.self.now.mount c.args.self.now.objects c.args.line none

pub returns-in-Some-mount : goal.returns-in-Some-mount
returns-in-Some-mount c =
    let objects : Objects = c.args.self.now.objects in
    let object : Object = c.in-Some.field-0 in
    let after : Objects = record { store = objects.store; labels = c.bind_put.new.labels } in
    let there = c.in-Some-mount.mount in
    let next = c.put_object-put.new.self in
    let bound : object_of objects.labels c.args.line ≡ Some object = search rules in
    let label : c.in_ok-label.label ≡ put_label c.args.line = search rules in
    let put = c.put_object-put.ensures in
    let gave : Gave c.put_object-put.result there.held next.held (imports.put_of git_name object there.held) =
    put_gave c.put_object-put.result there.held next.held _ put.ok put.err put.refuses in
    put_told_late c.args.self.now.mount there next objects after c.args.line object c.bind_put.result c.in-Some-mount.is bound put.stands (λ world held h.
    subst (λ name. IfOk c.bind_put.result (λ came.
    put_acted (session_of (Some world) held objects.labels) name (imports.put_of git_name object world.held) ≡ (session_put (Some world) held next.held after.labels, came))) label
    (c.bind_put.ensures (Some world) held next.held (imports.put_of git_name object world.held)
    (subst (λ objects. Gave c.put_object-put.result objects next.held (imports.put_of git_name object objects)) h.held gave)))

pub returns : goal.returns
returns c =
    let objects : Objects = c.args.self.now.objects in
    let object : Object = c.in-Some.field-0 in
    let after : Objects = record { store = c.put_object-put-in-None.new.self; labels = c.bind_put-in-None.new.labels } in
    let bound : object_of objects.labels c.args.line ≡ Some object = search rules in
    let label : c.in_ok-label.label ≡ put_label c.args.line = search rules in
    let put = c.put_object-put-in-None.ensures in
    let gave : Gave c.put_object-put-in-None.result objects.store after.store (imports.put_of git_name object objects.store) =
    put_gave c.put_object-put-in-None.result objects.store after.store _ put.ok put.err put.refuses in
    put_told_early c.args.self.now.mount objects after c.args.line object c.bind_put-in-None.result c.in-None.is bound
    (subst (λ name. IfOk c.bind_put-in-None.result (λ came.
    put_acted (session_of None objects.store objects.labels) name (imports.put_of git_name object objects.store) ≡ (session_put None objects.store after.store after.labels, came))) label
    (c.bind_put-in-None.ensures None objects.store after.store (imports.put_of git_name object objects.store) gave))
