use Rattle.std.proofs.Common.{sym, subst}
use Rattle.eden_script.specs.declared.command.Command.TheVariants as line
use Rattle.eden_script.specs.declared.told.Told.{Told}
use Rattle.eden_edend.specs.internal.Standing.{Acts}
use Rattle.eden_edend.proofs.Acting.{id_acts, tells}
use Rattle.eden_edend.proofs.session.Session.execute.Goals as goal

pub returns-in_ok-push_told-in-Put-clause-told : goal.returns-in_ok-push_told-in-Put-clause-told
returns-in_ok-push_told-in-Put-clause-told c =
    tells c.args.self.now.mount c.args.self.now.objects c.args.command _ c.put.new.self.mount c.put.new.self.objects c.in_ok-told-in-Put.told
    c.args.text.now.items c.push_told.new.text.items c.in-Put.is c.in_ok-told-in-Put.ensures c.in_ok-push_told-in-Put.ensures.told

pub returns-in_ok-push_told-in-Id-clause-told : goal.returns-in_ok-push_told-in-Id-clause-told
returns-in_ok-push_told-in-Id-clause-told c =
    let mount = c.args.self.now.mount in
    let objects = c.args.self.now.objects in
    tells c.args.self.now.mount c.args.self.now.objects c.args.command (line.Id c.in-Id.label) c.args.self.now.mount c.args.self.now.objects c.id_of-told.result
    c.args.text.now.items c.push_told-in-Id.new.text.items c.in-Id.is
    (subst (λ (told : Told). Acts mount objects (line.Id c.in-Id.label) mount objects told) (sym c.id_of-told.ensures) (id_acts mount objects c.in-Id.label))
    c.in_ok-push_told-in-Id.ensures.told

pub returns-in_ok-push_told-in-Mount-clause-told : goal.returns-in_ok-push_told-in-Mount-clause-told
returns-in_ok-push_told-in-Mount-clause-told c =
    tells c.args.self.now.mount c.args.self.now.objects c.args.command _ c.mount.new.self.mount c.mount.new.self.objects c.in_ok-told-in-Mount.told
    c.args.text.now.items c.push_told-in-Mount.new.text.items c.in-Mount.is c.in_ok-told-in-Mount.ensures c.in_ok-push_told-in-Mount.ensures.told

pub returns-in_ok-push_told-in-Change-clause-told : goal.returns-in_ok-push_told-in-Change-clause-told
returns-in_ok-push_told-in-Change-clause-told c =
    tells c.args.self.now.mount c.args.self.now.objects c.args.command _ c.change.new.self.mount c.change.new.self.objects c.in_ok-told-in-Change.told
    c.args.text.now.items c.push_told-in-Change.new.text.items c.in-Change.is c.in_ok-told-in-Change.ensures c.in_ok-push_told-in-Change.ensures.told

pub returns-in_ok-push_told-in-Ask-clause-told : goal.returns-in_ok-push_told-in-Ask-clause-told
returns-in_ok-push_told-in-Ask-clause-told c =
    tells c.args.self.now.mount c.args.self.now.objects c.args.command _ c.args.self.now.mount c.args.self.now.objects c.in_ok-told-in-Ask.told
    c.args.text.now.items c.push_told-in-Ask.new.text.items c.in-Ask.is c.in_ok-told-in-Ask.ensures c.in_ok-push_told-in-Ask.ensures.told
