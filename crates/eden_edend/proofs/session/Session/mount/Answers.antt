use Rattle.std.proofs.Common.{sym, ◌∙◌, rules}
use Rattle.eden_objects.specs.Files.{commit_files}
use Rattle.eden_history.specs.Worlds.{opened}
use Rattle.eden_accumulate.specs.Mounts.{StandsFor}
use Rattle.eden_edend.proofs.Acting.{commit_absent, commit_mounts}
use Rattle.eden_edend.proofs.session.Session.mount.Goals as goal

pub returns-then-not-has_commit : goal.returns-then-not-has_commit
returns-then-not-has_commit c =
    commit_absent c.args.self.now.mount c.args.self.now.objects c.args.line c.in-Some.root (sym c.is_some.ensures ∙ c.if-is_some.false)
    (sym c.get.ensures ∙ c.in-Some.is) (search rules)

pub returns : goal.returns
returns c =
    let stands : StandsFor c.in_ok-mount.mount (opened c.args.self.now.objects.store c.args.line.generation c.args.line.limit c.in-Some.root (commit_files c.args.self.now.objects.store c.in-Some.root)) = search rules in
    commit_mounts c.args.self.now.mount c.in_ok-mount.mount c.args.self.now.objects c.take_store-store.new.self c.args.line c.in-Some.root c.position-position.result
    (sym c.is_some.ensures ∙ c.if-is_some.false) (sym c.get.ensures ∙ c.in-Some.is) (search rules) stands (c.position-position.ensures.world _ stands)
    c.take_store-store.ensures.labels
