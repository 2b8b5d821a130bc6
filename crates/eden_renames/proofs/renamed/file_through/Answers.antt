use Rattle.std.proofs.Common.{◌++◌, ap, sym, ◌∙◌}
use Rattle.eden_ids.specs.FileMaps.{file_at, lent}
use Rattle.eden_renames.specs.Renames.{file_from}
use Rattle.eden_renames.proofs.Seen.{file_at-seen}
use Rattle.eden_renames.proofs.Settled.{too_long}
use Rattle.eden_renames.proofs.renamed.file_through.Goals as goal

pub returns-in-Own : goal.returns-in-Own
returns-in-Own g c =
    c.file.ensures
    ∙ ap (file_from c.args.commit.now) c.in-Own.ensures
    ∙ sym (file_at-seen c.args.commit.now c.args.renames.now c.args.path.now)

pub returns-in-Nothing : goal.returns-in-Nothing
returns-in-Nothing g c =
    ap (file_from c.args.commit.now) c.in-Nothing.ensures
    ∙ sym (file_at-seen c.args.commit.now c.args.renames.now c.args.path.now)

pub returns-in_err-source-in-Below : goal.returns-in_err-source-in-Below
returns-in_err-source-in-Below g c =
    ap lent c.from_residual.ensures
    ∙ too_long c.args.commit.now c.texts_law.ensures (c.as_bytes.result.now ++ c.in-Below.rest.now) c.in_err-source-in-Below.ensures
    ∙ ap (λ p. file_at c.args.commit.now (p ++ c.in-Below.rest.now)) c.as_bytes.ensures.bytes
    ∙ ap (file_from c.args.commit.now) c.in-Below.ensures
    ∙ sym (file_at-seen c.args.commit.now c.args.renames.now c.args.path.now)

pub returns-in_ok-source-in-Below : goal.returns-in_ok-source-in-Below
returns-in_ok-source-in-Below g c =
    c.file-in-Below.ensures
    ∙ ap (file_at c.args.commit.now) (c.as_slice.ensures.value ∙ c.in_ok-source-in-Below.ensures ∙ ap (λ p. p ++ c.in-Below.rest.now) c.as_bytes.ensures.bytes)
    ∙ ap (file_from c.args.commit.now) c.in-Below.ensures
    ∙ sym (file_at-seen c.args.commit.now c.args.renames.now c.args.path.now)
