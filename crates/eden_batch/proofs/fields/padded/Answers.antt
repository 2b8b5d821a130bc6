use Rattle.std.proofs.Common.{◌++◌, ◌∙◌, ap, drop, length, replicate}
use Rattle.std.proofs.lemmas.List.{drop-replicate}
use Rattle.eden_batch.proofs.fields.padded.Goals as goal

pub returns : goal.returns
returns c =
    let digits = c.args.digits.now in
    ap (λ front. front ++ drop (length digits) (replicate 40 48)) c.copy_from_slice.ensures.after ∙ ap (λ zeros. digits ++ zeros) (drop-replicate (length digits) 40 48)
