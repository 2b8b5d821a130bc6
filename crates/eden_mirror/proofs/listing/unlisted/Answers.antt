use Rattle.std.proofs.Common.{not, filter, Result, Ok, Err, IfOk, ap, ◌∙◌}
use Rattle.std.specs.FinMap.{retain_keys}
use Rattle.eden_ids.specs.FileMaps.{paths}
use Rattle.eden_messages.specs.Mirrors.{is_among}
use Rattle.eden_mirror.specs.internal.Listed.{is_unlisted}
use Rattle.eden_mirror.proofs.Unlisted.{kept_listed}
use Rattle.eden_mirror.proofs.listing.unlisted.Goals as goal

so_ok : {A E : Type 0} (r : Result A E) {P Q : A → Type 0} → ((x : A) → P x → Q x) → IfOk r P → IfOk r Q
so_ok (Ok x) so p = so x p
so_ok (Err x) so p = tt

pub returns : goal.returns
returns c =
    so_ok c.unlisted_below.result
    (λ gone is.
    ap (λ ps. retain_keys c.args.files.now (λ path. not (is_among path ps))) (is ∙ ap (λ l. filter (is_unlisted c.args.prefix.now l) (paths c.args.files.now)) c.in_ok-listed.ensures)
    ∙ kept_listed c.args.files.now c.args.prefix.now c.args.listed.now)
    c.unlisted_below.ensures
