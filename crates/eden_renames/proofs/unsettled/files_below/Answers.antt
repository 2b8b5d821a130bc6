use Rattle.std.proofs.Common.{◌∙◌}
use Rattle.eden_renames.proofs.Unsettling.{told_all, told_path}
use Rattle.eden_renames.proofs.unsettled.files_below.Goals as goal

pub list_seen-requires : goal.list_seen-requires
list_seen-requires g c = λ path below there _.
    told_path c.args.commit.now c.texts_law.ensures c.args.top.now c.as_bytes.result.now c.as_bytes.ensures.bytes path below there

pub returns : goal.returns
returns g c =
    c.in_ok-list.ensures
    ∙ told_all c.args.commit.now c.args.top.now c.as_bytes.result.now c.all.result c.as_bytes.ensures.bytes c.all.ensures
