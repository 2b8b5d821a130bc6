use Rattle.std.proofs.Common.{rules, ◌≡◌}
use Rattle.eden_git.specs.Trees.{read_entry}
use Rattle.eden_git.specs.Entries.{reading_of}
use Rattle.eden_git.proofs.Reading.{is_shorter}
use Rattle.eden_git.proofs.entry.read_entry.Goals as goal

pub returns-clause-shorter : goal.returns-clause-shorter
returns-clause-shorter c =
    let whole : reading_of c.read_id.result ≡ read_entry c.args.bytes.now = search rules in
    is_shorter c.args.bytes.now c.read_id.result whole
