use Rattle.std.proofs.Common.{ap, sym, ◌∙◌}
use Rattle.eden_git.specs.Directories.{entries_read}
use Rattle.eden_git.proofs.Fuel.{all_read}
use Rattle.eden_git.proofs.directory.next_entry.Goals as goal

pub returns-clause-entries : goal.returns-clause-entries
returns-clause-entries c = all_read c.args.bytes.now c.read_entry.result c.read_entry.ensures.read ∙ ap entries_read (sym c.ok.ensures.value)
