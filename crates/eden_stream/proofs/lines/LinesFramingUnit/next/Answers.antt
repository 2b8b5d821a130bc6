use Rattle.eden_stream.proofs.LineAnswers.{line_finds, line_kept}
use Rattle.eden_stream.proofs.lines.LinesFramingUnit.next.Goals as goal

pub returns-clause-finds : goal.returns-clause-finds
returns-clause-finds c = line_finds c.args.ended c.args.held.now c.next_line.new.held c.next_line.result c.next_line.ensures

pub returns-clause-kept : goal.returns-clause-kept
returns-clause-kept c = line_kept c.args.ended c.args.held.now c.next_line.new.held c.next_line.result c.next_line.ensures
