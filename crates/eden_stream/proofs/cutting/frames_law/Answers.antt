use Rattle.eden_stream.proofs.FrameCuts.{one_way, prefix_free}
use Rattle.eden_stream.proofs.cutting.frames_law.Goals as goal

pub returns-clause-one_way : goal.returns-clause-one_way
returns-clause-one_way c = one_way

pub returns-clause-prefix_free : goal.returns-clause-prefix_free
returns-clause-prefix_free c = prefix_free
