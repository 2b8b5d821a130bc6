-- An opening answers as its session does.
use Rattle.eden_edend.proofs.opened.OpeningLineMachine.answer.Goals as goal

pub returns-in-Done : goal.returns-in-Done
returns-in-Done c = λ script s.
    let takes = c.in-Done.ensures script s.0 in
    record { printed = takes.printed; next = takes.next; stands = (takes.stands, s.1); appended = takes.appended; goes_on = takes.goes_on }

pub returns-in-BadLine : goal.returns-in-BadLine
returns-in-BadLine c = λ script s.
    let refuses = c.in-BadLine.ensures script s.0 in
    (refuses.0, refuses.1, (refuses.2, λ hears. c.is_listen-self.ensures.0 hears))

pub returns-in-NoMemory : goal.returns-in-NoMemory
returns-in-NoMemory c = λ script s. c.in-NoMemory.ensures script s.0
