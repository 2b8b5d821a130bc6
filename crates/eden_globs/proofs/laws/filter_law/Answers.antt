use Rattle.std.proofs.Common.{refl}
use Rattle.eden_globs.proofs.Entering.{none_outside}
use Rattle.eden_globs.proofs.Plain.{all_except, any_admits, itself_alone, itself_and_below}
use Rattle.eden_globs.proofs.laws.filter_law.Goals as goal

pub returns-clause-none : goal.returns-clause-none
returns-clause-none c = λ path. refl

pub returns-clause-any : goal.returns-clause-any
returns-clause-any c = any_admits

pub returns-clause-itself : goal.returns-clause-itself
returns-clause-itself c = itself_alone

pub returns-clause-below : goal.returns-clause-below
returns-clause-below c = itself_and_below

pub returns-clause-except : goal.returns-clause-except
returns-clause-except c = all_except

pub returns-clause-outside : goal.returns-clause-outside
returns-clause-outside c = none_outside
