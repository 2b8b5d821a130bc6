use Rattle.std.proofs.Common.{arith, ◌<◌, ◌^◌, ◌∙◌}
use Rattle.eden_git.proofs.NumberLemmas.{number_of-no_text, number_of-unparsed, number_of-other_text, number_of-same_text}
use Rattle.eden_git.proofs.decimal.number.Goals as goal

pub returns-in_default : goal.returns-in_default
returns-in_default c = number_of-no_text c.args.word.now c.in_default.ensures.cases.0

pub returns-in_default-parse : goal.returns-in_default-parse
returns-in_default-parse c =
    number_of-unparsed c.args.word.now c.in-Ok.text.now c.parse.result c.in-Ok.ensures.cases.0 c.parse.ensures.value.0 c.in_default-parse.not-Ok

pub returns-then-eq : goal.returns-then-eq
returns-then-eq c =
    let small : c.in-Ok-parse.value < 2 ^ 64 = omega (arith, c.in-Ok-parse.ensures.value.0) in
    number_of-same_text c.args.word.now c.as_bytes.result.now c.in-Ok-parse.value small
    (c.as_bytes.ensures.value ∙ c.format.ensures.text) c.if-eq.ensures

pub returns-else-eq : goal.returns-else-eq
returns-else-eq c =
    number_of-other_text c.args.word.now c.in-Ok.text.now c.as_bytes.result.now c.parse.result c.in-Ok-parse.value c.in-Ok.ensures.cases.0
    c.parse.ensures.value.0 c.in-Ok-parse.is (c.as_bytes.ensures.value ∙ c.format.ensures.text) c.if-eq.ensures
