use Rattle.std.proofs.Common.{◌≡◌, true, rules, sym}
use Rattle.eden_globs.specs.Filters.{is_any_names}
use Rattle.eden_globs.proofs.Tokens.{each_matches}
use Rattle.eden_globs.proofs.pattern.Part.compile.Goals as goal

pub returns-then-eq : goal.returns-then-eq
returns-then-eq c =
    let any : is_any_names c.args.text.now ≡ true = search rules in
    (sym any, each_matches c.args.text.now any)
