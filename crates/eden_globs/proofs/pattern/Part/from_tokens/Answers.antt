use Rattle.std.proofs.Common.{◌≡◌, ◌∷◌, ◌++◌, [], map, rules, sym, ap, ◌∙◌}
use Rattle.eden_globs.specs.declared.pattern.Token.TheVariants.{Run, Byte}
use Rattle.eden_globs.specs.internal.Compiled.{tokens_match}
use Rattle.eden_globs.proofs.Tokens.{beginning_match, bytes_match, ending_match}
use Rattle.eden_globs.proofs.pattern.Part.from_tokens.Goals as goal

pub returns-in-Some-clause-names : goal.returns-in-Some-clause-names
returns-in-Some-clause-names c =
    let e : c.args.tokens.items ≡ map Byte c.in-Some.bytes.items = search rules in
    λ name. bytes_match c.in-Some.bytes.items name ∙ ap (λ ts. tokens_match ts name) (sym e)

pub returns-in-Some-2-clause-names : goal.returns-in-Some-2-clause-names
returns-in-Some-2-clause-names c =
    let e : c.args.tokens.items ≡ Run ∷ map Byte c.in-Some-2.bytes.items = search rules in
    λ name. ending_match c.in-Some-2.bytes.items name ∙ ap (λ ts. tokens_match ts name) (sym e)

pub returns-in-Some-3-clause-names : goal.returns-in-Some-3-clause-names
returns-in-Some-3-clause-names c =
    let e : c.args.tokens.items ≡ map Byte c.in-Some-3.bytes.items ++ Run ∷ [] = search rules in
    λ name. beginning_match c.in-Some-3.bytes.items name ∙ ap (λ ts. tokens_match ts name) (sym e)
