use Rattle.std.proofs.Common.{◌≡◌, ℕ, List, Option, ◌++◌, ap, sym, ◌∙◌}
use Rattle.std.specs.Option.{option_map}
use Rattle.eden_ids.specs.declared.id.Id.{Id}
use Rattle.eden_ids.specs.FileMaps.{FileMap, file_at}
use Rattle.eden_objects.specs.Stats.{stat_of}
use Rattle.eden_renames.specs.Renames.{Renames, file_from, seen_through, source_of}
use Rattle.eden_renames.proofs.Seen.{file_at-seen}
use Rattle.eden_renames.proofs.Settled.{too_long}
use Rattle.eden_renames.proofs.renamed.stat_through.Goals as goal

-- what is seen at a path, by the commit's path that is meant there
meant : (name : List ℕ → List ℕ → Id) (commit : FileMap) (renames : Renames) (path : List ℕ) (source : Option (List ℕ)) → source ≡ source_of renames path
    → option_map (stat_of name) (file_from commit source) ≡ option_map (stat_of name) (file_at (seen_through commit renames) path)
meant name commit renames path source is = ap (λ (s : Option (List ℕ)). option_map (stat_of name) (file_from commit s)) is ∙ ap (option_map (stat_of name)) (sym (file_at-seen commit renames path))

pub returns-in-Own : goal.returns-in-Own
returns-in-Own g c = c.stat.ensures ∙ meant g.N.Naming.id c.args.commit.now c.args.renames.now c.args.path.now _ c.in-Own.ensures

pub returns-in-Nothing : goal.returns-in-Nothing
returns-in-Nothing g c = meant g.N.Naming.id c.args.commit.now c.args.renames.now c.args.path.now _ c.in-Nothing.ensures

pub returns-in_err-source-in-Below : goal.returns-in_err-source-in-Below
returns-in_err-source-in-Below g c =
    c.from_residual.ensures
    ∙ ap (option_map (stat_of g.N.Naming.id))
    (too_long c.args.commit.now c.texts_law.ensures (c.as_bytes.result.now ++ c.in-Below.rest.now) c.in_err-source-in-Below.ensures
    ∙ ap (λ p. file_at c.args.commit.now (p ++ c.in-Below.rest.now)) c.as_bytes.ensures.bytes)
    ∙ meant g.N.Naming.id c.args.commit.now c.args.renames.now c.args.path.now _ c.in-Below.ensures

pub returns-in_ok-source-in-Below : goal.returns-in_ok-source-in-Below
returns-in_ok-source-in-Below g c =
    c.stat-in-Below.ensures
    ∙ ap (λ p. option_map (stat_of g.N.Naming.id) (file_at c.args.commit.now p))
    (c.as_slice.ensures.value ∙ c.in_ok-source-in-Below.ensures ∙ ap (λ p. p ++ c.in-Below.rest.now) c.as_bytes.ensures.bytes)
    ∙ meant g.N.Naming.id c.args.commit.now c.args.renames.now c.args.path.now _ c.in-Below.ensures
