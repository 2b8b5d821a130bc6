use Rattle.std.proofs.Common.{◌≡◌, ℕ, List, Option, Some, None, rules, sym, ap, ◌∙◌}
use Rattle.std.specs.Option.{option_map}
use Rattle.std.specs.FinMap as fin
use Rattle.eden_ids.specs.FileMaps.{file_at}
use Rattle.eden_objects.specs.declared.stat.Stat.{Stat}
use Rattle.eden_objects.specs.Stats.{stat_of}
use Rattle.eden_renames.specs.Renames.{at_paths}
use Rattle.eden_overlay.proofs.Overs.{file_below, file_told}
use Rattle.eden_accumulate.proofs.Seen.{at_path}
use Rattle.eden_accumulate.proofs.snapshot.Snapshot.stat_over.Goals as goal

pub returns-in-Some-Some : goal.returns-in-Some-Some
returns-in-Some-Some g c =
    let is : fin.get c.args.self.now.overlay c.args.path.now ≡ Some (Some c.in-Some-Some.content) = search rules in
    ap (λ (s : Stat). Some s) c.of.ensures
    ∙ ap (option_map (stat_of g.N.Naming.id)) (sym (file_told (at_paths c.args.base.now) c.args.self.now.overlay c.args.path.now (Some c.in-Some-Some.content) is))

pub returns-in-Some-None : goal.returns-in-Some-None
returns-in-Some-None g c =
    let is : fin.get c.args.self.now.overlay c.args.path.now ≡ Some None = search rules in
    ap (option_map (stat_of g.N.Naming.id)) (sym (file_told (at_paths c.args.base.now) c.args.self.now.overlay c.args.path.now None is))

pub returns-in-None : goal.returns-in-None
returns-in-None g c =
    let is : fin.get c.args.self.now.overlay c.args.path.now ≡ None = search rules in
    c.stat.ensures
    ∙ ap (λ (path : List ℕ). option_map (stat_of g.N.Naming.id) (file_at c.args.base.now path)) c.as_bytes-in-None.ensures.bytes
    ∙ ap (option_map (stat_of g.N.Naming.id))
    (sym (file_below c.args.base.now c.args.self.now.overlay c.args.path.now is) ∙ at_path c.args.base.now c.args.self.now.overlay c.args.path.now c.path_law.ensures.path)
