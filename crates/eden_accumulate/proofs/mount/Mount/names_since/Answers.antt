use Rattle.std.proofs.Common.{◌≡◌, None, sym, subst}
use Rattle.eden_accumulate.specs.Mounts.{State, StandsFor}
use Rattle.eden_accumulate.specs.Ranges.{EndsNow, IsStatus}
use Rattle.eden_accumulate.proofs.Changing.{state}
use Rattle.eden_accumulate.proofs.Naming.{names_are, way_open}
use Rattle.eden_accumulate.proofs.mount.Mount.names_since.Goals as goal

pub name_paths-requires-clause-open_way : goal.name_paths-requires-clause-open_way
name_paths-requires-clause-open_way g c =
    let m = c.self.inside in
    let mount = state m.store m.work m.journal.log in
    way_open mount c.args.position.now c.in-Ok.range c.in_ok-recent.recent c.self.invariant (record {
      good = subst (λ (m : State). IsStatus m c.args.position.now None) (sym c.self.view_is) c.in-Ok.ensures.accepts;
      from = c.in-Ok.ensures.from;
      runs = c.in_ok-recent.ensures;
    })

pub returns-in-Ok-name_paths-clause-marked : goal.returns-in-Ok-name_paths-clause-marked
returns-in-Ok-name_paths-clause-marked g c = λ world h.
    let m = c.self.inside in
    let mount = state m.store m.work m.journal.log in
    let named = c.in-Ok-name_paths.ensures.named in
    names_are mount c.args.position.now c.in-Ok.range c.in_ok-recent.recent c.args.wanted.now c.in-Ok-name_paths.marked.items
    (record {
      good = subst (λ (m : State). IsStatus m c.args.position.now None) (sym c.self.view_is) c.in-Ok.ensures.accepts;
      from = c.in-Ok.ensures.from;
      runs = c.in_ok-recent.ensures;
    })
    (subst (λ (m : State). EndsNow m c.in-Ok.range) (sym c.self.view_is) c.in-Ok.ensures.ends)
    (λ w s.
    let at = subst (λ (m : State). StandsFor m w) c.self.view_is s in record {
      changes = c.in-Ok.ensures.changes w at;
      prefixes = c.in-Ok.ensures.prefixes w at;
      unclean = c.in-Ok.ensures.unclean w at;
      roots = c.in-Ok.ensures.roots w at;
    })
    (record { before = named.0; were = named.1; list = named.2 })
    world (subst (λ (m : State). StandsFor m world) (sym c.self.view_is) h)
