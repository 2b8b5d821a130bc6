use Rattle.std.proofs.Common.{rules, refl, true}
use Rattle.std.specs.Ordering.{nat_cmp}
use Rattle.std.specs.Cmp.Lexicographic.{slice_cmp}
use Rattle.std.specs.BTreeSet.{Updates}
use Rattle.eden_objects.proofs.Noted.{noted}
use Rattle.eden_objects.proofs.earlier_entries.Seen.note.Goals as goal

pub returns : goal.returns
returns c = λ earlier seen.
    let updates : Updates (λ a b. slice_cmp nat_cmp a.now b.now) c.args.self.now.names c.insert.new.self c.args.entry.name true = search rules in
    (noted c.args.self.now.names c.insert.new.self c.args.entry.name earlier updates seen.0, refl)
