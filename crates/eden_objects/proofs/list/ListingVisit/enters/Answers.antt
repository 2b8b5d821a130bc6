use Rattle.std.proofs.Common.{refl, sym, ap, ◌∙◌, ◌++◌}
use Rattle.std.proofs.lemmas.List.{append-nil}
use Rattle.eden_globs.specs.Filters.{admits}
use Rattle.eden_objects.proofs.Gathering.{none_wanted}
use Rattle.eden_objects.proofs.list.ListingVisit.enters.Goals as goal

pub returns : goal.returns
returns c = λ refuses rows below.
    let found = c.args.self.now.rows.items in
    let none = none_wanted (admits c.args.self.now.filter.now) c.args.directory.now rows (c.admits_below.ensures.outside refuses) below in
    (refl, sym (ap (λ more. found ++ more) none ∙ append-nil found))
