-- Whether a commit is there.
use Rattle.std.proofs.Common.{◌≡◌, true, false, List, Option, Some, None, is_some, refl, sym, ap}
use Rattle.std.specs.Prelude.{IsSome}
use Rattle.eden_ids.specs.declared.id.Id.{Id}
use Rattle.eden_ids.specs.FileMaps.{FileMap}
use Rattle.eden_objects.specs.Objects.{Held}
use Rattle.eden_objects.specs.Commits.{Row, commit_map, commit_rows, map_of_rows}
use Rattle.eden_history.specs.declared.change.ChangeFault.{ChangeFault}
use Rattle.eden_history.specs.declared.change.ChangeFault.TheVariants.{NoCommit}
use Rattle.eden_history.specs.Outcome.{commit_fault}

there_by : (held : List Held) (rows : Option (List Row)) → is_some rows ≡ true → ◌≡◌ {A = Option ChangeFault} None (commit_fault (map_of_rows held rows))
there_by held None e = absurd (cc)
there_by held (Some rows) e = refl

pub commit_there : (held : List Held) (id : Id) → is_some (commit_rows held id) ≡ true → None ≡ commit_fault (commit_map held id)
commit_there held id e = there_by held (commit_rows held id) e

mapped_by : (held : List Held) (rows : Option (List Row)) → is_some rows ≡ true → IsSome (map_of_rows held rows)
mapped_by held None e = absurd (cc)
mapped_by held (Some rows) e = refl

pub commit_mapped : (held : List Held) (id : Id) → is_some (commit_rows held id) ≡ true → IsSome (commit_map held id)
commit_mapped held id e = mapped_by held (commit_rows held id) e

unmapped_by : (held : List Held) (rows : Option (List Row)) → is_some rows ≡ false → ◌≡◌ {A = Option FileMap} (map_of_rows held rows) None
unmapped_by held None e = refl
unmapped_by held (Some rows) e = absurd (cc)

pub commit_unmapped : (held : List Held) (id : Id) → is_some (commit_rows held id) ≡ false → commit_map held id ≡ None
commit_unmapped held id e = unmapped_by held (commit_rows held id) e

pub commit_gone : (held : List Held) (id : Id) → is_some (commit_rows held id) ≡ false → Some NoCommit ≡ commit_fault (commit_map held id)
commit_gone held id e = sym (ap commit_fault (commit_unmapped held id e))
