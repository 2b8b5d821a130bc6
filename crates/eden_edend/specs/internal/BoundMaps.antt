-- What each label is bound to, as a finite map.
use Rattle.std.specs.Prelude.{List, [], ◌∷◌}
use Rattle.std.specs.Ordering.{nat_cmp}
use Rattle.std.specs.Cmp.Lexicographic.{slice_cmp}
use Rattle.std.specs.FinMap as fin
use Rattle.eden_ids.specs.declared.id.Id.{Id}
use Rattle.eden_script.specs.declared.label.Binding.{Binding}

abbrev pub BoundMap : Type 0
BoundMap = fin.FinMap (slice_cmp nat_cmp) Id

-- the map of these bindings, the newest first
abbrev pub bound_map : List Binding → BoundMap
bound_map [] = fin.empty
bound_map (binding ∷ earlier) = fin.insert (bound_map earlier) binding.label binding.id
