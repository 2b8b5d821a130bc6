-- The labels that commits have before a script binds any.
use Rattle.std.specs.Prelude.{◌≡◌, List, ◌++◌, map, reverse, is_some}
use Rattle.std.specs.List.{filter}
use Rattle.eden_ids.specs.declared.id.Id.{Id}
use Rattle.eden_objects.specs.Commits.{commit_rows}
use Rattle.eden_objects.specs.Objects.{Held}
use Rattle.eden_script.specs.declared.label.Binding.{Binding}
use Rattle.eden_script.specs.LabelWords.{own_label}

abbrev pub own_binding : Id → Binding
own_binding id = record { label = own_label id; id = id }

-- those of these ids that are commits', each bound to its own label; the newest first
abbrev pub own_bindings : List Held → List Id → List Binding
own_bindings held ids = reverse (map own_binding (filter (λ id. is_some (commit_rows held id)) ids))

-- some first ones of these ids are bound so, in front of the old bindings
abbrev pub BindsSome : List Held → List Id → List Binding → List Binding → Type 0
BindsSome held ids old new = (first : List Id) × (left : List Id) × (ids ≡ first ++ left) × (new ≡ own_bindings held first ++ old)
