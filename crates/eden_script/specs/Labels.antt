-- The names that a script gives to objects, and what each is bound to. A label may be
-- bound more than once.
use Rattle.std.specs.Prelude.{ℕ, Bool, false, ◌&&◌, if◌then◌else◌, List, [], ◌∷◌, reverse, Option, Some, None, option_map, find}
use Rattle.eden_ids.specs.declared.id.Id.{Id}
use Rattle.eden_objects.specs.Objects.{zero_id}
use Rattle.eden_ids.specs.Sameness.{same_bytes, same_id}
use Rattle.eden_script.specs.declared.label.Binding.{Binding}
use Rattle.eden_script.specs.LabelWords.{is_empty}

-- ---- the bindings made so far, newest first

-- the id to which a label was bound last
abbrev pub newest : List Binding → List ℕ → Option Id
newest [] label = None
newest (binding ∷ earlier) label = if same_bytes label binding.label then Some binding.id else newest earlier label

-- what a label is bound to
abbrev pub bound : List Binding → List ℕ → Option Id
bound bindings label = if is_empty label then Some zero_id else newest bindings label

abbrev pub is_id : Option Id → Id → Bool
is_id None id = false
is_id (Some found) id = same_id found id

-- a binding to the id, whose label is bound to the id now, by this binding or by another
-- one
abbrev pub still_binds : List Binding → Id → Binding → Bool
still_binds bindings id binding = same_id binding.id id && is_id (newest bindings binding.label) id

-- Of the labels ever bound to the id, in the order in which each was first bound to it:
-- the first that is bound to it now. So it is the label of the oldest binding to the id
-- whose label is bound to the id now.
abbrev pub label_of : List Binding → Id → Option (List ℕ)
label_of bindings id = option_map (λ binding. binding.label) (find (still_binds bindings id) (reverse bindings))
