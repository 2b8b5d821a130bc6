-- Where the first binding to each id is among the bindings that were made, which are given with the
-- oldest first.
use Rattle.std.specs.Prelude.{◌≡◌, ℕ, ◌≤◌, Bool, false, if◌then◌else◌, List, length, take, Option, Some, None}
use Rattle.std.specs.List.{list_any}
use Rattle.std.specs.Map.{lookup}
use Rattle.eden_ids.specs.declared.id.Id.{Id}
use Rattle.eden_ids.specs.Sameness.{same_id}
use Rattle.eden_script.specs.declared.label.Binding.{Binding}

abbrev pub binds_any : Id → List Binding → Bool
binds_any id made = list_any (λ binding. same_id binding.id id) made

-- none comes before the place, or there is none
abbrev pub IsFirst : Id → Option ℕ → List Binding → Type 0
IsFirst id None made = binds_any id made ≡ false
IsFirst id (Some at) made = (at ≤ length made) × (binds_any id (take at made) ≡ false)

abbrev pub AreFirsts : List (Id × ℕ) → List Binding → Type 0
AreFirsts places made = (id : Id) → IsFirst id (lookup (same_id id) places) made

-- a place that is noted for an id that had none
abbrev pub place_or : Option ℕ → Bool → ℕ → Option ℕ
place_or None same at = if same then Some at else None
place_or (Some first) same at = Some first

abbrev pub IsNoted : List (Id × ℕ) → List (Id × ℕ) → Id → ℕ → Type 0
IsNoted old new id at = (other : Id) → lookup (same_id other) new ≡ place_or (lookup (same_id other) old) (same_id other id) at
