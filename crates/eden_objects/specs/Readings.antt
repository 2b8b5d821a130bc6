-- What is read of one tree: its payload, and its entries one by one.
use Rattle.std.specs.Prelude.{ℕ, List, Option, Some, None, if◌then◌else◌}
use Rattle.eden_ids.specs.declared.id.Id.{Id}
use Rattle.eden_git.specs.declared.object_type.ObjectType.TheVariants.{Tree}
use Rattle.eden_objects.specs.Objects.{Held, find}
use Rattle.eden_git.specs.ObjectTypes.{same_type}
use Rattle.eden_git.specs.Trees.{Entry, entries_of}

-- the payload of the tree with an id
abbrev pub tree_in : Option Held → Option (List ℕ)
tree_in None = None
tree_in (Some h) = if same_type h.object_type Tree then Some h.payload else None

abbrev pub tree_payload : List Held → Id → Option (List ℕ)
tree_payload held id = tree_in (find id held)

abbrev pub entries_in : Option (List ℕ) → Option (List Entry)
entries_in None = None
entries_in (Some payload) = Some (entries_of payload)

-- the entries of the tree with an id, in their order
abbrev pub tree_entries : List Held → Id → Option (List Entry)
tree_entries held id = entries_in (tree_payload held id)
