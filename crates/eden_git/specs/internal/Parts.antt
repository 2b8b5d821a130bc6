-- Parts of an entry, as the code gives them.
use Rattle.std.specs.Prelude.{ℕ, List, [], ◌∷◌, take, drop, length, nat_lt, if◌then◌else◌, Option, Some, None}
use Rattle.std.specs.Borrow.{Bor}
use Rattle.eden_ids.specs.declared.content.Kind.{Kind}
use Rattle.eden_ids.specs.declared.id.Id.{Id}

abbrev pub id_front : List ℕ → Option (Id × List ℕ)
id_front bytes = if nat_lt (length bytes) 20 then None else Some (record { 0 = take 20 bytes }, drop 20 bytes)

abbrev pub id_of_parts : Option (Id × Bor (List ℕ)) → Option (Id × List ℕ)
id_of_parts None = None
id_of_parts (Some parts) = Some (parts.0, parts.1.now)

-- what follows a name where entries are compared
abbrev pub ending_of : Option Kind → List ℕ
ending_of None = 47 ∷ []
ending_of (Some kind) = []
