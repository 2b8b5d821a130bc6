-- Git's naming, for repositories whose object format is SHA-1.
use Rattle.std.specs.Prelude.{ℕ, List, [], ◌∷◌, ◌++◌, length, decimal}
use Rattle.sha1.specs.Sha1.{sha1}
use Rattle.eden_ids.specs.declared.id.Id.{Id}

-- the text whose hash names an object: the type's word, a space, the payload's length in
-- decimal, NUL, the payload
abbrev pub object_text : List ℕ → List ℕ → List ℕ
object_text word payload = word ++ 32 ∷ [] ++ decimal (length payload) ++ 0 ∷ [] ++ payload

-- the id that Git gives an object, by its type's word and its payload
abbrev pub git_name : List ℕ → List ℕ → Id
git_name word payload = record { 0 = sha1 (object_text word payload) }
