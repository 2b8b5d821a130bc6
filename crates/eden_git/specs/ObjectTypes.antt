-- Git's names of the types of objects.
use Rattle.std.specs.Prelude.{ℕ, Bool, true, false, List, codes}
use Rattle.eden_git.specs.declared.object_type.ObjectType.{ObjectType}
use Rattle.eden_git.specs.declared.object_type.ObjectType.TheVariants.{Blob, Tree, Commit}

-- Git's name of a type (`git help hash-object`)
abbrev pub type_text : ObjectType → List ℕ
type_text Blob = codes "blob"
type_text Tree = codes "tree"
type_text Commit = codes "commit"

abbrev pub same_type : ObjectType → ObjectType → Bool
same_type Blob Blob = true
same_type Tree Tree = true
same_type Commit Commit = true
same_type _ _ = false
