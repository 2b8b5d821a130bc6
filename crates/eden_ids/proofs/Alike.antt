-- When `==` says that two values are the same: where they are one.
use Rattle.std.proofs.Common.{◌≡◌, ℕ, Bool, List, Option, None, Some, rules}
use Rattle.std.specs.Bool.{Decides}
use Rattle.std.specs.Option.{option_eq}
use Rattle.std.specs.Prelude.{nat_eq}
use Rattle.std.specs.Cmp.Lexicographic.{pointwise, bytes_decides, pointwise_decides}
use Rattle.eden_ids.specs.declared.content.Content.{Content}
use Rattle.eden_ids.specs.declared.content.Kind.{Kind}
use Rattle.eden_ids.specs.declared.id.Id.{Id}
use Rattle.eden_ids.specs.contracts.content.ContentPartialEq.TheImpl as content
use Rattle.eden_ids.specs.contracts.content.KindPartialEq.TheImpl as kind
use Rattle.eden_ids.specs.contracts.id.IdPartialEq.TheImpl as id

pub id_decides : (a b : Id) → Decides (id.ghosts.eq a b) (a ≡ b)
id_decides a b = search (rules, bytes_decides)

pub kind_decides : (a b : Kind) → Decides (kind.ghosts.eq a b) (a ≡ b)
kind_decides a b = search rules

pub content_decides : (a b : Content) → Decides (content.ghosts.eq a b) (a ≡ b)
content_decides a b = search (rules, kind_decides, bytes_decides)

-- lists of paths
pub paths_decide : (a b : List (List ℕ)) → Decides (pointwise (pointwise nat_eq) a b) (a ≡ b)
paths_decide = pointwise_decides bytes_decides

option_decides : {A : Type 0} {E : A → A → Bool} → ((a b : A) → Decides (E a b) (a ≡ b)) → (x y : Option A) → Decides (option_eq E x y) (x ≡ y)
option_decides each None None = search rules
option_decides each None (Some b) = search rules
option_decides each (Some a) None = search rules
option_decides each (Some a) (Some b) = search (rules, each)

-- what is at a path, or nothing
pub found_decides : (a b : Option Content) → Decides (option_eq content.ghosts.eq a b) (a ≡ b)
found_decides = option_decides content_decides
