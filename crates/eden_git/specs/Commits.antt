-- The first line of a commit, as `git cat-file commit` prints it.
use Rattle.std.specs.Prelude.{ℕ, ◌&&◌, if◌then◌else◌, List, take, drop, codes, nat_eq, Option, Some, None, Result, Ok, Err}
use Rattle.std.specs.List.{starts_with}
use Rattle.eden_ids.specs.declared.id.Id.{Id}
use Rattle.eden_ids.specs.declared.hex_text.HexFault.{HexFault}
use Rattle.eden_ids.specs.Hex.{id_of_hex}

-- the tree that a commit names: its payload begins with `tree `, the tree's id in hexadecimal and a
-- line feed
abbrev pub id_read : Result Id HexFault → Option Id
id_read (Ok id) = Some id
id_read (Err fault) = None

abbrev pub tree_named : List ℕ → Option Id
tree_named payload =
    if starts_with nat_eq payload (codes "tree ") && starts_with nat_eq (drop 45 payload) (codes "\n")
    then id_read (id_of_hex (take 40 (drop 5 payload))) else None
