-- The key of an entry, by its name and what follows it.
use Rattle.std.proofs.Common.{◌≡◌, refl, ℕ, List, ◌++◌, Option, Some, None}
use Rattle.std.proofs.lemmas.List.{append-nil}
use Rattle.eden_ids.specs.declared.content.Kind.{Kind}
use Rattle.eden_git.specs.declared.entry.RawEntry.{RawEntry}
use Rattle.eden_git.specs.Trees.{key, key_of}
use Rattle.eden_git.specs.Entries.{plain}
use Rattle.eden_git.specs.internal.Parts.{ending_of}

key_of_parts : (name : List ℕ) (kind : Option Kind) → name ++ ending_of kind ≡ key_of name kind
key_of_parts name None = refl
key_of_parts name (Some kind) = append-nil name

pub key_is : (e : RawEntry) → e.name.now ++ ending_of e.kind ≡ key (plain e)
key_is e = key_of_parts e.name.now e.kind
