-- The entries that were read so far, and the words that are left.
use Rattle.std.proofs.Common.{◌≡◌, List, [], ◌∷◌, ◌++◌, Option, Some, None, refl, ap, append_assoc, append-nil}
use Rattle.eden_script.specs.declared.command.TreeEntry.{TreeEntry}
use Rattle.eden_script.specs.ScriptLines.{entry_before}

-- entries put before others
abbrev pub all_before : List TreeEntry → Option (List TreeEntry) → Option (List TreeEntry)
all_before read None = None
all_before read (Some entries) = Some (read ++ entries)

pub one_more : (read : List TreeEntry) (entry : TreeEntry) (others : Option (List TreeEntry))
    → all_before (read ++ entry ∷ []) others ≡ all_before read (entry_before (Some entry) others)
one_more read entry None = refl
one_more read entry (Some entries) = ap Some (append_assoc read (entry ∷ []) entries)

pub none_before : (others : Option (List TreeEntry)) → all_before [] others ≡ others
none_before None = refl
none_before (Some entries) = refl

pub all_read : (read : List TreeEntry) → all_before read (Some []) ≡ Some read
all_read read = ap Some (append-nil read)
