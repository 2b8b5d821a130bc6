-- What the words of a script's line ask for: a row of the table of lines, or nothing if
-- no row matches them.
use Rattle.std.specs.Prelude.{ℕ, if◌then◌else◌, List, [], ◌∷◌, codes, Option, Some, None, option_map, option_and_then}
use Rattle.eden_ids.specs.declared.content.Kind.{Kind}
use Rattle.eden_ids.specs.declared.content.Kind.TheVariants.{Plain, Exec, Link}
use Rattle.eden_ids.specs.Sameness.{same_bytes}
use Rattle.eden_history.specs.declared.change.Mode.{Mode}
use Rattle.eden_history.specs.declared.change.Mode.TheVariants.{Normal, Dry, Force}
use Rattle.eden_git.specs.Numbers.{number_of}
use Rattle.eden_script.specs.LabelWords.{label_read, label_to_bind}
use Rattle.eden_script.specs.declared.command.Command.{Command}
use Rattle.eden_script.specs.declared.command.Command.TheVariants as line
use Rattle.eden_script.specs.declared.command.PutLine.{PutLine}
use Rattle.eden_script.specs.declared.command.PutLine.TheVariants as put
use Rattle.eden_script.specs.declared.command.ChangeLine.{ChangeLine}
use Rattle.eden_script.specs.declared.command.ChangeLine.TheVariants as change
use Rattle.eden_script.specs.declared.command.AskLine.{AskLine}
use Rattle.eden_script.specs.declared.command.AskLine.TheVariants as ask
use Rattle.eden_script.specs.declared.command.TreeEntry.{TreeEntry}

abbrev pub kind_of : List ℕ → Option Kind
kind_of word =
    if same_bytes word (codes "plain") then Some Plain else
    if same_bytes word (codes "exec") then Some Exec else
    if same_bytes word (codes "link") then Some Link else None

abbrev pub mode_of : List ℕ → Option Mode
mode_of word =
    if same_bytes word (codes "normal") then Some Normal else
    if same_bytes word (codes "force") then Some Force else
    if same_bytes word (codes "dry") then Some Dry else None

-- ---- a line with no more words, with one, with two and with three, each read by a
-- function; a word is taken as it is by `Some`

abbrev pub none : {C : Type 0} → C → List (List ℕ) → Option C
none line [] = Some line
none line _ = None

abbrev pub one : {A C : Type 0} → (List ℕ → Option A) → (A → C) → List (List ℕ) → Option C
one first line (a ∷ []) = option_map line (first a)
one first line _ = None

abbrev pub two : {A B C : Type 0} → (List ℕ → Option A) → (List ℕ → Option B) → (A → B → C) → List (List ℕ) → Option C
two first second line (a ∷ b ∷ []) = option_and_then (λ x. option_map (line x) (second b)) (first a)
two first second line _ = None

abbrev pub three : {A B D C : Type 0} → (List ℕ → Option A) → (List ℕ → Option B) → (List ℕ → Option D) → (A → B → D → C) → List (List ℕ) → Option C
three first second third line (a ∷ b ∷ c ∷ []) = option_and_then (λ x. option_and_then (λ y. option_map (line x y) (third c)) (second b)) (first a)
three first second third line _ = None

-- ---- the entries of a tree

abbrev pub entry_of : List ℕ → List ℕ → List ℕ → Option TreeEntry
entry_of mode name label = option_map (λ l. record { mode = mode; name = name; label = l }) (label_read label)

abbrev pub entry_before : Option TreeEntry → Option (List TreeEntry) → Option (List TreeEntry)
entry_before None entries = None
entry_before (Some entry) entries = option_map (λ es. entry ∷ es) entries

-- an entry for each three words
abbrev pub entries_of : List (List ℕ) → Option (List TreeEntry)
entries_of [] = Some []
entries_of (mode ∷ name ∷ label ∷ words) = entry_before (entry_of mode name label) (entries_of words)
entries_of _ = None

-- a label, and the entries after it
abbrev pub tree_of : List (List ℕ) → Option PutLine
tree_of [] = None
tree_of (label ∷ words) = option_and_then (λ l. option_map (put.Tree l) (entries_of words)) (label_to_bind label)

-- ---- the table, one row for each line, by the first word and the others

abbrev puts : Option PutLine → Option Command
puts = option_map line.Put

abbrev changes : Option ChangeLine → Option Command
changes = option_map line.Change

abbrev asks : Option AskLine → Option Command
asks = option_map line.Ask

abbrev mounts : List ℕ → ℕ → ℕ → Command
mounts label generation limit = line.Mount (record { label = label; generation = generation; limit = limit })

abbrev pub first_of : List ℕ → List (List ℕ) → Option Command
first_of first words =
    if same_bytes first (codes "blob") then puts (two label_to_bind Some put.Blob words) else
    if same_bytes first (codes "commit") then puts (two label_to_bind label_read put.Commit words) else
    if same_bytes first (codes "id") then one label_read line.Id words else
    if same_bytes first (codes "mount") then three label_read number_of number_of mounts words else None

abbrev pub change_of : List ℕ → List (List ℕ) → Option Command
change_of first words =
    if same_bytes first (codes "write") then changes (three Some kind_of Some change.Write words) else
    if same_bytes first (codes "remove") then changes (one Some change.Remove words) else
    if same_bytes first (codes "rename") then changes (two Some Some change.Rename words) else
    if same_bytes first (codes "renamedir") then changes (two Some Some change.RenameDir words) else
    if same_bytes first (codes "reset") then changes (one label_read change.Reset words) else
    if same_bytes first (codes "flush") then changes (none change.Flush words) else
    if same_bytes first (codes "remount") then changes (one number_of change.Remount words) else
    if same_bytes first (codes "checkout") then changes (two label_read mode_of change.Checkout words) else first_of first words

abbrev pub ask_of : List ℕ → List (List ℕ) → Option Command
ask_of first words =
    if same_bytes first (codes "position") then asks (none ask.Position words) else
    if same_bytes first (codes "list") then Some (line.Ask (ask.ListFiles words)) else
    if same_bytes first (codes "dirty") then asks (none ask.Dirty words) else
    if same_bytes first (codes "read") then asks (one Some ask.Read words) else
    if same_bytes first (codes "since") then asks (two number_of number_of ask.Since words) else change_of first words

-- what the words of a line ask for
abbrev pub command_of : List (List ℕ) → Option Command
command_of [] = None
command_of (first ∷ words) = if same_bytes first (codes "tree") then puts (tree_of words) else ask_of first words
