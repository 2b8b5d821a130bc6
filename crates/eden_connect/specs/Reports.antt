-- What is printed of a mirror in the end. Bytes: 10 is LF, 32 a space.
use Rattle.std.specs.Prelude.{ℕ, List, [], ◌∷◌, ◌++◌, length, take, codes, Option, Some, None}
use Rattle.std.specs.Fmt.{decimal}
use Rattle.std.specs.Io.KnownBytes.{Appends}
use Rattle.std.specs.List.{flat_map}
use Rattle.hex.specs.Hex.{encode_lower}
use Rattle.eden_ids.specs.declared.content.Content.{Content}
use Rattle.eden_ids.specs.FileMaps.{FileMap, file_at, paths}
use Rattle.eden_history.specs.declared.position.Position.{Position}
use Rattle.eden_messages.specs.Mirrors.{MirrorState}
use Rattle.eden_script.specs.Escapes.{escaped}
use Rattle.eden_script.specs.ToldText.{kind_text}

-- the generation, the sequence number and the root
abbrev pub position_text : Position → List ℕ
position_text position =
    codes "placed " ++ decimal position.generation ++ (32 ∷ decimal position.sequence) ++ (32 ∷ encode_lower position.root.0) ++ (10 ∷ [])

-- where the mirror is
abbrev pub place_text : Option Position → List ℕ
place_text None = codes "unplaced\n"
place_text (Some position) = position_text position

-- the kind of a file, how many bytes it has, and its path
abbrev pub file_text : List ℕ → Option Content → List ℕ
file_text path None = []
file_text path (Some file) = kind_text file.kind ++ (32 ∷ decimal (length file.bytes)) ++ (32 ∷ escaped path) ++ (10 ∷ [])

-- how many files there are, and each of them, in the order of their paths
abbrev pub files_text : FileMap → List ℕ
files_text files =
    codes "files " ++ decimal (length (paths files)) ++ (10 ∷ []) ++ flat_map (λ path. file_text path (file_at files path)) (paths files)

abbrev pub report_text : MirrorState → List ℕ
report_text m = place_text m.place ++ files_text m.files

-- the first bytes of a text were written
abbrev pub AppendsFront : Option (List ℕ) → Option (List ℕ) → List ℕ → Type 0
AppendsFront old new text = (count : ℕ) × Appends old new (take count text)
