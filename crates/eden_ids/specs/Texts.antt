-- The limits of values, beside their shape: a byte is below 256, and a path, an id and a
-- file keep Railburnet's limits.
use Rattle.std.specs.Prelude.{◌≡◌, ℕ, ◌<◌, ◌≤◌, List, length, Some}
use Rattle.std.specs.List.{AllByRecursion}
use Rattle.eden_ids.specs.declared.id.Id.{Id}
use Rattle.eden_ids.specs.declared.content.Content.{Content}
use Rattle.eden_ids.specs.Paths.{IsPath}
use Rattle.eden_ids.specs.FileMaps.{FileMap, file_at}

abbrev pub AreBytes : List ℕ → Type 0
AreBytes bytes = AllByRecursion (λ b. b < 256) bytes

-- the bytes of a path
pub record IsPathText (text : List ℕ) : Type 0 where
  pub path : IsPath text
  pub bytes : AreBytes text

-- an id is twenty bytes
pub record IsIdText (id : Id) : Type 0 where
  pub twenty : length id.0 ≡ 20
  pub bytes : AreBytes id.0

-- a file has at most 8 MiB
pub record IsContentText (content : Content) : Type 0 where
  pub few : length content.bytes ≤ 8388608
  pub bytes : AreBytes content.bytes

-- each path of the map is a path, and each file is within the limit
abbrev pub AreTexts : FileMap → Type 0
AreTexts files = (path : List ℕ) (file : Content) → file_at files path ≡ Some file → IsPathText path × IsContentText file
