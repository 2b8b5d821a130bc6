-- The limits of every store: a payload has at most 8 MiB, and its bytes are below 256.
use Rattle.std.specs.Prelude.{◌≤◌, List, length}
use Rattle.std.specs.List.{AllByRecursion}
use Rattle.eden_ids.specs.Texts.{AreBytes}
use Rattle.eden_objects.specs.Objects.{Held}

pub record IsSmall (object : Held) : Type 0 where
  pub few : length object.payload ≤ 8388608
  pub bytes : AreBytes object.payload

abbrev pub AreSmall : List Held → Type 0
AreSmall held = AllByRecursion IsSmall held
