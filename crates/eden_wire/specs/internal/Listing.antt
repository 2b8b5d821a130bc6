-- The items of a list that is being read.
use Rattle.std.specs.Prelude.{◌-◌, List, length, Option, slice_get}

-- the item that was read last, if one was
abbrev pub last_item : {A : Type 0} → List A → Option A
last_item items = slice_get items (length items - 1)
