-- Paths: names joined by slashes, within Git's rules for names in a tree and Railburnet's
-- limits. Bytes are numbers; 46 is `.` and 47 is `/`.
use Rattle.std.specs.Prelude.{◌≡◌, ℕ, Bool, not, ◌&&◌, ◌||◌, ◌==◌, if◌then◌else◌, nat_eq, nat_le, nat_lt, List, [], ◌∷◌, ◌++◌, length, Option, Some, None}
use Rattle.std.specs.List.{slice_split, list_all, list_any, starts_with}
use Rattle.std.specs.Cmp.Lexicographic.{pointwise}
use Rattle.eden_ids.specs.declared.path.PathFault.{PathFault}
use Rattle.eden_ids.specs.declared.path.PathFault.TheVariants.{Empty, TooLong, BadComponent, TooDeep}

-- the parts between slashes
abbrev pub components : List ℕ → List (List ℕ)
components bytes = slice_split (λ b. b == 47) bytes

-- a name: 1 to 255 bytes, neither `.` nor `..`, no NUL
abbrev pub is_component : List ℕ → Bool
is_component name = nat_lt 0 (length name) && nat_le (length name) 255 && not (pointwise nat_eq name (46 ∷ []))
    && not (pointwise nat_eq name (46 ∷ 46 ∷ [])) && not (list_any (λ b. b == 0) name)

-- the first reason why bytes are not a path
abbrev pub path_fault : List ℕ → Option PathFault
path_fault bytes =
    if length bytes == 0 then Some Empty else
    if nat_lt 1024 (length bytes) then Some TooLong else
    if not (list_all is_component (components bytes)) then Some BadComponent else
    if nat_lt 64 (length (components bytes)) then Some TooDeep else None

abbrev pub IsPath : List ℕ → Type 0
IsPath bytes = path_fault bytes ≡ None

-- the path is below the other, as a file is below a directory
abbrev pub lies_below : List ℕ → List ℕ → Bool
lies_below path top = starts_with nat_eq path (top ++ 47 ∷ [])

-- no tree can hold both paths: one would be a directory and also a file
abbrev pub clashes : List ℕ → List ℕ → Bool
clashes p q = lies_below p q || lies_below q p
