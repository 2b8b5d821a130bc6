-- What `git cat-file --batch` prints (`git help cat-file`, "Batch output"): for each object a
-- header, its bytes and a line feed.
use Rattle.std.specs.Prelude.{◌≡◌, ◌≢◌, ℕ, ◌^◌, ◌<◌, ◌≤◌, ◌⊎◌, List, [], ◌∷◌, ◌++◌, length, decimal}
use Rattle.std.specs.List.{flat_map}
use Rattle.hex.specs.Hex.{encode_lower}
use Rattle.eden_ids.specs.declared.id.Id.{Id}
use Rattle.eden_ids.specs.Texts.{IsIdText}
use Rattle.eden_git.specs.declared.object_type.ObjectType.{ObjectType}
use Rattle.eden_git.specs.ObjectTypes.{type_text}
use Rattle.eden_objects.specs.Objects.{Held}

-- the most bytes of an object: 8 MiB
abbrev pub object_limit : ℕ
object_limit = 8388608

-- a header: an id, the type of an object, and a number of bytes in decimal; after the first
-- two a space, and after the last a line feed
unfoldable pub header : Id → ObjectType → ℕ → List ℕ
header id object_type size = (encode_lower id.0 ++ 32 ∷ []) ++ ((type_text object_type ++ 32 ∷ []) ++ (decimal size ++ 10 ∷ []))

-- an object: its header, its bytes and a line feed
abbrev pub written : Held → List ℕ
written object = header object.id object.object_type (length object.payload) ++ (object.payload ++ 10 ∷ [])

-- objects, one after another
abbrev pub batch : List Held → List ℕ
batch objects = flat_map written objects

-- an id of twenty bytes, and a size within the limit
pub record IsObject (object : Held) : Type 0 where
  pub id : IsIdText object.id
  pub few : length object.payload ≤ object_limit

-- whatever bytes follow, they do not begin with a header. A size in a header is below 2 ^ 64
abbrev pub HasNoHeader : List ℕ → Type 0
HasNoHeader bytes = (id : Id) (object_type : ObjectType) (size : ℕ) (rest more : List ℕ) → IsIdText id → size < 2 ^ 64
    → bytes ++ rest ≡ header id object_type size ++ more → ⊥

-- the header of an object within the limit, its bytes, and after them another byte than a line feed
pub record LacksLineFeed (bytes : List ℕ) : Type 0 where
  pub object : Held
  pub byte : ℕ
  pub more : List ℕ
  pub is_object : IsObject object
  pub other : byte ≢ 10
  pub cut : bytes ≡ header object.id object.object_type (length object.payload) ++ (object.payload ++ byte ∷ more)

-- a header whose size is above the limit, and below 2 ^ 64 as in any header
pub record HasLargeHeader (bytes : List ℕ) : Type 0 where
  pub id : Id
  pub object_type : ObjectType
  pub size : ℕ
  pub more : List ℕ
  pub is_id : IsIdText id
  pub fits : size < 2 ^ 64
  pub large : object_limit < size
  pub cut : bytes ≡ header id object_type size ++ more

-- the beginning of a header, and not all of it
pub record HasPartOfHeader (bytes : List ℕ) : Type 0 where
  pub id : Id
  pub object_type : ObjectType
  pub size : ℕ
  pub more : List ℕ
  pub is_id : IsIdText id
  pub fits : size < 2 ^ 64
  pub some : 0 < length more
  pub cut : bytes ++ more ≡ header id object_type size

-- the beginning of an object within the limit, and not all of it
pub record HasPartOfObject (bytes : List ℕ) : Type 0 where
  pub object : Held
  pub more : List ℕ
  pub is_object : IsObject object
  pub some : 0 < length more
  pub cut : bytes ++ more ≡ written object

-- the beginning of a header or of an object within the limit, and not all of it
abbrev pub IsPartial : List ℕ → Type 0
IsPartial bytes = HasPartOfHeader bytes ⊎ HasPartOfObject bytes
