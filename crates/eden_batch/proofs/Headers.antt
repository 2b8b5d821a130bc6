-- A header, field by field.
use Rattle.std.proofs.Common.{◌≡◌, ℕ, ◌^◌, ◌<◌, List, [], ◌∷◌, ◌++◌, length, take, drop, refl, sym, ap, ◌∙◌, arith, append_assoc, length-append, Err}
use Rattle.std.proofs.lemmas.List.{drop_at, take_at}
use Rattle.eden_ids.specs.declared.id.Id.{Id}
use Rattle.eden_ids.specs.Texts.{IsIdText}
use Rattle.eden_git.specs.declared.object_type.ObjectType.{ObjectType}
use Rattle.eden_git.specs.declared.object_type.ObjectType.TheVariants.{Blob}
use Rattle.eden_objects.specs.Objects.{Held}
use Rattle.eden_batch.specs.BatchLaws.{IsPrefixFree}
use Rattle.eden_batch.specs.Batches.{header}
use Rattle.eden_batch.specs.internal.Fields.{IsAnyType, IsHeader, IsSize, Reads, header_field, id_field, size_field, type_field}
use Rattle.eden_batch.specs.declared.fields.Lack.{Lack}
use Rattle.eden_batch.specs.declared.fields.Lack.TheVariants.{Partial, Bad}
use Rattle.eden_batch.specs.declared.header.Header.{Header}
use Rattle.eden_batch.proofs.Ids.{id_split}
use Rattle.eden_batch.proofs.Sizes.{size_split}
use Rattle.eden_batch.proofs.Types.{type_split}

-- a header's fields, with what is after it
pub fields : (id : Id) (object_type : ObjectType) (size : ℕ) (more : List ℕ) → header id object_type size ++ more ≡ id_field id ++ (type_field object_type ++ (size_field size ++ more))
unfolding header
fields id object_type size more =
    append_assoc (id_field id) (type_field object_type ++ size_field size) more ∙ ap (λ l. id_field id ++ l) (append_assoc (type_field object_type) (size_field size) more)

-- a header is read in one way
pub header_split : (id other : Id) (object_type last : ObjectType) (m n : ℕ) (a b : List ℕ) → IsIdText id → IsIdText other → m < 2 ^ 64 → n < 2 ^ 64
    → header id object_type m ++ a ≡ header other last n ++ b → (id ≡ other) × (object_type ≡ last) × (m ≡ n) × (a ≡ b)
header_split id other object_type last m n a b is also fits too e =
    let ids = id_split id other (type_field object_type ++ (size_field m ++ a)) (type_field last ++ (size_field n ++ b)) is also
    (sym (fields id object_type m a) ∙ e ∙ fields other last n b) in
    let types = type_split object_type last (size_field m ++ a) (size_field n ++ b) ids.1 in
    let sizes = size_split m n a b fits too types.1 in
    (ids.0, types.0, sizes.0, sizes.1)

module _ (bytes : List ℕ) where
  -- what begins no id begins no header
  pub bad_id : ((id : Id) (rest more : List ℕ) → IsIdText id → bytes ++ rest ≡ id_field id ++ more → ⊥)
      → (h : Header) (rest more : List ℕ) → IsHeader h → bytes ++ rest ≡ header_field h ++ more → ⊥
  bad_id bad h rest more is e = bad h.id rest (type_field h.object_type ++ (size_field h.size ++ more)) is.0 (e ∙ fields h.id h.object_type h.size more)

  pub part_of_id : (id : Id) (more : List ℕ) → IsIdText id → 0 < length more → bytes ++ more ≡ id_field id
      → (h : Header) × (more : List ℕ) × IsHeader h × (0 < length more) × (bytes ++ more ≡ header_field h)
  unfolding header
  part_of_id id more is some e =
      let behind = type_field Blob ++ size_field 0 in (
        record { id = id; object_type = Blob; size = 0 },
        more ++ behind,
        (is, omega arith),
        omega (arith, length-append more behind),
        sym (append_assoc bytes more behind) ∙ ap (λ l. l ++ behind) e,
      )

module _ (bytes behind : List ℕ) (id : Id) (is : IsIdText id) (cut : bytes ≡ id_field id ++ behind) where
  cut_id : (rest : List ℕ) → bytes ++ rest ≡ id_field id ++ (behind ++ rest)
  cut_id rest = ap (λ l. l ++ rest) cut ∙ append_assoc (id_field id) behind rest

  pub bad_type : ((object_type : ObjectType) (rest more : List ℕ) → Unit {0} → behind ++ rest ≡ type_field object_type ++ more → ⊥)
      → (h : Header) (rest more : List ℕ) → IsHeader h → bytes ++ rest ≡ header_field h ++ more → ⊥
  bad_type bad h rest more valid e =
      let ids = id_split id h.id (behind ++ rest) (type_field h.object_type ++ (size_field h.size ++ more)) is valid.0
      (sym (cut_id rest) ∙ e ∙ fields h.id h.object_type h.size more) in
      bad h.object_type rest (size_field h.size ++ more) tt ids.1

  pub part_of_type : (object_type : ObjectType) (more : List ℕ) → 0 < length more → behind ++ more ≡ type_field object_type
      → (h : Header) × (more : List ℕ) × IsHeader h × (0 < length more) × (bytes ++ more ≡ header_field h)
  unfolding header
  part_of_type object_type more some e =
      let last = size_field 0 in (
        record { id = id; object_type = object_type; size = 0 },
        more ++ last,
        (is, omega arith),
        omega (arith, length-append more last),
        cut_id (more ++ last) ∙ ap (λ l. id_field id ++ l) (sym (append_assoc behind more last) ∙ ap (λ l. l ++ last) e),
      )

  module _ (last : List ℕ) (object_type : ObjectType) (next : behind ≡ type_field object_type ++ last) where
    cut_type : (rest : List ℕ) → bytes ++ rest ≡ id_field id ++ (type_field object_type ++ (last ++ rest))
    cut_type rest = cut_id rest ∙ ap (λ l. id_field id ++ l) (ap (λ l. l ++ rest) next ∙ append_assoc (type_field object_type) last rest)

    pub bad_size : ((size : ℕ) (rest more : List ℕ) → IsSize size → last ++ rest ≡ size_field size ++ more → ⊥)
        → (h : Header) (rest more : List ℕ) → IsHeader h → bytes ++ rest ≡ header_field h ++ more → ⊥
    bad_size bad h rest more valid e =
        let ids = id_split id h.id (type_field object_type ++ (last ++ rest)) (type_field h.object_type ++ (size_field h.size ++ more)) is valid.0
        (sym (cut_type rest) ∙ e ∙ fields h.id h.object_type h.size more) in
        let types = type_split object_type h.object_type (last ++ rest) (size_field h.size ++ more) ids.1 in
        bad h.size rest more valid.1 types.1

    pub part_of_size : (size : ℕ) (more : List ℕ) → IsSize size → 0 < length more → last ++ more ≡ size_field size
        → (h : Header) × (more : List ℕ) × IsHeader h × (0 < length more) × (bytes ++ more ≡ header_field h)
    unfolding header
    part_of_size size more fits some e =
        (record { id = id; object_type = object_type; size = size }, more, (is, fits), some, cut_type more ∙ ap (λ l. id_field id ++ (type_field object_type ++ l)) e)

    pub whole_header : (size : ℕ) (end : List ℕ) → IsSize size → last ≡ size_field size ++ end
        → IsHeader (record { id = id; object_type = object_type; size = size }) × (bytes ≡ header_field (record { id = id; object_type = object_type; size = size }) ++ end)
    whole_header size end fits e =
        ((is, fits), cut ∙ ap (λ l. id_field id ++ l) (next ∙ ap (λ l. type_field object_type ++ l) e) ∙ sym (fields id object_type size end))

-- what lacks a field lacks a header
pub lacks_id : (bytes : List ℕ) (lack : Lack) → Reads IsIdText id_field bytes (Err lack) → Reads IsHeader header_field bytes (Err lack)
lacks_id bytes Partial lacks = part_of_id bytes lacks.0 lacks.1 lacks.2 lacks.3 lacks.4
lacks_id bytes Bad lacks = bad_id bytes lacks

pub lacks_type : (bytes behind : List ℕ) (id : Id) → IsIdText id → bytes ≡ id_field id ++ behind → (lack : Lack)
    → Reads IsAnyType type_field behind (Err lack) → Reads IsHeader header_field bytes (Err lack)
lacks_type bytes behind id is cut Partial lacks = part_of_type bytes behind id is cut lacks.0 lacks.1 lacks.3 lacks.4
lacks_type bytes behind id is cut Bad lacks = bad_type bytes behind id is cut lacks

pub lacks_size : (bytes behind : List ℕ) (id : Id) → IsIdText id → bytes ≡ id_field id ++ behind → (last : List ℕ) (object_type : ObjectType)
    → behind ≡ type_field object_type ++ last → (lack : Lack) → Reads IsSize size_field last (Err lack) → Reads IsHeader header_field bytes (Err lack)
lacks_size bytes behind id is cut last object_type next Partial lacks = part_of_size bytes behind id is cut last object_type next lacks.0 lacks.1 lacks.2 lacks.3 lacks.4
lacks_size bytes behind id is cut last object_type next Bad lacks = bad_size bytes behind id is cut last object_type next lacks

held_is : (object other : Held) → object.id ≡ other.id → object.object_type ≡ other.object_type → object.payload ≡ other.payload → object ≡ other
held_is object other i w p =
    ap (λ id. record { id = id; object_type = object.object_type; payload = object.payload }) i
    ∙ ap (λ object_type. record { id = other.id; object_type = object_type; payload = object.payload }) w
    ∙ ap (λ payload. record { id = other.id; object_type = other.object_type; payload = payload }) p

-- no object's text is a front of another's
pub prefix_free : IsPrefixFree
prefix_free object other more last is also e =
    let front = object.payload ++ 10 ∷ [] in
    let back = other.payload ++ 10 ∷ [] in
    let few : length object.payload < 2 ^ 64 = let most = is.few in omega arith in
    let less : length other.payload < 2 ^ 64 = let most = also.few in omega arith in
    let both = header_split object.id other.id object.object_type other.object_type (length object.payload) (length other.payload) (front ++ more) (back ++ last) is.id also.id few less
    (sym (append_assoc (header object.id object.object_type (length object.payload)) front more) ∙ e ∙ append_assoc (header other.id other.object_type (length other.payload)) back last) in
    let behind : object.payload ++ 10 ∷ more ≡ other.payload ++ 10 ∷ last =
    sym (append_assoc object.payload (10 ∷ []) more) ∙ both.3 ∙ append_assoc other.payload (10 ∷ []) last in
    let size = length other.payload in
    let payload : object.payload ≡ other.payload =
    sym (take_at object.payload (10 ∷ more) size both.2) ∙ ap (take size) behind ∙ take_at other.payload (10 ∷ last) size refl in
    let rest : 10 ∷ more ≡ 10 ∷ last =
    sym (drop_at object.payload (10 ∷ more) size both.2) ∙ ap (drop size) behind ∙ drop_at other.payload (10 ∷ last) size refl in
    (held_is object other both.0 both.1 payload, ap (drop 1) rest)
