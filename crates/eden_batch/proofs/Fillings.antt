-- What the putting of one object more does to a store that is being filled.
use Rattle.std.proofs.Common.{◌≡◌, ◌≢◌, ℕ, ◌^◌, ◌<◌, ◌≤◌, ◌⊎◌, inl, Bool, true, false, not, List, [], ◌∷◌, ◌++◌, length, map, take, refl, sym, ap, ◌∙◌, subst, arith, append_assoc, length-append, Result, Ok, Err}
use Rattle.std.specs.Cmp.Lexicographic.{bytes_decides}
use Rattle.std.proofs.lemmas.List.{append-nil, map-append, take_at}
use Rattle.std.proofs.lemmas.List.Elements.{All-push}
use Rattle.eden_ids.specs.declared.id.Id.{Id}
use Rattle.eden_ids.specs.Sameness.{same_id}
use Rattle.eden_git.specs.declared.object_type.ObjectType.{ObjectType}
use Rattle.eden_objects.specs.Imports.{IsOver, put_typed}
use Rattle.eden_objects.specs.Objects.{Held}
use Rattle.eden_objects.specs.Puts.{Outcome}
use Rattle.eden_objects.specs.declared.fault.PutFault.{PutFault}
use Rattle.eden_objects.specs.declared.fault.PutFault.TheVariants as put
use Rattle.eden_batch.specs.Batches.{IsObject, header, written}
use Rattle.eden_batch.specs.Puttings.{ArePut, IsPut}
use Rattle.eden_batch.specs.internal.Fields.{IsHeader, Reads, header_field}
use Rattle.eden_batch.specs.internal.Grammar.{IsPrinted}
use Rattle.eden_batch.specs.internal.Loads.{AreSame, Fails, FailsAt, Fills, HaltsAt, IsItemPut, Puts, put_story, refusal_of}
use Rattle.eden_stream.specs.Stories.{Tells}
use Rattle.eden_stream.specs.declared.teller.Step.TheVariants.{Fault}
use Rattle.eden_batch.specs.declared.fault.ObjectFault.TheVariants.{Refused}
use Rattle.eden_batch.specs.declared.fault.ObjectFault.{ObjectFault}
use Rattle.eden_batch.specs.declared.fields.Lack.{Lack}
use Rattle.eden_batch.specs.declared.fields.Lack.TheVariants.{Partial, Bad}
use Rattle.eden_batch.specs.declared.header.Header.{Header}
use Rattle.eden_batch.specs.declared.putting.Filling.{Filling}
use Rattle.eden_batch.proofs.Headers.{header_split}

-- what `!=` says of two ids
pub other_id : (a b : Id) → true ≡ not (same_id a b) → a ≢ b
other_id a b differs e = let same : same_id a b ≡ true = (bytes_decides a.0 b.0).1 (ap (λ id. id.0) e) in cc

pub equal_ids : (a b : Id) → false ≡ not (same_id a b) → a ≡ b
equal_ids a b same = let bytes : a.0 ≡ b.0 = (bytes_decides a.0 b.0).0 (is_true (same_id a b) same) in ap (λ b. record { 0 = b }) bytes
  where
    is_true : (b : Bool) → false ≡ not b → b ≡ true
    is_true true e = refl
    is_true false e = cc

module _ (item : List ℕ) (printed : IsPrinted item) where
  fits : length printed.0.payload < 2 ^ 64
  fits = let few = printed.1.few in omega arith

  -- a whole object begins with a header
  pub never_lacks : (lack : Lack) → Reads IsHeader header_field item (Err lack) → ⊥
  never_lacks Partial part =
      let o = printed.0 in
      let behind = o.payload ++ 10 ∷ [] in
      let both = header_split o.id part.0.id o.object_type part.0.object_type (length o.payload) part.0.size (behind ++ part.1) [] printed.1.id part.2.0 fits part.2.1
      (sym (append_assoc (header o.id o.object_type (length o.payload)) behind part.1) ∙ ap (λ l. l ++ part.1) (sym printed.2) ∙ part.4 ∙ sym (append-nil (header_field part.0))) in
      omega (arith, ap length both.3, length-append behind part.1, length-append o.payload (10 ∷ []))
  never_lacks Bad bad =
      let o = printed.0 in
      bad (record { id = o.id; object_type = o.object_type; size = length o.payload }) [] (o.payload ++ 10 ∷ []) (printed.1.id, fits) (append-nil item ∙ printed.2)

  module _ (h : Header) (behind : List ℕ) (is : IsHeader h) (cut : item ≡ header_field h ++ behind) where
    parts : (h.id ≡ printed.0.id) × (h.object_type ≡ printed.0.object_type) × (h.size ≡ length printed.0.payload) × (behind ≡ printed.0.payload ++ 10 ∷ [])
    parts =
        let o = printed.0 in
        header_split h.id o.id h.object_type o.object_type h.size (length o.payload) behind (o.payload ++ 10 ∷ []) is.0 printed.1.id is.1 fits (sym cut ∙ printed.2)

    pub id_is : h.id ≡ printed.0.id
    id_is = parts.0

    pub type_is : h.object_type ≡ printed.0.object_type
    type_is = parts.1

    pub there : h.size ≤ length behind
    there = omega (arith, parts.2, ap length parts.3, length-append printed.0.payload (10 ∷ []))

    pub payload_is : take h.size behind ≡ printed.0.payload
    payload_is = ap (take h.size) parts.3 ∙ take_at printed.0.payload (10 ∷ []) h.size (sym parts.2)

    pub outcome_is : (name : List ℕ → List ℕ → Id) (held : List Held) (outcome : Outcome) → put_typed name h.object_type (take h.size behind) held ≡ outcome
        → put_typed name printed.0.object_type printed.0.payload held ≡ outcome
    outcome_is name held outcome e =
        sym (ap (λ object_type. put_typed name object_type (take h.size behind) held) type_is ∙ ap (λ payload. put_typed name printed.0.object_type payload held) payload_is) ∙ e

    -- an object that is put under the header's id is put under its own
    pub put_own : (name : List ℕ → List ℕ → Id) (held new : List Held) (id : Id) → false ≡ not (same_id id h.id) → put_typed name h.object_type (take h.size behind) held ≡ Ok (id, new)
        → (id ≡ printed.0.id) × IsPut name printed.0 held new
    put_own name held new id same e =
        let own = equal_ids id h.id same ∙ id_is in
        (own, outcome_is name held (Ok (id, new)) e ∙ ap (λ i. Ok (i, new)) own)

    pub puts_is : (result : Result Id PutFault) (name : List ℕ → List ℕ → Id) (held new : List Held) → Puts result name h.object_type (take h.size behind) held new
        → Puts result name printed.0.object_type printed.0.payload held new
    puts_is result name held new puts =
        subst (λ payload. Puts result name printed.0.object_type payload held new) payload_is
        (subst (λ object_type. Puts result name object_type (take h.size behind) held new) type_is puts)

put_more : (name : List ℕ → List ℕ → Id) (objects : List Held) (object : Held) (old held new : List Held) → ArePut name objects old held → IsPut name object held new
    → ArePut name (objects ++ object ∷ []) old new
put_more name [] object old held new put one = (new, subst (λ h. IsPut name object h new) put one, refl)
put_more name (o ∷ os) object old held new put one = (put.0, put.1, put_more name os object put.0 held new put.2 one)

pub refusal_is : (cause : PutFault) → (cause ≡ put.NoMemory → ⊥) → Fault (Refused cause) ≡ refusal_of cause
refusal_is put.NoMemory other = absurd (other refl)
refusal_is cause other = refl

module _ {name : List ℕ → List ℕ → Id} {old held : List Held} {noted ids : List Id} {items : List (List ℕ)} (fills : Fills name old held noted ids items) (new : List Held) (item : List ℕ) where
  pub fills_more : (printed : IsPrinted item) → IsPut name printed.0 held new → Fills name old new noted (ids ++ printed.0.id ∷ []) (items ++ item ∷ [])
  fills_more (object, is, item_is) put = record {
    objects = fills.objects ++ object ∷ [];
    have = record {
      items_are = ap (λ l. l ++ item ∷ []) fills.have.items_are ∙ ap (λ i. map written fills.objects ++ i ∷ []) item_is ∙ sym (map-append written fills.objects (object ∷ []));
      each = All-push IsObject fills.objects object fills.have.each is;
      put = put_more name fills.objects object old held new fills.have.put put;
    };
    ids_are =
        ap (λ l. l ++ object.id ∷ []) fills.ids_are ∙ append_assoc noted (map (λ o. o.id) fills.objects) (object.id ∷ [])
        ∙ ap (λ l. noted ++ l) (sym (map-append (λ o. o.id) fills.objects (object ∷ [])));
  }

  pub halts_at : (new ≡ held) ⊎ IsItemPut name item held new → HaltsAt name old new noted ids items item
  halts_at grown = record { objects = fills.objects; held = held; have = fills.have; ids_are = fills.ids_are; grown = grown }

  pub fails_at : (fault : ObjectFault) (printed : IsPrinted item) → Fails name printed.0 held new fault → FailsAt name old new items item fault
  fails_at fault (object, is, item_is) fails = record {
    objects = fills.objects;
    held = held;
    object = object;
    have = fills.have;
    is_object = is;
    item_is = item_is;
    fails = fails;
  }

-- what a call that puts gives, case by case
pub puts_of : (fault : PutFault) (name : List ℕ → List ℕ → Id) (object_type : ObjectType) (payload : List ℕ) (held new : List Held) → new ≡ held
    → (fault ≢ put.NoMemory → put_typed name object_type payload held ≡ Err fault) → Puts (Err fault) name object_type payload held new
puts_of put.NoMemory name object_type payload held new same refuses = same
puts_of fault name object_type payload held new same refuses = (same, refuses (λ e. cc e))

module _ {I : Type 0} (name : List ℕ → List ℕ → Id) (held : I → List Held) (over : I → List Held → I) (laws : IsOver held over) where
  -- what is filled further is the same still
  pub same_still : (before filling now : Filling I) → AreSame name held over before filling → now.into.ghost_name ≡ filling.into.ghost_name
      → now.ids.ghost_name ≡ filling.ids.ghost_name → now.into.now ≡ over filling.into.now (held now.into.now) → AreSame name held over before now
  same_still before filling now same into ids only = record {
    into = into ∙ same.into;
    ids = ids ∙ same.ids;
    only = only ∙ ap (λ i. over i (held now.into.now)) same.only ∙ laws.again before.into.now (held filling.into.now) (held now.into.now);
  }

  pub same_at_first : (filling : Filling I) → AreSame name held over filling filling
  same_at_first filling = record { into = refl; ids = refl; only = sym (laws.same filling.into.now) }

module _ {I : Type 0} (name : List ℕ → List ℕ → Id) (has : I → List Held) (over : I → List Held → I) where
  -- what is said of an object that is refused
  pub tells_refused : (before now : Filling I) → AreSame name has over before now → (held : List Held) (items : List (List ℕ))
      → Fills name (has before.into.now) held before.ids.now.items now.ids.now.items items → (cause : PutFault) (sent item text : List ℕ) (printed : IsPrinted item)
      → Puts (Err cause) name printed.0.object_type printed.0.payload held (has now.into.now)
      → Tells (put_story name has over before now) items sent item text text (refusal_of cause)
  tells_refused before now same held items fills put.NoMemory sent item text printed puts = (same, halts_at fills (has now.into.now) item (inl puts))
  tells_refused before now same held items fills cause sent item text printed puts =
      (same, fails_at fills (has now.into.now) item (Refused cause) printed (puts.1, puts.0))
