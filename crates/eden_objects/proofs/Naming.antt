-- Where a naming gave each id, an object's kind and payload say its id.
use Rattle.std.proofs.Common.{◌≡◌, ℕ, inl, inr, List, [], ◌∷◌, Option, Some, None, sym, ap, subst, ◌∙◌}
use Rattle.std.proofs.lemmas.Bool.{cases_Bool}
use Rattle.eden_ids.specs.declared.id.Id.{Id}
use Rattle.eden_ids.specs.declared.content.Content.{Content}
use Rattle.eden_objects.specs.Objects.{Held, find, payload_of}
use Rattle.eden_git.specs.declared.object_type.ObjectType.TheVariants.{Blob}
use Rattle.eden_git.specs.ObjectTypes.{type_text}
use Rattle.eden_ids.specs.Sameness.{same_id}
use Rattle.eden_objects.specs.Closed.{AllNamed, IsHeld}
use Rattle.eden_objects.specs.Laws.{EqualObjectsAreOne, EqualFilesHaveOneBlob}
use Rattle.eden_objects.proofs.Closed.{find-here, find-there}
use Rattle.eden_segments.proofs.Distinct.{same_id-is}

-- an object that is found has the id that was asked for
pub found_id : (held : List Held) (id : Id) (h : Held) → find id held ≡ Some h → id ≡ h.id
found_id [] id h found = absurd (cc)
found_id (top ∷ earlier) id h found = elim (cases_Bool (same_id id top.id)) [
  | inl t ↦
      let e : Some top ≡ Some h = sym (find-here id top earlier t) ∙ found in
      let same : top ≡ h = cc in
      same_id-is id top.id t ∙ ap (λ o. o.id) same
  | inr f ↦ found_id earlier id h (sym (find-there id top earlier f) ∙ found)
]

-- it is the one that its kind and its payload are given
pub named_id : (name : List ℕ → List ℕ → Id) (held : List Held) → AllNamed name held → (id : Id) (h : Held) → find id held ≡ Some h → name (type_text h.object_type) h.payload ≡ h.id
named_id name [] named id h found = absurd (cc)
named_id name (top ∷ earlier) named id h found = elim (cases_Bool (same_id id top.id)) [
  | inl t ↦
      let e : Some top ≡ Some h = sym (find-here id top earlier t) ∙ found in
      let same : top ≡ h = cc in
      subst (λ o. name (type_text o.object_type) o.payload ≡ o.id) same named.0
  | inr f ↦ named_id name earlier named.1 id h (sym (find-there id top earlier f) ∙ found)
]

-- a blob that is found has the id that its bytes are given
pub blob_id : (name : List ℕ → List ℕ → Id) (held : List Held) → AllNamed name held → (id : Id) → IsHeld held Blob id → name (type_text Blob) (payload_of (find id held)) ≡ id
blob_id name held named id is =
    (λ at. name (type_text (sym is.2 at)) (payload_of (is.1 at)))
    ∙ named_id name held named id is.0 is.1
    ∙ sym (found_id held id is.0 is.1)

pub one_object : EqualObjectsAreOne
one_object name held named i j h k first second object_type payload =
    found_id held i h first ∙ sym (named_id name held named i h first)
    ∙ (λ at. name (type_text (object_type at)) (payload at))
    ∙ named_id name held named j k second ∙ sym (found_id held j k second)

bytes_found : Option Content → List ℕ
bytes_found None = []
bytes_found (Some file) = file.bytes

pub same_contents : EqualFilesHaveOneBlob
unfolding bytes_found
same_contents name held named kind i j first second same =
    one_object name held named i j first.0 second.0 first.1 second.1 (first.2 ∙ sym second.2)
    (ap payload_of (sym first.1) ∙ ap bytes_found same ∙ ap payload_of second.1)
