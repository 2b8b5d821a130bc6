-- What a put call answers, case by case.
use Rattle.std.proofs.Common.{◌≡◌, ◌∙◌, refl, ap, Bool, true, false, cond, List, ◌∷◌, Some, None, Ok, Err}
use Rattle.eden_ids.specs.declared.id.Id.{Id}
use Rattle.eden_objects.specs.declared.stored.Stored.{Stored}
use Rattle.eden_objects.specs.declared.fault.PutFault.TheVariants.{IdTaken}
use Rattle.eden_objects.specs.Objects.{Held, find, zero_id}
use Rattle.eden_ids.specs.Sameness.{same_id}
use Rattle.eden_objects.specs.Puts.{PutGives, put_outcome}
use Rattle.eden_objects.specs.Contents.{held_of}
use Rattle.eden_objects.specs.internal.Kept.{standing_answer, is_object}

pub added : (new : Held) (held : List Held) → same_id new.id zero_id ≡ false → find new.id held ≡ None
    → put_outcome new held ≡ Ok (new.id, new ∷ held)
added new held zero absent = rw (zero, absent) refl

pub no_memory : (new : Held) (held : List Held) (id : Id) → new.id ≡ id → same_id id zero_id ≡ false → find id held ≡ None
    → (i : Id) × (more : Held) × (put_outcome new held ≡ Ok (i, more ∷ held))
no_memory new held id is zero absent =
    (new.id, new, added new held (ap (λ i. same_id i zero_id) is ∙ zero) (ap (λ i. find i held) is ∙ absent))

pub standing : (new : Held) (held : List Held) (id : Id) (object : Stored) → new.id ≡ id → same_id id zero_id ≡ false
    → find id held ≡ Some (held_of id object)
    → PutGives (standing_answer object id new.object_type new.payload) held held (put_outcome new held)
standing new held id object is zero found =
    rw (ap (λ i. same_id i zero_id) is ∙ zero, ap (λ i. find i held) is ∙ found)
    (by (is_object object new.object_type new.payload)) where
      by : (t : Bool) → PutGives (cond t (Ok id) (Err IdTaken)) held held (cond t (Ok (new.id, held)) (Err IdTaken))
      by true = ap (λ i. Ok (i, held)) is
      by false = (refl, refl)
