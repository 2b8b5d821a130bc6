-- What a put that was tried makes of the session.
use Rattle.std.proofs.Common.{◌≡◌, ◌≢◌, ℕ, List, ◌∷◌, Option, Some, None, Result, Ok, Err, sym, ap, ◌∙◌}
use Rattle.std.specs.Prelude.{IfOk, IfErr, OnErr}
use Rattle.eden_ids.specs.declared.id.Id.{Id}
use Rattle.eden_objects.specs.declared.fault.PutFault.{PutFault}
use Rattle.eden_objects.specs.declared.fault.PutFault.TheVariants.{NoMemory}
use Rattle.eden_objects.specs.Objects.{Held}
use Rattle.eden_objects.specs.Puts.{Outcome}
use Rattle.eden_history.specs.Imports.{over_held}
use Rattle.eden_history.specs.Worlds.{WorldState}
use Rattle.eden_script.specs.declared.label.Binding.{Binding}
use Rattle.eden_script.specs.declared.told.Refusal.TheVariants as refusal
use Rattle.eden_script.specs.declared.told.Told.TheVariants as told
use Rattle.eden_script.specs.Sessions.{objects_in, put_acted}
use Rattle.eden_edend.specs.internal.Standing.{Gave, session_of, session_put}

pub put_bound : (mounted : Option WorldState) (held more : List Held) (bindings after : List Binding) (label : List ℕ) (id : Id) (outcome : Outcome)
    → after ≡ record { label = label; id = id } ∷ bindings → Gave (Ok id) (objects_in held mounted) more outcome
    → put_acted (session_of mounted held bindings) label outcome ≡ (session_put mounted held more after, told.Done)
put_bound None held more bindings after label id outcome bound gives =
    ap (put_acted (session_of None held bindings) label) gives ∙ ap (λ (b : List Binding). (session_of None more b, told.Done)) (sym bound)
put_bound (Some world) held more bindings after label id outcome bound gives =
    ap (put_acted (session_of (Some world) held bindings) label) gives
    ∙ ap (λ (b : List Binding). (session_of (Some (over_held world more)) held b, told.Done)) (sym bound)

pub put_refused : (mounted : Option WorldState) (held more : List Held) (bindings : List Binding) (label : List ℕ) (fault : PutFault) (outcome : Outcome)
    → fault ≢ NoMemory → Gave (Err fault) (objects_in held mounted) more outcome
    → put_acted (session_of mounted held bindings) label outcome ≡ (session_put mounted held more bindings, told.Refused (refusal.Put fault))
put_refused None held more bindings label fault outcome apart gives =
    let step = gives apart in
    ap (put_acted (session_of None held bindings) label) step.1
    ∙ ap (λ (h : List Held). (session_of None h bindings, told.Refused (refusal.Put fault))) (sym step.0)
put_refused (Some world) held more bindings label fault outcome apart gives =
    let step = gives apart in
    ap (put_acted (session_of (Some world) held bindings) label) step.1
    ∙ ap (λ (h : List Held). (session_of (Some (over_held world h)) held bindings, told.Refused (refusal.Put fault))) (sym step.0)

-- what a call that puts gives
pub put_gave : (put : Result Id PutFault) (old new : List Held) (outcome : Outcome) → IfOk put (λ id. outcome ≡ Ok (id, new)) → OnErr put (new ≡ old)
    → IfErr put (λ fault. fault ≢ NoMemory → outcome ≡ Err fault) → Gave put old new outcome
put_gave (Ok id) old new outcome ok err refuses = ok
put_gave (Err fault) old new outcome ok err refuses = λ apart. (err, refuses apart)
