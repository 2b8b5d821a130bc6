-- A body that asks for a change, one that answers it, and their fields are read by a byte in front,
-- as the decoder reads them.
use Rattle.std.proofs.Common.{◌≡◌, ℕ, Bool, true, false, cond, eqb, List, [], ◌∷◌, None, Result, Ok, Err, refl, ap, ◌∙◌, inl, inr, ◌⊎◌}
use Rattle.std.specs.Int.{w32, w64}
use Rattle.eden_history.specs.declared.change.Change.TheVariants.{Rename, RenameDir, Checkout, Reset, Flush, Remount, Import}
use Rattle.eden_history.specs.declared.change.ChangeFault.TheVariants.{BadObject}
use Rattle.eden_wire.specs.declared.command.Command.{Command}
use Rattle.eden_wire.specs.declared.command.Command.TheVariants.{Ask, Do}
use Rattle.eden_wire.specs.declared.command.Doing.{Doing}
use Rattle.eden_wire.specs.declared.done.Done.TheVariants.{NotWritable, At, Checked, Refused, Conflicting}
use Rattle.eden_wire.specs.declared.fault.DecodeFault.{DecodeFault}
use Rattle.eden_wire.specs.declared.fault.DecodeFault.TheVariants.{BadTag, BadField}
use Rattle.eden_wire.specs.Asked.{read_asked}
use Rattle.eden_wire.specs.Commands.{answered_of, answered_parts, change, change_cases, change_of, change_parts, done, done_by, done_cases, done_parts, doing_of, doing_parts, fault, fault_byte, fault_cases, fault_of, fault_parts, mode, no_object, objects, plain_faults, put_fault, putting, read_command, read_do, read_done}
use Rattle.eden_wire.specs.Formats.{◌>>=◌, Cases, byte_at, find, number, ◌▹◌, as_type, case, no_case, tagged}
use Rattle.eden_wire.specs.Messages.{content, id, path, paths_within, position, query}
use Rattle.eden_wire.specs.Reading.{read_to_end, tag_at}
use Rattle.eden_wire.specs.internal.Steps.{read_as}
use Rattle.eden_wire.proofs.Whole.{along_tag, chosen_end, message_whole, wrapped}

-- ---- fields

-- the value of a case becomes the field
case_as : {A B M : Type 0} (r : Result (A × List ℕ) DecodeFault) (wrap : A → B) (to : B → M) → (r >>= wrapped wrap) >>= wrapped to ≡ r >>= wrapped (λ x. to (wrap x))
case_as (Ok x) wrap to = refl
case_as (Err fault) wrap to = refl

chosen_as : {A B M : Type 0} (b : Bool) (r : Result (A × List ℕ) DecodeFault) (others : Result (B × List ℕ) DecodeFault) (to : A ⊎ B → M)
    → cond b (r >>= wrapped inl) (others >>= wrapped inr) >>= wrapped to ≡ cond b (r >>= wrapped (λ x. to (inl x))) (others >>= wrapped (λ y. to (inr y)))
chosen_as true r others to = case_as r inl to
chosen_as false r others to = case_as others inr to

-- a field by its first byte
field_whole : {B M : Type 0} (cases : Cases B) (to : B → M) (from : M → B) (bytes : List ℕ)
    → (as_type (tagged cases) to from).read bytes ≡ byte_at bytes >>= (λ t. cases.read t.0 t.1 >>= wrapped to)
field_whole cases to from [] = refl
field_whole cases to from (b ∷ bytes) = refl

pub change_whole : (bytes : List ℕ) → change.read bytes ≡ byte_at bytes >>= (λ t.
    cond (eqb t.0 1) (read_as (path ▹ content) (λ x. putting x.0 x.1) t.1) (
    cond (eqb t.0 2) (read_as (path ▹ path) (λ x. Rename x.0 x.1) t.1) (
    cond (eqb t.0 3) (read_as (path ▹ path) (λ x. RenameDir x.0 x.1) t.1) (
    cond (eqb t.0 4) (read_as (id ▹ mode) (λ x. Checkout x.0 x.1) t.1) (
    cond (eqb t.0 5) (read_as id (λ commit. Reset commit) t.1) (
    cond (eqb t.0 6) (Ok (Flush, t.1)) (
    cond (eqb t.0 7) (read_as (number w64) (λ generation. Remount generation) t.1) (
    cond (eqb t.0 8) (read_as objects (λ objects. Import objects) t.1) (Err BadField)))))))))
change_whole bytes = field_whole change_cases change_of change_parts bytes ∙ along_tag (byte_at bytes) _ _ (λ t. simp chosen_as)

pub fault_whole : (bytes : List ℕ) → fault.read bytes ≡ byte_at bytes >>= (λ t.
    cond (eqb t.0 10) (read_as (number w64 ▹ put_fault) (λ x. BadObject x.0 x.1) t.1) (find fault_byte plain_faults t.0 >>= λ f. no_object.read t.1 >>= λ y. Ok (f, y.1)))
fault_whole bytes =
    field_whole fault_cases fault_of fault_parts bytes ∙ along_tag (byte_at bytes) _ _ (λ t. simp (chosen_as, same_read))
  where
    same_read : {A : Type 0} (r : Result (A × List ℕ) DecodeFault) → r >>= wrapped (λ x. x) ≡ r
    same_read (Ok x) = refl
    same_read (Err f) = refl

pub done_whole : (bytes : List ℕ) → done.read bytes ≡ byte_at bytes >>= (λ t.
    cond (eqb t.0 0) (Ok (NotWritable, t.1)) (
    cond (eqb t.0 1) (read_as position (λ position. At position) t.1) (
    cond (eqb t.0 2) (read_as (position ▹ paths_within None) (λ x. Checked x.0 x.1) t.1) (
    cond (eqb t.0 3) (read_as fault (λ fault. Refused fault) t.1) (
    cond (eqb t.0 4) (read_as (position ▹ number w32) (λ x. Conflicting x.0 x.1) t.1) (Err BadField))))))
done_whole bytes = field_whole done_cases done_by done_parts bytes ∙ along_tag (byte_at bytes) _ _ (λ t. simp chosen_as)

-- ---- bodies

-- a change by what comes after its tag
abbrev doing_at : List ℕ → Result Doing DecodeFault
doing_at bytes = read_to_end (query ▹ change) (λ x. record { query = x.0; change = x.1 }) bytes

do_whole : (body : List ℕ) → read_do body ≡ tag_at body >>= (λ t. cond (eqb t.0 6) (doing_at t.1) (Err BadTag))
unfolding read_do
do_whole body = message_whole (case 6 (query ▹ change) (no_case BadTag)) doing_of doing_parts body ∙ along_tag (tag_at body) _ _ (λ t. simp chosen_end)

-- the tag is read once
tag_once : (r : Result (ℕ × List ℕ) DecodeFault) (change : List ℕ → Result Doing DecodeFault) (ask : Result Command DecodeFault)
    → r >>= (λ t. cond (eqb t.0 6) ((r >>= λ u. cond (eqb u.0 6) (change u.1) (Err BadTag)) >>= λ d. Ok (Do d)) ask) ≡ r >>= (λ t. cond (eqb t.0 6) (change t.1 >>= λ d. Ok (Do d)) ask)
tag_once (Err fault) change ask = refl
tag_once (Ok t) change ask = by (eqb t.0 6)
  where
    by : (b : Bool) → cond b (cond b (change t.1) (Err BadTag) >>= λ d. Ok (Do d)) ask ≡ cond b (change t.1 >>= λ d. Ok (Do d)) ask
    by true = refl
    by false = refl

pub command_whole : (body : List ℕ) → read_command body ≡ tag_at body >>= (λ t.
    cond (eqb t.0 6) (read_to_end (query ▹ change) (λ x. record { query = x.0; change = x.1 }) t.1 >>= λ d. Ok (Do d)) (read_asked body >>= λ a. Ok (Ask a)))
unfolding read_command
command_whole body =
    ap (λ (r : Result Doing DecodeFault). tag_at body >>= λ t. cond (eqb t.0 6) (r >>= λ d. Ok (Do d)) (read_asked body >>= λ a. Ok (Ask a))) (do_whole body)
    ∙ tag_once (tag_at body) doing_at (read_asked body >>= λ a. Ok (Ask a))

pub answered_whole : (body : List ℕ) → read_done body ≡ tag_at body >>= (λ t. cond (eqb t.0 134) (read_to_end (query ▹ done) (λ x. x) t.1) (Err BadTag))
unfolding read_done
answered_whole body = message_whole (case 134 (query ▹ done) (no_case BadTag)) answered_of answered_parts body ∙ along_tag (tag_at body) _ _ (λ t. simp chosen_end)
