-- A body is read as what was done exactly if it encodes it, and how long it is.
use Rattle.std.proofs.Common.{◌≡◌, ℕ, ◌+◌, ◌<◌, ◌≤◌, ◌^◌, false, eqb, List, [], ◌∷◌, ◌++◌, length, get_or, take, Result, Ok, Err, None, refl, ap, inl, inr, ◌⊎◌, arith, length-append}
use Rattle.std.specs.Prelude.{IfOk, nat_le}
use Rattle.std.specs.Int.{w64, to_be_bytes}
use Rattle.std.specs.List.{flat_map}
use Rattle.std.proofs.lemmas.Bool.{eqb-true}
use Rattle.std.proofs.lemmas.Bool.Decides.{nat_tests}
use Rattle.std.proofs.lemmas.List.Folds.{length-flat_map-take}
use Rattle.eden_objects.specs.declared.fault.PutFault.{PutFault}
use Rattle.eden_objects.specs.declared.fault.PutFault.TheVariants as puts
use Rattle.eden_history.specs.declared.change.ChangeFault.{ChangeFault}
use Rattle.eden_history.specs.declared.change.ChangeFault.TheVariants.{NotADirectory, IsADirectory, NoEntry, TooLarge, IntoItself, PathTooLong, NoCommit, SequenceExhausted, GenerationNotNew, BadObject, NoMemory}
use Rattle.eden_history.specs.declared.position.Position.{Position}
use Rattle.eden_messages.specs.declared.message.Query.{Query}
use Rattle.eden_messages.specs.Spells.{text_bytes}
use Rattle.eden_wire.specs.declared.done.Done.{Done}
use Rattle.eden_wire.specs.declared.done.Done.TheVariants.{NotWritable, At, Checked, Refused, Conflicting}
use Rattle.eden_wire.specs.declared.fault.DecodeFault.{DecodeFault}
use Rattle.eden_wire.specs.declared.fault.DecodeFault.TheVariants.{BadTag, BadField}
use Rattle.eden_wire.specs.Commands.{DoneParts, SpellsDone, answered, answered_of, answered_parts, done, done_by, done_bytes, done_parts, fault, fault_byte, fault_cases, fault_of, fault_parts, no_object, plain_faults, put_byte, put_faults, read_done}
use Rattle.eden_wire.specs.Formats.{each_case, find}
use Rattle.eden_wire.specs.Reading.{Gives}
use Rattle.eden_wire.specs.internal.Steps.{object_in}
use Rattle.eden_wire.proofs.Lists.{paths_len}
use Rattle.eden_wire.proofs.Numbers.{IsBytes}
use Rattle.eden_wire.proofs.FormatLaws.{Laws, nothing_laws, byte_laws, only_laws, and_laws, as_type_laws, versioned_laws}
use Rattle.eden_wire.proofs.TagLaws.{one_of_laws, no_case_laws, case_laws, apart_laws, each_case_laws, tagged_laws}
use Rattle.eden_wire.proofs.MessageLaws.{u32, u64, query_laws, position_laws, paths_laws, read_back, read_encodes}

-- ---- faults

each_put : (f : PutFault) → find put_byte put_faults (put_byte f) ≡ Ok f
each_put puts.TooLarge = refl
each_put puts.IdTaken = refl
each_put puts.ZeroId = refl
each_put puts.BadMode = refl
each_put puts.BadName = refl
each_put puts.OutOfOrder = refl
each_put puts.Duplicate = refl
each_put puts.MissingChild = refl
each_put puts.WrongChildKind = refl
each_put puts.TooDeep = refl
each_put puts.PathTooLong = refl
each_put puts.CutShort = refl
each_put puts.BadCommit = refl
each_put puts.NoMemory = refl

zeros : (x : ℕ × ℕ) → x.0 ≡ 0 → x.1 ≡ 0 → (0, 0) ≡ x
zeros (place, number) none zero = cc

no_object_laws : Laws Unit no_object
no_object_laws = as_type_laws _ (and_laws _ (only_laws _ u64 _) _ (only_laws _ byte_laws _)) _ _ (λ x fits. zeros x (eqb-true x.0 0 fits.0.1) (eqb-true x.1 0 fits.1.1)) (λ x. refl)

-- a fault that has the number of a plain one is not that of an object
plain_apart : (f : ChangeFault) → (each_case fault_byte plain_faults no_object).fits f → eqb (fault_byte f) 10 ≡ false
plain_apart NotADirectory fits = refl
plain_apart IsADirectory fits = refl
plain_apart NoEntry fits = refl
plain_apart TooLarge fits = refl
plain_apart IntoItself fits = refl
plain_apart PathTooLong fits = refl
plain_apart NoCommit fits = refl
plain_apart SequenceExhausted fits = refl
plain_apart GenerationNotNew fits = refl
plain_apart (BadObject place number) fits = absurd (let none = fits.0 in cc)
plain_apart NoMemory fits = refl

plain_there : (f : ChangeFault) → (each_case fault_byte plain_faults no_object).fits f → fault_parts f ≡ inr f
plain_there NotADirectory fits = refl
plain_there IsADirectory fits = refl
plain_there NoEntry fits = refl
plain_there TooLarge fits = refl
plain_there IntoItself fits = refl
plain_there PathTooLong fits = refl
plain_there NoCommit fits = refl
plain_there SequenceExhausted fits = refl
plain_there GenerationNotNew fits = refl
plain_there (BadObject place number) fits = absurd (let none = fits.0 in cc)
plain_there NoMemory fits = refl

fault_back : (f : ChangeFault) → fault_of (fault_parts f) ≡ f
fault_back NotADirectory = refl
fault_back IsADirectory = refl
fault_back NoEntry = refl
fault_back TooLarge = refl
fault_back IntoItself = refl
fault_back PathTooLong = refl
fault_back NoCommit = refl
fault_back SequenceExhausted = refl
fault_back GenerationNotNew = refl
fault_back (BadObject place number) = refl
fault_back NoMemory = refl

fault_there : (x : (ℕ × PutFault) ⊎ ChangeFault) → fault_cases.fits x → fault_parts (fault_of x) ≡ x
fault_there (inl x) fits = refl
fault_there (inr f) fits = plain_there f fits

fault_laws : Laws ChangeFault fault
fault_laws = as_type_laws _ (tagged_laws _ 0 (
    apart_laws 10 _ (and_laws _ u64 _ (one_of_laws put_byte put_faults each_put)) _ 0 (each_case_laws fault_byte plain_faults no_object no_object_laws) plain_apart
    0 (omega arith) (omega arith))) _ _ fault_there fault_back

pub fault_encoded : (f : ChangeFault) → fault.spell f ≡ fault_byte f ∷ (to_be_bytes w64 (object_in f).0 ++ ((object_in f).1 ∷ []))
fault_encoded NotADirectory = refl
fault_encoded IsADirectory = refl
fault_encoded NoEntry = refl
fault_encoded TooLarge = refl
fault_encoded IntoItself = refl
fault_encoded PathTooLong = refl
fault_encoded NoCommit = refl
fault_encoded SequenceExhausted = refl
fault_encoded GenerationNotNew = refl
fault_encoded (BadObject place number) = refl
fault_encoded NoMemory = refl

-- ---- bodies

done_there : (x : DoneParts) → done_parts (done_by x) ≡ x
done_there (inl x) = refl
done_there (inr (inl x)) = refl
done_there (inr (inr (inl x))) = refl
done_there (inr (inr (inr (inl x)))) = refl
done_there (inr (inr (inr (inr (inl x))))) = refl
done_there (inr (inr (inr (inr (inr x))))) = absurd x

done_back : (y : Done) → done_by (done_parts y) ≡ y
done_back NotWritable = refl
done_back (At position) = refl
done_back (Checked position conflicts) = refl
done_back (Refused why) = refl
done_back (Conflicting position count) = refl

done_laws : Laws Done done
done_laws = as_type_laws _ (tagged_laws _ 0 (
    case_laws 0 _ nothing_laws _ (
    case_laws 1 _ position_laws _ (
    case_laws 2 _ (and_laws _ position_laws _ (paths_laws None)) _ (
    case_laws 3 _ fault_laws _ (
    case_laws 4 _ (and_laws _ position_laws _ u32) _ (no_case_laws BadField 5)
    4 (omega arith)) 3 (omega arith)) 2 (omega arith)) 1 (omega arith)) 0 (omega arith))) _ _ (λ x fits. done_there x) done_back

answered_there : (x : (Query × Done) ⊎ ⊥) → answered_parts (answered_of x) ≡ x
answered_there (inl x) = refl
answered_there (inr x) = absurd x

answered_laws : Laws (Query × Done) answered
answered_laws = as_type_laws _ (versioned_laws _ (tagged_laws _ 0 (case_laws 134 _ (and_laws _ query_laws _ done_laws) _ (no_case_laws BadTag 135) 0 (omega arith)))) answered_of answered_parts
    (λ x fits. answered_there x) (λ x. refl)

pub done_read : (body : List ℕ) (query : Query) (d : Done) → SpellsDone body query d → read_done body ≡ Ok (query, d)
unfolding read_done
done_read body query d spells = read_back answered answered_laws body (query, d) (record { fields = spells.fields; bytes = spells.bytes; limit = spells.limit })

pub done_spelled : (body : List ℕ) (query : Query) (d : Done) → IsBytes body → read_done body ≡ Ok (query, d) → SpellsDone body query d
unfolding read_done
done_spelled body query d fits e =
    let is = read_encodes answered answered_laws body (query, d) fits e in
    record { fields = is.fields; bytes = is.bytes; limit = is.limit }

-- what a call returned
pub is_spelled_done : (body : List ℕ) (r : Result (Query × Done) DecodeFault) → IsBytes body → Gives (λ x. x) r (read_done body) → IfOk r (λ x. SpellsDone body x.0 x.1)
is_spelled_done body (Ok x) fits given = done_spelled body x.0 x.1 fits given
is_spelled_done body (Err e) fits given = tt

-- ---- lengths

pub done_len : (query : Query) (d : Done) → length (done_bytes query d) ≡ 26 + length (done.spell d)
done_len query d = simp length-append (omega arith)

pub checked_len : (position : Position) (conflicts : List (List ℕ)) → length position.root.0 ≡ 20
    → length (done.spell (Checked position conflicts)) ≡ 41 + length (flat_map text_bytes conflicts)
checked_len position conflicts twenty = simp length-append (omega (arith, twenty))

pub conflicting_len : (position : Position) (count : ℕ) → length position.root.0 ≡ 20 → length (done.spell (Conflicting position count)) ≡ 41
conflicting_len position count twenty = simp length-append (omega (arith, twenty))

pub at_len : (position : Position) → length position.root.0 ≡ 20 → length (done.spell (At position)) ≡ 37
at_len position twenty = simp length-append (omega (arith, twenty))

pub refused_len : (f : ChangeFault) → length (done.spell (Refused f)) ≡ 11
refused_len f = omega (arith, ap length (fault_encoded f))

-- conflicts that are too long up to a place are too long
pub long_front : (i : ℕ) (list : List (List ℕ)) (path : List ℕ) → i < length list → path ≡ get_or list i path
    → 16777216 < 67 + length (flat_map text_bytes (take i list)) + length (text_bytes path) → false ≡ nat_le (67 + length (flat_map text_bytes list)) 16777216
long_front i list path more is long =
    let all = length-flat_map-take text_bytes list i path more in
    let same : length (text_bytes path) ≡ length (text_bytes (get_or list i path)) = ap (λ (p : List ℕ). length (text_bytes p)) is in
    let many : 16777216 < 67 + length (flat_map text_bytes list) = omega (arith, all, same, long) in
    grind (arith, nat_tests)

pub conflicts_few : (position : Position) (conflicts : List (List ℕ)) → length (done.spell (Checked position conflicts)) ≤ 16777216 → length conflicts < 2 ^ 32
conflicts_few position conflicts fits =
    let len : length (done.spell (Checked position conflicts)) ≡ 21 + length position.root.0 + length (flat_map text_bytes conflicts) = simp length-append (omega arith) in
    omega (arith, fits, len, paths_len conflicts)
