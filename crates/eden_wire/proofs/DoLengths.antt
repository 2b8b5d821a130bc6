-- How long the bodies are that ask for changes, and which changes have one.
use Rattle.std.proofs.Common.{◌≡◌, ℕ, ◌+◌, ◌<◌, ◌≤◌, Bool, true, false, cond, nat_lt, List, [], ◌∷◌, length, get_or, take, Some, None, Result, Err, refl, ap, arith}
use Rattle.std.specs.Prelude.{All}
use Rattle.std.specs.List.{AllByRecursion, flat_map}
use Rattle.std.proofs.lemmas.List.{length-append}
use Rattle.std.proofs.lemmas.List.Concat.{flat_map-cons}
use Rattle.std.proofs.lemmas.List.Elements.{All-from_recursion, All-head, All-tail}
use Rattle.std.proofs.lemmas.List.Folds.{length-flat_map-take}
use Rattle.std.proofs.lemmas.Bool.{le-leb, leb-true, lt-ltb}
use Rattle.eden_ids.specs.declared.content.Kind.{Kind}
use Rattle.eden_ids.specs.declared.content.Kind.TheVariants.{Plain, Exec, Link}
use Rattle.eden_ids.specs.declared.id.Id.{Id}
use Rattle.eden_objects.specs.declared.import.Object.{Object}
use Rattle.eden_history.specs.declared.change.Change.{Change}
use Rattle.eden_history.specs.declared.change.Change.TheVariants.{Write, Remove, Rename, RenameDir, Checkout, Reset, Flush, Remount, Import}
use Rattle.eden_history.specs.declared.change.Mode.{Mode}
use Rattle.eden_history.specs.Spellable.{AreObjects, IsChange}
use Rattle.eden_messages.specs.Spells.{IsQuery, if_small, text_bytes}
use Rattle.eden_wire.specs.declared.command.Doing.{Doing}
use Rattle.eden_wire.specs.declared.fault.EncodeFault.{EncodeFault}
use Rattle.eden_wire.specs.declared.fault.EncodeFault.TheVariants as encode
use Rattle.eden_wire.specs.Commands.{SpellsDo, change, do_bytes, object}
use Rattle.eden_wire.specs.internal.Steps.{IsSmallChange, IsSmallObject}
use Rattle.eden_wire.proofs.Same.{in_any_order, path_from, query_from, value_from}

-- ---- lengths

pub write_len : (path : List ℕ) (kind : Kind) (bytes : List ℕ) → length (change.spell (Write path kind bytes)) ≡ 6 + length (text_bytes path) + length bytes
write_len path Plain bytes = simp length-append (omega arith)
write_len path Exec bytes = simp length-append (omega arith)
write_len path Link bytes = simp length-append (omega arith)

pub remove_len : (path : List ℕ) → length (change.spell (Remove path)) ≡ 2 + length (text_bytes path)
remove_len path = simp length-append (omega arith)

pub rename_len : (old new : List ℕ) → length (change.spell (Rename old new)) ≡ 1 + length (text_bytes old) + length (text_bytes new)
rename_len old new = simp length-append (omega arith)

pub rename_dir_len : (old new : List ℕ) → length (change.spell (RenameDir old new)) ≡ 1 + length (text_bytes old) + length (text_bytes new)
rename_dir_len old new = simp length-append (omega arith)

pub checkout_len : (commit : Id) (mode : Mode) → length (change.spell (Checkout commit mode)) ≡ 2 + length commit.0
checkout_len commit how = simp length-append (omega arith)

pub reset_len : (commit : Id) → length (change.spell (Reset commit)) ≡ 1 + length commit.0
reset_len commit = omega arith

pub import_len : (list : List Object) → length (change.spell (Import list)) ≡ 5 + length (flat_map object.spell list)
import_len list = simp length-append (omega arith)

-- objects whose bytes are too many up to a place have too many
pub objects_front_small : (i : ℕ) (list : List Object) (one : Object) → i < length list → one ≡ get_or list i one
    → 16777216 < length (flat_map object.spell (take i list)) + length (object.spell one) → if_small (length (flat_map object.spell list)) ≡ None
objects_front_small i list one more is long =
    let all = length-flat_map-take object.spell list i one more in
    let same : length (object.spell one) ≡ length (object.spell (get_or list i one)) = ap (λ (o : Object). length (object.spell o)) is in
    let many : 16777216 < length (flat_map object.spell list) = omega (arith, all, same, long) in
    rw (lt-ltb 16777216 (length (flat_map object.spell list)) many) refl

pub do_len : (d : Doing) → length (do_bytes d) ≡ 26 + length (change.spell d.change)
do_len d = simp length-append (omega arith)

-- a length that a body may have is that of the bytes
pub small_is : (n len : ℕ) → Some n ≡ if_small len → n ≡ len
small_is n len e = by (nat_lt 16777216 len) e
  where
    by : (big : Bool) → Some n ≡ cond big None (Some len) → n ≡ len
    by true e = absurd cc
    by false e = cc

-- ---- which changes have an encoding

objects_small : (list : List Object) → AllByRecursion object.fits list → AllByRecursion IsSmallObject list
objects_small [] fits = tt
objects_small (one ∷ list) fits = (leb-true _ _ fits.0.1.0.1, objects_small list fits.1)

-- a change that has an encoding is small
pub small_of : (c : Change) → change.fits c → IsSmallChange c
small_of (Write path kind bytes) fits = by kind fits
  where
    by : (kind : Kind) → change.fits (Write path kind bytes) → length bytes ≤ 8388608
    by Plain fits = leb-true _ _ fits.1.0.1
    by Exec fits = leb-true _ _ fits.1.0.1
    by Link fits = leb-true _ _ fits.1.0.1
small_of (Remove path) fits = tt
small_of (Rename old new) fits = tt
small_of (RenameDir old new) fits = tt
small_of (Checkout commit how) fits = tt
small_of (Reset commit) fits = tt
small_of Flush fits = tt
small_of (Remount generation) fits = tt
small_of (Import list) fits = All-from_recursion IsSmallObject list (objects_small list fits.1)

objects_fit : (list : List Object) → AreObjects list → All IsSmallObject list → AllByRecursion object.fits list
objects_fit [] bytes small = tt
objects_fit (one ∷ list) bytes small =
    let few = All-head IsSmallObject one list small in
    ((tt, ((omega (arith, few), le-leb _ _ few), bytes.0)), objects_fit list bytes.1 (All-tail IsSmallObject one list small))

-- each object takes a byte at least
objects_len : (list : List Object) → length list ≤ length (flat_map object.spell list)
objects_len [] = omega arith
objects_len (one ∷ list) = omega (arith, ap length (flat_map-cons object.spell one list), length-append (object.spell one) (flat_map object.spell list), objects_len list)

pub import_few : (list : List Object) → length (change.spell (Import list)) ≤ 16777216 → length list ≤ 16777216
import_few list fits = omega (arith, import_len list, objects_len list, fits)

change_fits : (c : Change) → IsChange c → IsSmallChange c → length (change.spell c) ≤ 16777216 → change.fits c
change_fits (Write path kind bytes) is small len = (path_from path is.0, value_from (Some (record { kind = kind; bytes = bytes })) (record { few = small; bytes = is.1 }))
change_fits (Remove path) is small len = (path_from path is, tt)
change_fits (Rename old new) is small len = (path_from old is.0, path_from new is.1)
change_fits (RenameDir old new) is small len = (path_from old is.0, path_from new is.1)
change_fits (Checkout commit how) is small len = ((is.twenty, is.bytes), tt)
change_fits (Reset commit) is small len = (is.twenty, is.bytes)
change_fits Flush is small len = tt
change_fits (Remount generation) is small len = is
change_fits (Import list) is small len = (omega (arith, import_few list len), objects_fit list is small, in_any_order None list)

-- what is written asks for the change
pub do_spells : (d : Doing) → IsQuery d.query → IsChange d.change → IsSmallChange d.change → length (do_bytes d) ≤ 16777216 → SpellsDo (do_bytes d) d
do_spells d query is small len =
    record { fields = (query_from d.query query, change_fits d.change is small (omega (arith, do_len d, len))); bytes = refl; limit = len }

-- a change that some body asks for is not refused as too large, and no other is
pub has_frame : {X : Type 0} (d : Doing) (r : Result X EncodeFault) → (r ≡ Err encode.TooLarge → ⊥) → SpellsDo (do_bytes d) d
    → (r ≡ Err encode.TooLarge → (body : List ℕ) → SpellsDo body d → ⊥) × (((body : List ℕ) → SpellsDo body d → ⊥) → r ≡ Err encode.TooLarge)
has_frame d r other spells = (λ e body also. other e, λ none. absurd (none (do_bytes d) spells))
