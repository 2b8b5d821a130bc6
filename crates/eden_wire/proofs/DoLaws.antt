-- A body is read as what is asked for exactly if it encodes it.
use Rattle.std.proofs.Common.{◌≡◌, ℕ, ◌≤◌, false, cond, eqb, List, ◌∷◌, ◌++◌, length, Option, Some, None, Result, Ok, Err, refl, ap, subst, ◌∙◌, inl, inr, ◌⊎◌, arith}
use Rattle.std.specs.Prelude.{IfOk}
use Rattle.std.specs.Int.{w32, to_be_bytes}
use Rattle.eden_ids.specs.declared.content.Content.{Content}
use Rattle.eden_git.specs.declared.object_type.ObjectType.{ObjectType}
use Rattle.eden_git.specs.declared.object_type.ObjectType.TheVariants.{Blob, Tree, Commit}
use Rattle.eden_objects.specs.declared.import.Object.{Object}
use Rattle.eden_history.specs.declared.change.Change.{Change}
use Rattle.eden_history.specs.declared.change.Change.TheVariants.{Write, Remove, Rename, RenameDir, Checkout, Reset, Flush, Remount, Import}
use Rattle.eden_history.specs.declared.change.Mode.{Mode}
use Rattle.eden_history.specs.declared.change.Mode.TheVariants.{Normal, Dry, Force}
use Rattle.eden_messages.specs.declared.message.Query.{Query}
use Rattle.eden_wire.specs.declared.asked.Asked.{Asked}
use Rattle.eden_wire.specs.declared.command.Command.{Command}
use Rattle.eden_wire.specs.declared.command.Command.TheVariants.{Ask, Do}
use Rattle.eden_wire.specs.declared.command.Doing.{Doing}
use Rattle.eden_wire.specs.declared.fault.DecodeFault.{DecodeFault}
use Rattle.eden_wire.specs.declared.fault.DecodeFault.TheVariants.{BadTag, BadField}
use Rattle.eden_wire.specs.Asked.{SpellsAsked, read_asked}
use Rattle.eden_wire.specs.Commands.{ChangeParts, SpellsCommand, SpellsDo, change, change_of, change_parts, doing, doing_of, doing_parts, mode_byte, modes, object, objects, putting, read_command, read_do, type_byte, object_types}
use Rattle.eden_wire.specs.Formats.{◌>>=◌, find}
use Rattle.eden_wire.specs.Messages.{query}
use Rattle.eden_wire.specs.Reading.{Gives, tag_at}
use Rattle.eden_wire.specs.Questions.{question_bytes}
use Rattle.eden_wire.proofs.Numbers.{IsBytes, along, bind_ok}
use Rattle.eden_wire.proofs.FormatLaws.{Laws, nothing_laws, and_laws, as_type_laws, versioned_laws}
use Rattle.eden_wire.proofs.ListLaws.{list_laws}
use Rattle.eden_wire.proofs.TagLaws.{chosen, one_of_laws, no_case_laws, case_laws, tagged_laws}
use Rattle.eden_wire.proofs.MessageLaws.{u32, u64, query_laws, id_laws, path_laws, file_laws, content_laws, read_back, read_encodes}
use Rattle.eden_wire.proofs.BodyLaws.{tag_again}
use Rattle.eden_wire.proofs.QuestionLaws.{question_asked}
use Rattle.eden_wire.proofs.AskedLaws.{asked_read, asked_spelled}

-- ---- fields

each_mode : (m : Mode) → find mode_byte modes (mode_byte m) ≡ Ok m
each_mode Normal = refl
each_mode Dry = refl
each_mode Force = refl

each_type : (w : ObjectType) → find type_byte object_types (type_byte w) ≡ Ok w
each_type Blob = refl
each_type Tree = refl
each_type Commit = refl

object_laws : Laws Object object
object_laws = as_type_laws _ (and_laws _ (one_of_laws type_byte object_types each_type) _ file_laws) _ _ (λ x fits. refl) (λ o. refl)

objects_laws : Laws (List Object) objects
objects_laws = list_laws _ u32 _ object_laws _

put_there : (path : List ℕ) (content : Option Content) → change_parts (putting path content) ≡ inl (path, content)
put_there path None = refl
put_there path (Some content) = refl

change_there : (x : ChangeParts) → change_parts (change_of x) ≡ x
change_there (inl x) = put_there x.0 x.1
change_there (inr (inl x)) = refl
change_there (inr (inr (inl x))) = refl
change_there (inr (inr (inr (inl x)))) = refl
change_there (inr (inr (inr (inr (inl x))))) = refl
change_there (inr (inr (inr (inr (inr (inl x)))))) = refl
change_there (inr (inr (inr (inr (inr (inr (inl x))))))) = refl
change_there (inr (inr (inr (inr (inr (inr (inr (inl x)))))))) = refl
change_there (inr (inr (inr (inr (inr (inr (inr (inr x)))))))) = absurd x

change_back : (y : Change) → change_of (change_parts y) ≡ y
change_back (Write path kind bytes) = refl
change_back (Remove path) = refl
change_back (Rename old new) = refl
change_back (RenameDir old new) = refl
change_back (Checkout commit how) = refl
change_back (Reset commit) = refl
change_back Flush = refl
change_back (Remount generation) = refl
change_back (Import list) = refl

change_laws : Laws Change change
change_laws = as_type_laws _ (tagged_laws _ 0 (
    case_laws 1 _ (and_laws _ path_laws _ content_laws) _ (
    case_laws 2 _ (and_laws _ path_laws _ path_laws) _ (
    case_laws 3 _ (and_laws _ path_laws _ path_laws) _ (
    case_laws 4 _ (and_laws _ id_laws _ (one_of_laws mode_byte modes each_mode)) _ (
    case_laws 5 _ id_laws _ (
    case_laws 6 _ nothing_laws _ (
    case_laws 7 _ u64 _ (
    case_laws 8 _ objects_laws _ (no_case_laws BadField 9)
    8 (omega arith)) 7 (omega arith)) 6 (omega arith)) 5 (omega arith)) 4 (omega arith)) 3 (omega arith)) 2 (omega arith)) 0 (omega arith))) _ _ (λ x fits. change_there x) change_back

-- ---- bodies

doing_there : (x : (Query × Change) ⊎ ⊥) → doing_parts (doing_of x) ≡ x
doing_there (inl x) = refl
doing_there (inr x) = absurd x

doing_laws : Laws Doing doing
doing_laws = as_type_laws _ (versioned_laws _ (tagged_laws _ 0 (case_laws 6 _ (and_laws _ query_laws _ change_laws) _ (no_case_laws BadTag 7) 0 (omega arith)))) doing_of doing_parts
    (λ x fits. doing_there x) (λ d. refl)

do_read : (body : List ℕ) (d : Doing) → SpellsDo body d → read_do body ≡ Ok d
unfolding read_do
do_read body d spells = read_back doing doing_laws body d (record { fields = spells.fields; bytes = spells.bytes; limit = spells.limit })

do_spelled : (body : List ℕ) (d : Doing) → IsBytes body → read_do body ≡ Ok d → SpellsDo body d
unfolding read_do
do_spelled body d fits e =
    let is = read_encodes doing doing_laws body d fits e in
    record { fields = is.fields; bytes = is.bytes; limit = is.limit }

-- what comes after the tag of a change
abbrev after_tag : Doing → List ℕ
after_tag d = (query.spell d.query) ++ (change.spell d.change)

do_command : (body : List ℕ) (d : Doing) → SpellsDo body d → read_command body ≡ Ok (Do d)
unfolding read_command
do_command body d spells =
    let tag : tag_at body ≡ Ok (6, after_tag d) =
    ap tag_at spells.bytes ∙ tag_again 6 (after_tag d) (subst (λ (b : List ℕ). length b ≤ 16777216) spells.bytes spells.limit) in
    rw (tag, do_read body d spells) refl

ask_by_tag : (body rest : List ℕ) (tag : ℕ) (asked : Asked) → length body ≤ 16777216 → body ≡ 2 ∷ tag ∷ rest → eqb tag 6 ≡ false → read_asked body ≡ Ok asked
    → read_command body ≡ Ok (Ask asked)
unfolding read_command
ask_by_tag body rest tag asked limit parts other read =
    let is : tag_at body ≡ Ok (tag, rest) = ap tag_at parts ∙ tag_again tag rest (subst (λ (b : List ℕ). length b ≤ 16777216) parts limit) in
    rw (is, other, read) refl

ask_command : (body : List ℕ) (asked : Asked) → SpellsAsked body asked → read_command body ≡ Ok (Ask asked)
ask_command body asked spells =
    let read = asked_read body asked spells in
    elim spells.bytes [
      | inl alone ↦
          let is = question_asked asked.question in
          ask_by_tag body is.rest is.tag asked spells.limit (alone.1 ∙ is.parts) is.asks read
      | inr more ↦ ask_by_tag body (to_be_bytes w32 asked.patience ++ question_bytes asked.question) 5 asked spells.limit more refl read
    ]

pub command_read : (body : List ℕ) (command : Command) → SpellsCommand body command → read_command body ≡ Ok command
command_read body (Ask asked) spells = ask_command body asked spells
command_read body (Do d) spells = do_command body d spells

pub command_spelled : (body : List ℕ) (command : Command) → IsBytes body → read_command body ≡ Ok command → SpellsCommand body command
unfolding read_command
command_spelled body command fits e =
    let a = bind_ok (tag_at body) (λ t. cond (eqb t.0 6) (read_do body >>= λ d. Ok (Do d)) (read_asked body >>= λ a. Ok (Ask a))) command e in
    elim (chosen (eqb a.0.0 6) (read_do body >>= λ d. Ok (Do d)) (read_asked body >>= λ a. Ok (Ask a)) (Ok command) a.2) [
      | inl h ↦
          let b = bind_ok (read_do body) (λ d. Ok (Do d)) command h.1 in
          along (λ (y : Command). SpellsCommand body y) (Do b.0) command b.2 (do_spelled body b.0 fits b.1)
      | inr h ↦
          let b = bind_ok (read_asked body) (λ a. Ok (Ask a)) command h.1 in
          along (λ (y : Command). SpellsCommand body y) (Ask b.0) command b.2 (asked_spelled body b.0 fits b.1)
    ]

-- what a call returned
pub is_spelled_command : (body : List ℕ) (r : Result Command DecodeFault) → IsBytes body → Gives (λ c. c) r (read_command body) → IfOk r (λ c. SpellsCommand body c)
is_spelled_command body (Ok c) fits given = command_spelled body c fits given
is_spelled_command body (Err e) fits given = tt
