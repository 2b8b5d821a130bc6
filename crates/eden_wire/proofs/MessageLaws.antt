-- The laws of each field and message, a line each, and what follows for whole bodies.
use Rattle.std.proofs.Common.{◌≡◌, ℕ, ◌≤◌, true, false, cond, ltb, eqb, List, [], ◌∷◌, ◌++◌, length, Option, Some, None, Ok, Err, refl, sym, ap, subst, ◌∙◌, append-nil, arith, inl, inr}
use Rattle.std.specs.Prelude.{◌==◌, nat_lt}
use Rattle.std.specs.Int.{w16, w32, w64}
use Rattle.std.proofs.lemmas.Bool.{ltb-false, le-ltb, eqb-true}
use Rattle.std.proofs.lemmas.List.{nil_from_length}
use Rattle.eden_ids.specs.declared.content.Content.{Content}
use Rattle.eden_ids.specs.declared.content.Kind.{Kind}
use Rattle.eden_ids.specs.declared.content.Kind.TheVariants.{Plain, Exec, Link}
use Rattle.eden_ids.specs.declared.id.Id.{Id}
use Rattle.eden_globs.specs.Filters.{Patterns, including}
use Rattle.eden_history.specs.declared.mark.Mark.{Mark}
use Rattle.eden_history.specs.declared.mark.Mark.TheVariants.{Created, Removed, Changed, Root}
use Rattle.eden_history.specs.declared.mark.Marked.{Marked}
use Rattle.eden_history.specs.declared.position.Position.{Position}
use Rattle.eden_messages.specs.declared.message.Query.{Query}
use Rattle.eden_messages.specs.declared.message.Request.{Request}
use Rattle.eden_messages.specs.declared.message.Request.TheVariants.{Basis, Poll, Fetch, List as Below}
use Rattle.eden_messages.specs.declared.message.Cause.{Cause}
use Rattle.eden_messages.specs.declared.message.Cause.TheVariants as causes
use Rattle.eden_messages.specs.declared.message.Reply.{Reply}
use Rattle.eden_messages.specs.declared.message.Reply.TheVariants.{BasisIs, ChangesAre, ContentIs, Refused, ListIs}
use Rattle.eden_messages.specs.Spells.{kind_byte, mark_byte}
use Rattle.eden_wire.specs.declared.fault.DecodeFault.TheVariants.{TooLarge, BadTag, BadField, Trailing}
use Rattle.eden_wire.specs.Formats.{◌>>=◌, Format, number, only, find, no_case, case, tagged}
use Rattle.eden_wire.specs.Messages.{query, position, id, text, path, filter, marks, mark, kinds, kind, marked_path, paths_within, marked_paths, file_bytes, Held, content_of, held_by, held, content, Numbers, cause_of, cause_number, cause, FilteredParts, filtered_of, filtered_cases, excepting, RequestParts, request_of, request_parts, request_cases, request, ReplyParts, reply_of, reply_parts, reply}
use Rattle.eden_wire.specs.Reading.{read_whole}
use Rattle.eden_wire.proofs.Numbers.{IsBytes, bind_ok, guard_ok, held_ok, ok_is, wide16, wide32, wide64}
use Rattle.eden_wire.proofs.FormatLaws.{Laws, nothing_laws, byte_laws, number_laws, exactly_laws, only_laws, then_laws, and_laws, as_type_laws, as_some_laws, versioned_laws}
use Rattle.eden_wire.proofs.ListLaws.{counted_laws, list_laws}
use Rattle.eden_wire.proofs.TagLaws.{CaseLaws, one_of_laws, no_case_laws, case_laws, tagged_laws}

-- ---- fields

pub u64 : Laws ℕ (number w64)
u64 = number_laws w64 wide64

pub u32 : Laws ℕ (number w32)
u32 = number_laws w32 wide32

pub query_laws : Laws Query query
query_laws = as_type_laws _ (and_laws _ u64 _ (and_laws _ u64 _ u64)) _ _ (λ x fits. refl) (λ q. refl)

pub position_laws : Laws Position position
position_laws = as_type_laws _ (and_laws _ u64 _ (and_laws _ u64 _ (exactly_laws 20))) _ _ (λ x fits. refl) (λ p. refl)

pub id_laws : Laws Id id
id_laws = as_type_laws _ (exactly_laws 20) _ _ (λ x fits. refl) (λ i. refl)

text_laws : (limit : ℕ) → Laws (List ℕ) (text limit)
text_laws limit = counted_laws _ (only_laws _ (number_laws w16 wide16) _)

pub path_laws : Laws (List ℕ) path
path_laws = only_laws _ (text_laws 1024) _

pub filter_laws : Laws Patterns filter
filter_laws = as_some_laws _ (only_laws _ (list_laws _ (only_laws _ byte_laws _) _ (text_laws 256) _) _) _ _ (λ patterns. refl)

each_mark : (m : Mark) → find mark_byte marks (mark_byte m) ≡ Ok m
each_mark Created = refl
each_mark Removed = refl
each_mark Changed = refl
each_mark Root = refl

each_kind : (k : Kind) → find kind_byte kinds (kind_byte k) ≡ Ok k
each_kind Plain = refl
each_kind Exec = refl
each_kind Link = refl

pub kind_laws : Laws Kind kind
kind_laws = one_of_laws kind_byte kinds each_kind

mark_laws : Laws Mark mark
mark_laws = one_of_laws mark_byte marks each_mark

marked_path_laws : Laws Marked marked_path
marked_path_laws = as_type_laws _ (and_laws _ mark_laws _ path_laws) _ _ (λ x fits. refl) (λ m. refl)

pub paths_laws : (prefix : Option (List ℕ)) → Laws (List (List ℕ)) (paths_within prefix)
paths_laws prefix = list_laws _ u32 _ (only_laws _ path_laws _) _

pub marked_paths_laws : Laws (List Marked) marked_paths
marked_paths_laws = list_laws _ u32 _ marked_path_laws _

pub file_laws : Laws (List ℕ) file_bytes
file_laws = counted_laws _ (only_laws _ u32 _)

held_there : (x : Held) → held (content_of x) ≡ x
held_there (inl x) = refl
held_there (inr (inl bytes)) = refl
held_there (inr (inr (inl bytes))) = refl
held_there (inr (inr (inr (inl bytes)))) = refl
held_there (inr (inr (inr (inr x)))) = absurd x

content_made : (kind : Kind) (bytes : List ℕ) → content_of (held_by (record { kind = kind; bytes = bytes })) ≡ Some (record { kind = kind; bytes = bytes })
content_made Plain bytes = refl
content_made Exec bytes = refl
content_made Link bytes = refl

content_back : (y : Option Content) → content_of (held y) ≡ y
content_back None = refl
content_back (Some content) = content_made content.kind content.bytes

pub content_laws : Laws (Option Content) content
content_laws = as_type_laws _ (
    tagged_laws _ 0 (case_laws 0 _ nothing_laws _ (case_laws 1 _ file_laws _ (case_laws 2 _ file_laws _ (case_laws 3 _ file_laws _ (no_case_laws BadField 4)
    3 (omega arith)) 2 (omega arith)) 1 (omega arith)) 0 (omega arith))
    ) _ _ (λ x fits. held_there x) content_back

cause_there : (x : Numbers) → (tagged (case 1 (number w64) (case 2 (number w64) (case 3 (number w64) (case 4 (only (number w64) (λ n. n == 0)) (no_case BadField)))))).fits x
    → cause_number (cause_of x) ≡ x
cause_there (inl n) fits = refl
cause_there (inr (inl n)) fits = refl
cause_there (inr (inr (inl n))) fits = refl
cause_there (inr (inr (inr (inl n)))) fits = ap (λ (k : ℕ). inr (inr (inr (inl k)))) (sym (eqb-true n 0 fits.1))
cause_there (inr (inr (inr (inr x)))) fits = absurd x

cause_back : (y : Cause) → cause_of (cause_number y) ≡ y
cause_back (causes.Stale n) = refl
cause_back (causes.Ahead n) = refl
cause_back (causes.Truncated n) = refl
cause_back causes.TooLarge = refl

cause_laws : Laws Cause cause
cause_laws = as_type_laws _ (tagged_laws _ 0 (case_laws 1 _ u64 _ (case_laws 2 _ u64 _ (case_laws 3 _ u64 _ (case_laws 4 _ (only_laws _ u64 _) _ (no_case_laws BadField 5)
    4 (omega arith)) 3 (omega arith)) 2 (omega arith)) 0 (omega arith))) _ _ cause_there cause_back

-- ---- messages

pub filtered_laws : CaseLaws FilteredParts filtered_cases 0
filtered_laws =
    case_laws 1 _ (and_laws _ query_laws _ filter_laws) _ (
    case_laws 2 _ (and_laws _ query_laws _ (and_laws _ position_laws _ filter_laws)) _ (
    case_laws 4 _ (and_laws _ query_laws _ (and_laws _ path_laws _ filter_laws)) _ (no_case_laws BadTag 5)
    3 (omega arith)) 2 (omega arith)) 0 (omega arith)

request_there : (x : RequestParts) → (tagged request_cases).fits x → request_parts (request_of x) ≡ x
request_there (inl x) fits = subst (λ (f : Patterns). request_parts (Basis x.0 f) ≡ inl (x.0, f)) fits.1.1 refl
request_there (inr (inl x)) fits = subst (λ (f : Patterns). request_parts (Poll x.0 x.1.0 f) ≡ inr (inl (x.0, (x.1.0, f)))) fits.1.1.1 refl
request_there (inr (inr (inl x))) fits = refl
request_there (inr (inr (inr (inl x)))) fits = subst (λ (f : Patterns). request_parts (Below x.0 x.1.0 f) ≡ inr (inr (inr (inl (x.0, (x.1.0, f)))))) fits.1.1.1 refl
request_there (inr (inr (inr (inr (inl x))))) fits =
    subst (λ (e : Patterns). request_parts (excepting e (filtered_of x.1)) ≡ inr (inr (inr (inr (inl (e, x.1)))))) fits.0.0.1 (some_there x.0.included x.1 fits.0.1 fits.1)
  where
    some_there : (patterns : List (List ℕ)) (y : FilteredParts) → nat_lt 0 (length patterns) ≡ true → (tagged filtered_cases).fits y
        → request_parts (excepting (including patterns) (filtered_of y)) ≡ inr (inr (inr (inr (inl (including patterns, y)))))
    some_there [] y none fits = absurd cc
    some_there (p ∷ ps) (inl y) some fits =
        subst (λ (f : Patterns). request_parts (excepting (including (p ∷ ps)) (Basis y.0 f)) ≡ inr (inr (inr (inr (inl (including (p ∷ ps), inl (y.0, f))))))) fits.1.1 refl
    some_there (p ∷ ps) (inr (inl y)) some fits =
        subst (λ (f : Patterns). request_parts (excepting (including (p ∷ ps)) (Poll y.0 y.1.0 f)) ≡ inr (inr (inr (inr (inl (including (p ∷ ps), inr (inl (y.0, (y.1.0, f)))))))))
        fits.1.1.1 refl
    some_there (p ∷ ps) (inr (inr (inl y))) some fits =
        subst (λ (f : Patterns). request_parts (excepting (including (p ∷ ps)) (Below y.0 y.1.0 f)) ≡ inr (inr (inr (inr (inl (including (p ∷ ps), inr (inr (inl (y.0, (y.1.0, f))))))))))
        fits.1.1.1 refl
    some_there (p ∷ ps) (inr (inr (inr y))) some fits = absurd y
request_there (inr (inr (inr (inr (inr x))))) fits = absurd x

request_back : (y : Request) → request_of (request_parts y) ≡ y
request_back (Basis q f) = by f.included f.excluded
  where
    by : (included excluded : List (List ℕ)) → request_of (request_parts (Basis q (record { included = included; excluded = excluded }))) ≡ Basis q (record { included = included; excluded = excluded })
    by included [] = refl
    by included (p ∷ ps) = refl
request_back (Poll q s f) = by f.included f.excluded
  where
    by : (included excluded : List (List ℕ)) → request_of (request_parts (Poll q s (record { included = included; excluded = excluded }))) ≡ Poll q s (record { included = included; excluded = excluded })
    by included [] = refl
    by included (p ∷ ps) = refl
request_back (Fetch q p) = refl
request_back (Below q p f) = by f.included f.excluded
  where
    by : (included excluded : List (List ℕ)) → request_of (request_parts (Below q p (record { included = included; excluded = excluded }))) ≡ Below q p (record { included = included; excluded = excluded })
    by included [] = refl
    by included (p ∷ ps) = refl

pub request_laws : Laws Request request
request_laws = as_type_laws _ (versioned_laws _ (tagged_laws _ 0 (
    case_laws 1 _ (and_laws _ query_laws _ filter_laws) _ (
    case_laws 2 _ (and_laws _ query_laws _ (and_laws _ position_laws _ filter_laws)) _ (
    case_laws 3 _ (and_laws _ query_laws _ path_laws) _ (
    case_laws 4 _ (and_laws _ query_laws _ (and_laws _ path_laws _ filter_laws)) _ (
    case_laws 7 _ (and_laws _ (only_laws _ filter_laws _) _ (versioned_laws _ (tagged_laws _ 0 filtered_laws))) _ (no_case_laws BadTag 8)
    5 (omega arith)) 4 (omega arith)) 3 (omega arith)) 2 (omega arith)) 0 (omega arith)))) _ _ request_there request_back

reply_there : (x : ReplyParts) → reply_parts (reply_of x) ≡ x
reply_there (inl x) = refl
reply_there (inr (inl x)) = refl
reply_there (inr (inr (inl x))) = refl
reply_there (inr (inr (inr (inl x)))) = refl
reply_there (inr (inr (inr (inr (inl x))))) = refl
reply_there (inr (inr (inr (inr (inr x))))) = absurd x

reply_back : (y : Reply) → reply_of (reply_parts y) ≡ y
reply_back (BasisIs q s ps) = refl
reply_back (ChangesAre q s ms ps) = refl
reply_back (ContentIs q s p c) = refl
reply_back (Refused q c) = refl
reply_back (ListIs q s p ps) = refl

pub reply_laws : Laws Reply reply
reply_laws = as_type_laws _ (versioned_laws _ (tagged_laws _ 0 (
    case_laws 129 _ (and_laws _ query_laws _ (and_laws _ position_laws _ (paths_laws None))) _ (
    case_laws 130 _ (and_laws _ query_laws _ (and_laws _ position_laws _ (and_laws _ marked_paths_laws _ (paths_laws None)))) _ (
    case_laws 131 _ (and_laws _ query_laws _ (and_laws _ position_laws _ (and_laws _ path_laws _ content_laws))) _ (
    case_laws 132 _ (and_laws _ query_laws _ cause_laws) _ (
    case_laws 133 _ (and_laws _ query_laws _ (and_laws _ position_laws _ (then_laws _ path_laws _ (λ prefix. paths_laws (Some prefix))))) _ (no_case_laws BadTag 134)
    133 (omega arith)) 132 (omega arith)) 131 (omega arith)) 130 (omega arith)) 0 (omega arith)))) _ _ (λ x fits. reply_there x) reply_back

-- ---- whole bodies, of any format

-- the body is the message's
pub record Encodes (A : Type 0) (format : Format A) (body : List ℕ) (message : A) : Type 0 where
  pub fields : format.fits message
  pub bytes : body ≡ format.spell message
  pub limit : length body ≤ 16777216

module _ {A : Type 0} (format : Format A) (laws : Laws A format) where
  pub read_back : (body : List ℕ) (message : A) → Encodes A format body message → read_whole format body ≡ Ok message
  read_back body message is =
      let short : ltb 16777216 (length body) ≡ false = le-ltb _ _ is.limit in
      let all : format.read body ≡ Ok (message, []) =
      ap format.read (is.bytes ∙ sym (append-nil (format.spell message))) ∙ laws.again message [] is.fields in
      rw (short, all) refl

  pub read_encodes : (body : List ℕ) (message : A) → IsBytes body → read_whole format body ≡ Ok message → Encodes A format body message
  read_encodes body message bytes e =
      let g = guard_ok (ltb 16777216 (length body)) TooLarge (format.read body >>= λ x. cond (eqb (length x.1) 0) (Ok x.0) (Err Trailing)) message e in
      let a = bind_ok (format.read body) (λ x. cond (eqb (length x.1) 0) (Ok x.0) (Err Trailing)) message g.1 in
      let end = held_ok (eqb (length a.0.1) 0) (Ok a.0.0) Trailing message a.2 in
      let l = laws.exact body a.0 bytes a.1 in
      let none : a.0.1 ≡ [] = nil_from_length a.0.1 (eqb-true _ _ end.0) in
      let parts : body ≡ format.spell a.0.0 = l.0.parts ∙ ap (λ (r : List ℕ). format.spell a.0.0 ++ r) none ∙ append-nil (format.spell a.0.0) in
      subst (λ (m : A). Encodes A format body m) (ok_is a.0.0 message end.1) (record { fields = l.1; bytes = parts; limit = ltb-false _ _ g.0 })
