-- The formats encode as the messages' definitions say, and the same values.
use Rattle.std.proofs.Common.{◌≡◌, ℕ, ◌<◌, ◌^◌, true, List, [], ◌∷◌, ◌++◌, Option, Some, None, refl, ap, arith}
use Rattle.std.specs.Prelude.{is_none}
use Rattle.std.specs.List.{AllByRecursion}
use Rattle.std.specs.Option.{option_map}
use Rattle.std.specs.Ordering.{nat_cmp, is_lt}
use Rattle.std.specs.declared.cmp.Ordering.{Ordering}
use Rattle.std.specs.declared.cmp.Ordering.TheVariants.{Less, Equal, Greater}
use Rattle.std.specs.Cmp.Lexicographic.{slice_cmp}
use Rattle.std.proofs.lemmas.Bool.{and_from, lt-ltb, le-leb, leb-true}
use Rattle.eden_ids.specs.declared.content.Content.{Content}
use Rattle.eden_ids.specs.declared.content.Kind.{Kind}
use Rattle.eden_ids.specs.declared.content.Kind.TheVariants.{Plain, Exec, Link}
use Rattle.eden_ids.specs.Texts.{AreBytes, IsContentText, IsPathText}
use Rattle.eden_ids.specs.Paths.{path_fault}
use Rattle.eden_globs.specs.Filters.{Patterns, filter_fault, including}
use Rattle.eden_history.specs.declared.mark.Marked.{Marked}
use Rattle.eden_history.specs.declared.position.Position.{Position}
use Rattle.eden_messages.specs.declared.message.Query.{Query}
use Rattle.eden_messages.specs.declared.message.Request.{Request}
use Rattle.eden_messages.specs.declared.message.Request.TheVariants.{Basis, Poll, Fetch, List as Below}
use Rattle.eden_messages.specs.declared.message.Cause.{Cause}
use Rattle.eden_messages.specs.declared.message.Cause.TheVariants as causes
use Rattle.eden_messages.specs.declared.message.Reply.{Reply}
use Rattle.eden_messages.specs.declared.message.Reply.TheVariants.{BasisIs, ChangesAre, ContentIs, Refused, ListIs}
use Rattle.eden_messages.specs.Spells.{excluded_bytes, filter_bytes, Ascends, IsBelowFirst, IsCause, IsFilterText, IsListing, IsPosition, IsQuery, IsReply, IsRequest, IsValue, paths_of, reply_bytes, request_bytes}
use Rattle.eden_messages.proofs.Spelling.{IsText, path_text, filter_fits, paths_len}
use Rattle.eden_wire.specs.Formats.{Follow, versioned, tagged}
use Rattle.eden_wire.specs.Messages.{query, position, text, path, any_order, filter, marked_path, is_above, is_within, paths_within, ascending_marks, marked_paths, content, cause, FilteredParts, filtered_cases, RequestParts, parts_by, request_cases, request, reply}

-- ---- bytes

encoded_by : (excluded : List (List ℕ)) (alone : RequestParts) (filtered : FilteredParts) (bytes : List ℕ)
    → (tagged request_cases).spell alone ≡ bytes → (tagged filtered_cases).spell filtered ≡ bytes
    → (versioned (tagged request_cases)).spell (parts_by excluded alone filtered) ≡ excluded_bytes excluded ++ (2 ∷ bytes)
encoded_by [] alone filtered bytes same also = ap (λ (b : List ℕ). 2 ∷ b) same
encoded_by (p ∷ ps) alone filtered bytes same also = ap (λ (b : List ℕ). 2 ∷ 7 ∷ filter_bytes (p ∷ ps) ++ (2 ∷ b)) also

pub request_encoded : (x : Request) → request.spell x ≡ request_bytes x
request_encoded (Basis q f) = encoded_by f.excluded _ _ _ refl refl
request_encoded (Poll q s f) = encoded_by f.excluded _ _ _ refl refl
request_encoded (Fetch q p) = refl
request_encoded (Below q p f) = encoded_by f.excluded _ _ _ refl refl

content_encoded : (q : Query) (s : Position) (p : List ℕ) (kind : Kind) (bytes : List ℕ)
    → reply.spell (ContentIs q s p (Some (record { kind = kind; bytes = bytes }))) ≡ reply_bytes (ContentIs q s p (Some (record { kind = kind; bytes = bytes })))
content_encoded q s p Plain bytes = refl
content_encoded q s p Exec bytes = refl
content_encoded q s p Link bytes = refl

pub reply_encoded : (x : Reply) → reply.spell x ≡ reply_bytes x
reply_encoded (BasisIs q s ps) = refl
reply_encoded (ChangesAre q s ms ps) = refl
reply_encoded (ContentIs q s p None) = refl
reply_encoded (ContentIs q s p (Some c)) = content_encoded q s p c.kind c.bytes
reply_encoded (Refused q (causes.Stale n)) = refl
reply_encoded (Refused q (causes.Ahead n)) = refl
reply_encoded (Refused q (causes.Truncated n)) = refl
reply_encoded (Refused q causes.TooLarge) = refl
reply_encoded (ListIs q s p ps) = refl

-- ---- fields

none_is : {A : Type 0} (o : Option A) → is_none o ≡ true → o ≡ None
none_is None e = refl
none_is (Some x) e = absurd cc

less_is : (o : Ordering) → is_lt o ≡ true → o ≡ Less
less_is Less e = refl
less_is Equal e = absurd cc
less_is Greater e = absurd cc

pub query_is : (q : Query) → query.fits q → IsQuery q
query_is q is = record { mirror = is.0; life = is.1.0; number = is.1.1 }

pub query_from : (q : Query) → IsQuery q → query.fits q
query_from q is = (is.mirror, (is.life, is.number))

position_is : (p : Position) → position.fits p → IsPosition p
position_is p is = record { generation = is.0; sequence = is.1.0; root = is.1.1.0; root_bytes = is.1.1.1 }

pub position_from : (p : Position) → IsPosition p → position.fits p
position_from p is = (is.generation, (is.sequence, (is.root, is.root_bytes)))

text_from : (limit : ℕ) (t : List ℕ) → limit < 2 ^ 16 → IsText limit t → AreBytes t → (text limit).fits t
text_from limit t small is bytes = ((omega (arith, is.few), and_from _ _ (lt-ltb _ _ is.some) (le-leb _ _ is.few)), bytes)

pub path_is : (p : List ℕ) → path.fits p → IsPathText p
path_is p is = record { path = none_is (path_fault p) is.1; bytes = is.0.1 }

pub path_from : (p : List ℕ) → IsPathText p → path.fits p
path_from p is = (text_from 1024 p (omega arith) (path_text p is.path) is.bytes, ap is_none is.path)

patterns_bytes : (ps : List (List ℕ)) → AllByRecursion (text 256).fits ps → AllByRecursion AreBytes ps
patterns_bytes [] are = tt
patterns_bytes (p ∷ ps) are = (are.0.1, patterns_bytes ps are.1)

patterns_from : (ps : List (List ℕ)) → AllByRecursion (IsText 256) ps → AllByRecursion AreBytes ps → AllByRecursion (text 256).fits ps
patterns_from [] are bytes = tt
patterns_from (p ∷ ps) are bytes = (text_from 256 p (omega arith) are.0 bytes.0, patterns_from ps are.1 bytes.1)

pub in_any_order : {A : Type 0} (last : Option A) (xs : List A) → Follow any_order last xs
in_any_order last [] = tt
in_any_order last (x ∷ xs) = (refl, in_any_order (Some x) xs)

-- the patterns are those of one list of a filter
abbrev pub ArePatterns : List (List ℕ) → Type 0
ArePatterns ps = (filter_fault ps ≡ None) × AllByRecursion AreBytes ps

pub patterns_are : (ps : List (List ℕ)) → filter.fits (including ps) → ArePatterns ps
patterns_are ps is = (none_is (filter_fault ps) is.0.1, patterns_bytes ps is.0.0.1)

pub filter_from : (ps : List (List ℕ)) → ArePatterns ps → filter.fits (including ps)
filter_from ps are =
    let fits = filter_fits ps are.0 in
    ((((omega (arith, fits.few), le-leb _ _ fits.few), patterns_from ps fits.texts are.1, in_any_order None ps), ap is_none are.0), refl)

pub filter_is : (f : Patterns) → filter.fits (including f.included) → ArePatterns f.excluded → IsFilterText f
filter_is f is are =
    let included = patterns_are f.included is in
    record { filter = record { included = included.0; excluded = are.0 }; included = included.1; excluded = are.1 }

-- ---- lists

ascends_is : (p : List ℕ) (ps : List (List ℕ)) → Follow is_above (Some p) ps → IsBelowFirst p ps × Ascends ps
ascends_is p [] is = (tt, tt)
ascends_is p (q ∷ ps) is = (less_is (slice_cmp nat_cmp p q) is.0, ascends_is q ps is.1)

ascends_from : (p : List ℕ) (ps : List (List ℕ)) → IsBelowFirst p ps → Ascends ps → Follow is_above (Some p) ps
ascends_from p [] below is = tt
ascends_from p (q ∷ ps) below is = (ap is_lt below, ascends_from q ps is.0 is.1)

all_ascend : (ps : List (List ℕ)) → Follow is_above None ps → Ascends ps
all_ascend [] is = tt
all_ascend (p ∷ ps) is = ascends_is p ps is.1

all_follow : (ps : List (List ℕ)) → Ascends ps → Follow is_above None ps
all_follow [] is = tt
all_follow (p ∷ ps) is = (refl, ascends_from p ps is.0 is.1)

-- each path is a path, and below the directory if there is one
abbrev AreWithin : Option (List ℕ) → List (List ℕ) → Type 0
AreWithin prefix ps = AllByRecursion (λ p. is_within prefix p ≡ true) ps

pub within_any : (ps : List (List ℕ)) → AreWithin None ps
within_any [] = tt
within_any (p ∷ ps) = (refl, within_any ps)

paths_are : (prefix : Option (List ℕ)) (ps : List (List ℕ)) → (paths_within prefix).fits ps → IsListing ps × AreWithin prefix ps
paths_are prefix ps are = (record { count = are.0; texts = texts ps are.1; ascends = all_ascend ps are.2 }, within ps are.1)
  where
    texts : (ps : List (List ℕ)) → AllByRecursion (λ p. path.fits p × (is_within prefix p ≡ true)) ps → AllByRecursion IsPathText ps
    texts [] are = tt
    texts (p ∷ ps) are = (path_is p are.0.0, texts ps are.1)

    within : (ps : List (List ℕ)) → AllByRecursion (λ p. path.fits p × (is_within prefix p ≡ true)) ps → AreWithin prefix ps
    within [] are = tt
    within (p ∷ ps) are = (are.0.1, within ps are.1)

pub paths_fit : (prefix : Option (List ℕ)) (ps : List (List ℕ)) → AllByRecursion IsPathText ps → AreWithin prefix ps
    → AllByRecursion (λ p. path.fits p × (is_within prefix p ≡ true)) ps
paths_fit prefix [] are within = tt
paths_fit prefix (p ∷ ps) are within = ((path_from p are.0, within.0), paths_fit prefix ps are.1 within.1)

pub paths_from : (prefix : Option (List ℕ)) (ps : List (List ℕ)) → IsListing ps → AreWithin prefix ps → (paths_within prefix).fits ps
paths_from prefix ps are within = (are.count, paths_fit prefix ps are.texts within, all_follow ps are.ascends)

-- marked paths follow one another as their paths do
marks_follow : (last : Option Marked) (ms : List Marked) → Follow ascending_marks last ms → Follow is_above (option_map (λ m. m.path) last) (paths_of ms)
marks_follow last [] is = tt
marks_follow last (m ∷ ms) is = (is.0, marks_follow (Some m) ms is.1)

marks_follow_from : (last : Option Marked) (ms : List Marked) → Follow is_above (option_map (λ m. m.path) last) (paths_of ms) → Follow ascending_marks last ms
marks_follow_from last [] is = tt
marks_follow_from last (m ∷ ms) is = (is.0, marks_follow_from (Some m) ms is.1)

marks_texts : (ms : List Marked) → AllByRecursion marked_path.fits ms → AllByRecursion IsPathText (paths_of ms)
marks_texts [] are = tt
marks_texts (m ∷ ms) are = (path_is m.path are.0.1, marks_texts ms are.1)

marks_fit : (ms : List Marked) → AllByRecursion IsPathText (paths_of ms) → AllByRecursion marked_path.fits ms
marks_fit [] are = tt
marks_fit (m ∷ ms) are = ((tt, path_from m.path are.0), marks_fit ms are.1)

marks_are : (ms : List Marked) → marked_paths.fits ms → IsListing (paths_of ms)
marks_are ms are = record {
  count = omega (arith, are.0, paths_len ms);
  texts = marks_texts ms are.1;
  ascends = all_ascend (paths_of ms) (marks_follow None ms are.2);
}

marks_from : (ms : List Marked) → IsListing (paths_of ms) → marked_paths.fits ms
marks_from ms are = (omega (arith, are.count, paths_len ms), marks_fit ms are.texts, marks_follow_from None ms (all_follow (paths_of ms) are.ascends))

-- ---- contents and causes

value_is : (c : Option Content) → content.fits c → IsValue c
value_is None is = tt
value_is (Some c) is = by c.kind c.bytes is
  where
    by : (kind : Kind) (bytes : List ℕ) → content.fits (Some (record { kind = kind; bytes = bytes })) → IsContentText (record { kind = kind; bytes = bytes })
    by Plain bytes is = record { few = leb-true _ _ is.0.1; bytes = is.1 }
    by Exec bytes is = record { few = leb-true _ _ is.0.1; bytes = is.1 }
    by Link bytes is = record { few = leb-true _ _ is.0.1; bytes = is.1 }

pub value_from : (c : Option Content) → IsValue c → content.fits c
value_from None is = tt
value_from (Some c) is = by c.kind c.bytes is
  where
    by : (kind : Kind) (bytes : List ℕ) → IsContentText (record { kind = kind; bytes = bytes }) → content.fits (Some (record { kind = kind; bytes = bytes }))
    by Plain bytes is = ((omega (arith, is.few), le-leb _ _ is.few), is.bytes)
    by Exec bytes is = ((omega (arith, is.few), le-leb _ _ is.few), is.bytes)
    by Link bytes is = ((omega (arith, is.few), le-leb _ _ is.few), is.bytes)

cause_is : (c : Cause) → cause.fits c → IsCause c
cause_is (causes.Stale n) is = is
cause_is (causes.Ahead n) is = is
cause_is (causes.Truncated n) is = is
cause_is causes.TooLarge is = tt

cause_from : (c : Cause) → IsCause c → cause.fits c
cause_from (causes.Stale n) is = is
cause_from (causes.Ahead n) is = is
cause_from (causes.Truncated n) is = is
cause_from causes.TooLarge is = (omega arith, refl)

-- ---- messages

-- a request with a filter fits by what the filter excludes and by the other fields
fields_are : (excluded : List (List ℕ)) (alone : RequestParts) (filtered : FilteredParts) (Fields : Type 0)
    → (request_cases.fits alone → Fields) → (filtered_cases.fits filtered → Fields) → request_cases.fits (parts_by excluded alone filtered) → ArePatterns excluded × Fields
fields_are [] alone filtered Fields of_alone of_filtered is = ((refl, tt), of_alone is)
fields_are (p ∷ ps) alone filtered Fields of_alone of_filtered is = (patterns_are (p ∷ ps) is.0.0, of_filtered is.1)

fields_fit : (excluded : List (List ℕ)) (alone : RequestParts) (filtered : FilteredParts)
    → ArePatterns excluded → request_cases.fits alone → filtered_cases.fits filtered → request_cases.fits (parts_by excluded alone filtered)
fields_fit [] alone filtered are is also = is
fields_fit (p ∷ ps) alone filtered are is also = ((filter_from (p ∷ ps) are, lt-ltb _ _ (omega arith)), also)

pub request_is : (x : Request) → request.fits x → IsRequest x
request_is (Basis q f) is =
    let all = fields_are f.excluded _ _ (query.fits q × filter.fits (including f.included)) (λ x. x) (λ x. x) is in
    (query_is q all.1.0, filter_is f all.1.1 all.0)
request_is (Poll q s f) is =
    let all = fields_are f.excluded _ _ (query.fits q × (position.fits s × filter.fits (including f.included))) (λ x. x) (λ x. x) is in
    (query_is q all.1.0, position_is s all.1.1.0, filter_is f all.1.1.1 all.0)
request_is (Fetch q p) is = (query_is q is.0, path_is p is.1)
request_is (Below q p f) is =
    let all = fields_are f.excluded _ _ (query.fits q × (path.fits p × filter.fits (including f.included))) (λ x. x) (λ x. x) is in
    (query_is q all.1.0, path_is p all.1.1.0, filter_is f all.1.1.1 all.0)

pub request_from : (x : Request) → IsRequest x → request.fits x
request_from (Basis q f) is =
    let fields : query.fits q × filter.fits (including f.included) = (query_from q is.0, filter_from f.included (is.1.filter.included, is.1.included)) in
    fields_fit f.excluded _ _ (is.1.filter.excluded, is.1.excluded) fields fields
request_from (Poll q s f) is =
    let fields : query.fits q × (position.fits s × filter.fits (including f.included)) =
    (query_from q is.0, (position_from s is.1, filter_from f.included (is.2.filter.included, is.2.included))) in
    fields_fit f.excluded _ _ (is.2.filter.excluded, is.2.excluded) fields fields
request_from (Fetch q p) is = (query_from q is.0, path_from p is.1)
request_from (Below q p f) is =
    let fields : query.fits q × (path.fits p × filter.fits (including f.included)) =
    (query_from q is.0, (path_from p is.1, filter_from f.included (is.2.filter.included, is.2.included))) in
    fields_fit f.excluded _ _ (is.2.filter.excluded, is.2.excluded) fields fields

pub reply_is : (x : Reply) → reply.fits x → IsReply x
reply_is (BasisIs q s ps) is = (query_is q is.0, position_is s is.1.0, (paths_are None ps is.1.1).0)
reply_is (ChangesAre q s ms ps) is = (query_is q is.0, position_is s is.1.0, marks_are ms is.1.1.0, (paths_are None ps is.1.1.1).0)
reply_is (ContentIs q s p c) is = (query_is q is.0, position_is s is.1.0, path_is p is.1.1.0, value_is c is.1.1.1)
reply_is (Refused q c) is = (query_is q is.0, cause_is c is.1)
reply_is (ListIs q s p ps) is =
    let all = paths_are (Some p) ps is.1.1.1 in
    (query_is q is.0, position_is s is.1.0, path_is p is.1.1.0, all.0, all.1)

pub reply_from : (x : Reply) → IsReply x → reply.fits x
reply_from (BasisIs q s ps) is = (query_from q is.0, (position_from s is.1, paths_from None ps is.2 (within_any ps)))
reply_from (ChangesAre q s ms ps) is = (query_from q is.0, (position_from s is.1, (marks_from ms is.2, paths_from None ps is.3 (within_any ps))))
reply_from (ContentIs q s p c) is = (query_from q is.0, (position_from s is.1, (path_from p is.2, value_from c is.3)))
reply_from (Refused q c) is = (query_from q is.0, cause_from c is.1)
reply_from (ListIs q s p ps) is = (query_from q is.0, (position_from s is.1, (path_from p is.2, paths_from (Some p) ps is.3 is.4)))
