-- A body is read as a question exactly if it encodes it.
use Rattle.std.proofs.Common.{◌≡◌, ℕ, ◌≤◌, true, false, Bool, cond, eqb, nat_lt, List, [], ◌∷◌, ◌++◌, length, Option, Some, None, Result, Ok, Err, refl, sym, ap, subst, ◌∙◌, inl, inr, arith}
use Rattle.std.specs.Prelude.{IfOk}
use Rattle.std.proofs.lemmas.Bool.{eqb-true, lt-ltb, ne_eqb}
use Rattle.eden_globs.specs.Filters.{Patterns, including}
use Rattle.eden_messages.specs.declared.message.Query.{Query}
use Rattle.eden_messages.specs.declared.message.Request.{Request}
use Rattle.eden_messages.specs.declared.message.Request.TheVariants.{Basis, Poll, Fetch, List as Below}
use Rattle.eden_messages.specs.Spells.{IsRequest, SpellsRequest, excluded_bytes, filter_bytes, query_bytes, text_bytes}
use Rattle.eden_wire.specs.declared.fault.DecodeFault.{DecodeFault}
use Rattle.eden_wire.specs.declared.fault.DecodeFault.TheVariants.{BadTag, Trailing}
use Rattle.eden_wire.specs.declared.question.Question.{Question}
use Rattle.eden_wire.specs.declared.question.Question.TheVariants as asks
use Rattle.eden_wire.specs.Formats.{◌>>=◌, Format, byte, ◌▹◌, optional, versioned, tagged}
use Rattle.eden_wire.specs.Messages.{FilteredParts, query, position, path, filter, excluded, excepting, filtered_cases, filtered_of}
use Rattle.eden_wire.specs.Questions.{SpellsQuestion, question_bytes, read_excluding, read_filtered, read_question, request_of, without}
use Rattle.eden_wire.specs.Reading.{Gives, ended, read_request, read_to_end, tag_at}
use Rattle.eden_wire.proofs.Numbers.{IsBytes, along, bind_ok}
use Rattle.eden_wire.proofs.FormatLaws.{Laws, and_laws, byte_laws, only_laws, versioned_laws}
use Rattle.eden_wire.proofs.TagLaws.{chosen, optional_laws}
use Rattle.eden_wire.proofs.MessageLaws.{query_laws, path_laws, filter_laws}
use Rattle.eden_wire.proofs.Same.{ArePatterns, filter_from, filter_is, path_from, path_is, patterns_are, query_from, query_is, request_from, request_is}
use Rattle.eden_wire.proofs.Whole.{filtered_whole, request_whole}
use Rattle.eden_wire.proofs.BodyLaws.{HasTag, IsAsked, end_again, end_exact, excluded_asked, request_asked, request_read, request_spelled, tag_again, tag_takes}

-- a body whose tag is neither that of a patience nor of a change
pub question_asked : (x : Question) → IsAsked (question_bytes x)
question_asked (asks.Whole request) = (request_asked request).asked
question_asked (asks.Stat q p) = record { tag = 8; rest = query_bytes q ++ text_bytes p; parts = refl; alone = refl; asks = refl; low = omega arith }
question_asked (asks.Attributes q prefix f) = excluded_asked f.excluded 9 _ refl refl (omega arith)
question_asked (asks.Status q f) = excluded_asked f.excluded 10 _ refl refl (omega arith)

-- ---- fields

stat_laws : Laws (Query × List ℕ) (query ▹ path)
stat_laws = and_laws _ query_laws _ path_laws

attributes_laws : Laws (Query × (Option (List ℕ) × Patterns)) (query ▹ optional path ▹ filter)
attributes_laws = and_laws _ query_laws _ (and_laws _ (optional_laws path path_laws) _ filter_laws)

status_laws : Laws (Query × Patterns) (query ▹ filter)
status_laws = and_laws _ query_laws _ filter_laws

excluded_laws : Laws Patterns excluded
excluded_laws = only_laws _ filter_laws _

abbrev filtered : Format FilteredParts
filtered = versioned (tagged filtered_cases)

attributes_fields : (q : Query) (prefix : Option (List ℕ)) (f : Patterns) → IsRequest (request_of (asks.Attributes q prefix f))
    → ArePatterns f.excluded × (query ▹ optional path ▹ filter).fits (q, (prefix, including f.included))
attributes_fields q None f is = ((is.1.filter.excluded, is.1.excluded), (query_from q is.0, (tt, filter_from f.included (is.1.filter.included, is.1.included))))
attributes_fields q (Some p) f is =
    ((is.2.filter.excluded, is.2.excluded), (query_from q is.0, (path_from p is.1, filter_from f.included (is.2.filter.included, is.2.included))))

attributes_are_fields : (q : Query) (prefix : Option (List ℕ)) (f : Patterns) → ArePatterns f.excluded
    → (query ▹ optional path ▹ filter).fits (q, (prefix, including f.included)) → IsRequest (request_of (asks.Attributes q prefix f))
attributes_are_fields q None f are is = (query_is q is.0, filter_is f is.1.1 are)
attributes_are_fields q (Some p) f are is = (query_is q is.0, path_is p is.1.0, filter_is f is.1.1 are)

status_fields : (q : Query) (f : Patterns) → IsRequest (Basis q f) → ArePatterns f.excluded × (query ▹ filter).fits (q, including f.included)
status_fields q f is = ((is.1.filter.excluded, is.1.excluded), (query_from q is.0, filter_from f.included (is.1.filter.included, is.1.included)))

-- ---- after what a filter excludes

-- the steps after the tag 7
abbrev excluding : List ℕ → Result Question DecodeFault
excluding rest = excluded.read rest >>= λ e. read_excluding e.1 >>= λ x. Ok (without e.0 x)

-- which question comes after the tag of a body
abbrev by_tag : List ℕ → ℕ × List ℕ → Result Question DecodeFault
by_tag body t =
    cond (eqb t.0 7) (excluding t.1) (cond (eqb t.0 8) (read_to_end (query ▹ path) (λ x. asks.Stat x.0 x.1) t.1) (read_filtered t (read_request body)))

read_by_tag : (body : List ℕ) → read_question body ≡ tag_at body >>= by_tag body
unfolding read_question
read_by_tag body = refl

abbrev excluding_request : List ℕ → Result Request DecodeFault
excluding_request rest = read_to_end (excluded ▹ filtered) (λ x. excepting x.0 (filtered_of x.1)) rest

excluding_parts : (rest : List ℕ) → excluding_request rest ≡ excluded.read rest >>= λ e. read_to_end filtered filtered_of e.1 >>= λ m. Ok (excepting e.0 m)
excluding_parts rest = by (excluded.read rest)
  where
    by_end : (at_end : Bool) (e : Patterns) (m : Request) → cond at_end (Ok (excepting e m)) (Err Trailing) ≡ cond at_end (Ok m) (Err Trailing) >>= λ m. Ok (excepting e m)
    by_end true e m = refl
    by_end false e m = refl

    by_request : (e : Patterns) (r : Result (FilteredParts × List ℕ) DecodeFault)
        → ((r >>= λ y. Ok ((e, y.0), y.1)) >>= λ (x : (Patterns × FilteredParts) × List ℕ). ended (excepting x.0.0 (filtered_of x.0.1)) x.1)
        ≡ (r >>= λ y. ended (filtered_of y.0) y.1) >>= λ m. Ok (excepting e m)
    by_request e (Ok y) = by_end (eqb (length y.1) 0) e (filtered_of y.0)
    by_request e (Err fault) = refl

    by : (r : Result (Patterns × List ℕ) DecodeFault)
        → ((r >>= λ x. filtered.read x.1 >>= λ y. Ok ((x.0, y.0), y.1)) >>= λ (x : (Patterns × FilteredParts) × List ℕ). ended (excepting x.0.0 (filtered_of x.0.1)) x.1)
        ≡ r >>= λ e. read_to_end filtered filtered_of e.1 >>= λ m. Ok (excepting e.0 m)
    by (Ok e) = by_request e.0 (filtered.read e.1)
    by (Err fault) = refl

-- which request comes after a tag
abbrev by_filtered_tag : ℕ × List ℕ → Result Request DecodeFault
by_filtered_tag t =
    cond (eqb t.0 1) (read_to_end (query ▹ filter) (λ x. Basis x.0 x.1) t.1) (
    cond (eqb t.0 2) (read_to_end (query ▹ position ▹ filter) (λ x. Poll x.0 x.1.0 x.1.1) t.1) (
    cond (eqb t.0 4) (read_to_end (query ▹ path ▹ filter) (λ x. Below x.0 x.1.0 x.1.1) t.1) (Err BadTag)))

another_tag : (t : ℕ × List ℕ) (m : Request) (n : ℕ) → by_filtered_tag (n, t.1) ≡ Err BadTag → by_filtered_tag t ≡ Ok m → eqb t.0 n ≡ false
another_tag t m n none e =
    elim (eqb t.0 n) as (λ b. eqb t.0 n ≡ b → b ≡ false) [
      | true ↦ λ is. absurd (let both : Err BadTag ≡ Ok m = sym none ∙ ap (λ (k : ℕ). by_filtered_tag (k, t.1)) (sym (eqb-true t.0 n is)) ∙ e in cc)
      | false ↦ λ is. refl
    ] refl

neither : {A : Type 0} (a b : Bool) (x y z : A) → a ≡ false → b ≡ false → cond a x (cond b y z) ≡ z
neither a b x y z na nb = rw (na, nb) refl

filtered_alike : (bytes : List ℕ) (m : Request) → read_to_end filtered filtered_of bytes ≡ Ok m → read_excluding bytes ≡ Ok (asks.Whole m)
filtered_alike bytes m e =
    let a = bind_ok ((versioned byte).read bytes) by_filtered_tag m (sym (filtered_whole bytes) ∙ e) in
    let otherwise = read_to_end filtered filtered_of bytes in
    ap (λ r. r >>= λ t. read_filtered t otherwise) a.1
    ∙ neither (eqb a.0.0 9) (eqb a.0.0 10) _ _ (otherwise >>= λ r. Ok (asks.Whole r)) (another_tag a.0 m 9 refl a.2) (another_tag a.0 m 10 refl a.2)
    ∙ ap (λ r. r >>= λ r. Ok (asks.Whole r)) e

excluding_alike : (rest : List ℕ) (m : Request) → excluding_request rest ≡ Ok m → excluding rest ≡ Ok (asks.Whole m)
excluding_alike rest m e =
    let a = bind_ok (excluded.read rest) (λ e. read_to_end filtered filtered_of e.1 >>= λ m. Ok (excepting e.0 m)) m (sym (excluding_parts rest) ∙ e) in
    let b = bind_ok (read_to_end filtered filtered_of a.0.1) (λ m. Ok (excepting a.0.0 m)) m a.2 in
    ap (λ r. r >>= λ e. read_excluding e.1 >>= λ x. Ok (without e.0 x)) a.1 ∙ ap (λ r. r >>= λ x. Ok (without a.0.0 x)) (filtered_alike a.0.1 b.0 b.1)
    ∙ ap (λ (r : Result Request DecodeFault). r >>= λ m. Ok (asks.Whole m)) b.2

-- which request comes after the tag of a body
abbrev request_by_tag : ℕ × List ℕ → Result Request DecodeFault
request_by_tag t =
    cond (eqb t.0 1) (read_to_end (query ▹ filter) (λ x. Basis x.0 x.1) t.1) (
    cond (eqb t.0 2) (read_to_end (query ▹ position ▹ filter) (λ x. Poll x.0 x.1.0 x.1.1) t.1) (
    cond (eqb t.0 3) (read_to_end (query ▹ path) (λ x. Fetch x.0 x.1) t.1) (
    cond (eqb t.0 4) (read_to_end (query ▹ path ▹ filter) (λ x. Below x.0 x.1.0 x.1.1) t.1) (
    cond (eqb t.0 7) (excluding_request t.1) (Err BadTag)))))

-- ---- what is written is read

whole_read : (body : List ℕ) (request : Request) → SpellsRequest body request → read_question body ≡ Ok (asks.Whole request)
whole_read body request spells =
    let requested = request_asked request in
    let asked = requested.asked in
    let parts = spells.bytes ∙ asked.parts in
    let tag : tag_at body ≡ Ok (asked.tag, asked.rest) = ap tag_at parts ∙ tag_again asked.tag asked.rest (subst (λ (b : List ℕ). length b ≤ 16777216) parts spells.limit) in
    let read = request_read body request spells in
    read_by_tag body ∙ ap (λ r. r >>= by_tag body) tag ∙ (elim requested.kind [
      | inl low ↦
          let no7 : eqb asked.tag 7 ≡ false = ne_eqb _ _ (omega (arith, low)) in
          let no8 : eqb asked.tag 8 ≡ false = ne_eqb _ _ (omega (arith, low)) in
          let no9 : eqb asked.tag 9 ≡ false = ne_eqb _ _ (omega (arith, low)) in
          let no10 : eqb asked.tag 10 ≡ false = ne_eqb _ _ (omega (arith, low)) in
          neither (eqb asked.tag 7) (eqb asked.tag 8) _ _ (read_filtered (asked.tag, asked.rest) (read_request body)) no7 no8
          ∙ neither (eqb asked.tag 9) (eqb asked.tag 10) _ _ (read_request body >>= λ r. Ok (asks.Whole r)) no9 no10
          ∙ ap (λ r. r >>= λ r. Ok (asks.Whole r)) read
      | inr is ↦
          let rest : excluding_request asked.rest ≡ Ok request =
          ap (λ (n : ℕ). request_by_tag (n, asked.rest)) (sym is) ∙ sym (ap (λ r. r >>= request_by_tag) tag) ∙ sym (request_whole body) ∙ read in
          ap (λ (n : ℕ). by_tag body (n, asked.rest)) is ∙ excluding_alike asked.rest request rest
    ])

stat_read : (q : Query) (p : List ℕ) → IsRequest (Fetch q p) → length (question_bytes (asks.Stat q p)) ≤ 16777216
    → read_question (question_bytes (asks.Stat q p)) ≡ Ok (asks.Stat q p)
stat_read q p fields limit =
    read_by_tag (question_bytes (asks.Stat q p)) ∙ ap (λ r. r >>= by_tag (question_bytes (asks.Stat q p))) (tag_again 8 (query_bytes q ++ text_bytes p) limit)
    ∙ end_again (query ▹ path) stat_laws (λ x. asks.Stat x.0 x.1) (q, p) (request_from (Fetch q p) fields)

-- a question whose filter may exclude patterns, by what comes after its own tag
filtered_read : (excluded_patterns : List (List ℕ)) (tag : ℕ) (rest : List ℕ) (alone : Question) → ArePatterns excluded_patterns → eqb tag 7 ≡ false → eqb tag 8 ≡ false
    → ((otherwise : Result Request DecodeFault) → read_filtered (tag, rest) otherwise ≡ Ok alone) → without (including []) alone ≡ alone
    → length (excluded_bytes excluded_patterns ++ (2 ∷ tag ∷ rest)) ≤ 16777216
    → read_question (excluded_bytes excluded_patterns ++ (2 ∷ tag ∷ rest)) ≡ Ok (without (including excluded_patterns) alone)
filtered_read [] tag rest alone are no7 no8 reads same limit =
    let body = 2 ∷ tag ∷ rest in
    read_by_tag body ∙ ap (λ r. r >>= by_tag body) (tag_again tag rest limit) ∙ neither (eqb tag 7) (eqb tag 8) _ _ (read_filtered (tag, rest) (read_request body)) no7 no8
    ∙ reads (read_request body) ∙ ap (λ (x : Question). Ok x) (sym same)
filtered_read (p ∷ ps) tag rest alone are no7 no8 reads same limit =
    let inner = 2 ∷ tag ∷ rest in
    let after = filter_bytes (p ∷ ps) ++ inner in
    let body = 2 ∷ 7 ∷ after in
    let there : excluded.read after ≡ Ok (including (p ∷ ps), inner) = excluded_laws.again (including (p ∷ ps)) inner (filter_from (p ∷ ps) are, lt-ltb _ _ (omega arith)) in
    read_by_tag body ∙ ap (λ r. r >>= by_tag body) (tag_again 7 after limit) ∙ ap (λ r. r >>= λ e. read_excluding e.1 >>= λ x. Ok (without e.0 x)) there
    ∙ ap (λ r. r >>= λ x. Ok (without (including (p ∷ ps)) x)) (reads (read_to_end filtered filtered_of inner))

attributes_read : (q : Query) (prefix : Option (List ℕ)) (f : Patterns) → IsRequest (request_of (asks.Attributes q prefix f))
    → length (question_bytes (asks.Attributes q prefix f)) ≤ 16777216 → read_question (question_bytes (asks.Attributes q prefix f)) ≡ Ok (asks.Attributes q prefix f)
attributes_read q prefix f fields limit =
    let are = attributes_fields q prefix f fields in
    filtered_read f.excluded 9 ((query ▹ optional path ▹ filter).spell (q, (prefix, including f.included))) (asks.Attributes q prefix (including f.included)) are.0 refl refl
    (λ otherwise. end_again (query ▹ optional path ▹ filter) attributes_laws (λ x. asks.Attributes x.0 x.1.0 x.1.1) (q, (prefix, including f.included)) are.1) refl limit

status_read : (q : Query) (f : Patterns) → IsRequest (Basis q f) → length (question_bytes (asks.Status q f)) ≤ 16777216
    → read_question (question_bytes (asks.Status q f)) ≡ Ok (asks.Status q f)
status_read q f fields limit =
    let are = status_fields q f fields in
    filtered_read f.excluded 10 ((query ▹ filter).spell (q, including f.included)) (asks.Status q (including f.included)) are.0 refl refl
    (λ otherwise. end_again (query ▹ filter) status_laws (λ x. asks.Status x.0 x.1) (q, including f.included) are.1) refl limit

pub question_read : (body : List ℕ) (x : Question) → SpellsQuestion body x → read_question body ≡ Ok x
question_read body (asks.Whole request) spells = whole_read body request (record { fields = spells.fields; bytes = spells.bytes; limit = spells.limit })
question_read body (asks.Stat q p) spells =
    ap read_question spells.bytes ∙ stat_read q p spells.fields (subst (λ (b : List ℕ). length b ≤ 16777216) spells.bytes spells.limit)
question_read body (asks.Attributes q prefix f) spells =
    ap read_question spells.bytes ∙ attributes_read q prefix f spells.fields (subst (λ (b : List ℕ). length b ≤ 16777216) spells.bytes spells.limit)
question_read body (asks.Status q f) spells =
    ap read_question spells.bytes ∙ status_read q f spells.fields (subst (λ (b : List ℕ). length b ≤ 16777216) spells.bytes spells.limit)

-- ---- what is read was written so

whole_spelled : (body : List ℕ) (x : Question) → IsBytes body → (read_request body >>= λ r. Ok (asks.Whole r)) ≡ Ok x → SpellsQuestion body x
whole_spelled body x fits e =
    let a = bind_ok (read_request body) (λ r. Ok (asks.Whole r)) x e in
    let spells = request_spelled body a.0 fits a.1 in
    along (λ (y : Question). SpellsQuestion body y) (asks.Whole a.0) x a.2 (record { fields = spells.fields; bytes = spells.bytes; limit = spells.limit })

stat_spelled : (body rest : List ℕ) (x : Question) → HasTag body 8 rest → read_to_end (query ▹ path) (λ x. asks.Stat x.0 x.1) rest ≡ Ok x → SpellsQuestion body x
stat_spelled body rest x t e =
    let b = end_exact (query ▹ path) stat_laws (λ x. asks.Stat x.0 x.1) rest x t.rest_fits e in
    subst (λ (y : Question). SpellsQuestion body y) b.3
    (record { fields = request_is (Fetch b.0.0 b.0.1) b.1; bytes = t.parts ∙ ap (λ (r : List ℕ). 2 ∷ 8 ∷ r) b.2; limit = t.limit })

attributes_spelled : (body : List ℕ) (excluded_patterns : List (List ℕ)) (q : Query) (prefix : Option (List ℕ)) (f : Patterns) → ArePatterns excluded_patterns
    → (query ▹ optional path ▹ filter).fits (q, (prefix, f)) → body ≡ excluded_bytes excluded_patterns ++ (2 ∷ 9 ∷ (query ▹ optional path ▹ filter).spell (q, (prefix, f)))
    → length body ≤ 16777216 → SpellsQuestion body (asks.Attributes q prefix (record f { excluded = excluded_patterns }))
attributes_spelled body excluded_patterns q prefix f are fits bytes limit = record {
  fields = attributes_are_fields q prefix (record f { excluded = excluded_patterns }) are (fits.0, (fits.1.0, (fits.1.1.0, refl)));
  bytes = bytes;
  limit = limit;
}

status_spelled : (body : List ℕ) (excluded_patterns : List (List ℕ)) (q : Query) (f : Patterns) → ArePatterns excluded_patterns
    → (query ▹ filter).fits (q, f) → body ≡ excluded_bytes excluded_patterns ++ (2 ∷ 10 ∷ (query ▹ filter).spell (q, f))
    → length body ≤ 16777216 → SpellsQuestion body (asks.Status q (record f { excluded = excluded_patterns }))
status_spelled body excluded_patterns q f are fits bytes limit = record {
  fields = (query_is q fits.0, filter_is (record f { excluded = excluded_patterns }) (fits.1.0, refl) are);
  bytes = bytes;
  limit = limit;
}

-- what a read filter excludes is in front, if it excludes anything
some_excluded : (patterns : List (List ℕ)) → nat_lt 0 (length patterns) ≡ true → 2 ∷ 7 ∷ filter_bytes patterns ≡ excluded_bytes patterns
some_excluded [] none = absurd cc
some_excluded (p ∷ ps) some = refl

-- a question that comes after its tag, after these excluded patterns; `made` excludes them
module _ (excluded_patterns : List (List ℕ)) (are : ArePatterns excluded_patterns) (made : Question → Question)
    (attributes : (q : Query) (prefix : Option (List ℕ)) (f : Patterns) → filter.fits f
    → asks.Attributes q prefix (record f { excluded = excluded_patterns }) ≡ made (asks.Attributes q prefix f))
    (status : (q : Query) (f : Patterns) → filter.fits f → asks.Status q (record f { excluded = excluded_patterns }) ≡ made (asks.Status q f)) where
  filtered_spelled : (body : List ℕ) (t : ℕ × List ℕ) (otherwise : Result Request DecodeFault) (x : Question)
      → body ≡ excluded_bytes excluded_patterns ++ (2 ∷ t.0 ∷ t.1) → IsBytes t.1 → length body ≤ 16777216
      → read_filtered t otherwise ≡ Ok x → ((m : Request) → otherwise ≡ Ok m → SpellsQuestion body (made (asks.Whole m))) → SpellsQuestion body (made x)
  filtered_spelled body t otherwise x parts fits limit e whole =
      let to9 : Query × (Option (List ℕ) × Patterns) → Question = λ y. asks.Attributes y.0 y.1.0 y.1.1 in
      let to10 : Query × Patterns → Question = λ y. asks.Status y.0 y.1 in
      let nine = read_to_end (query ▹ optional path ▹ filter) to9 t.1 in
      let ten = read_to_end (query ▹ filter) to10 t.1 in
      let wholes = otherwise >>= λ r. Ok (asks.Whole r) in
      let tagged_by : (n : ℕ) → eqb t.0 n ≡ true → (spelled : List ℕ) → t.1 ≡ spelled → body ≡ excluded_bytes excluded_patterns ++ (2 ∷ n ∷ spelled) =
      λ n same spelled r.
      parts ∙ ap (λ (k : ℕ). excluded_bytes excluded_patterns ++ (2 ∷ k ∷ t.1)) (eqb-true t.0 n same) ∙ ap (λ (s : List ℕ). excluded_bytes excluded_patterns ++ (2 ∷ n ∷ s)) r in
      elim (chosen (eqb t.0 9) nine (cond (eqb t.0 10) ten wholes) (Ok x) e) [
        | inl h ↦
            let b = end_exact (query ▹ optional path ▹ filter) attributes_laws to9 t.1 x fits h.1 in
            subst (λ (y : Question). SpellsQuestion body (made y)) b.3
            (subst (SpellsQuestion body) (attributes b.0.0 b.0.1.0 b.0.1.1 b.1.1.1)
            (attributes_spelled body excluded_patterns b.0.0 b.0.1.0 b.0.1.1 are b.1 (tagged_by 9 h.0 _ b.2) limit))
        | inr h ↦ elim (chosen (eqb t.0 10) ten wholes (Ok x) h.1) [
          | inl k ↦
              let b = end_exact (query ▹ filter) status_laws to10 t.1 x fits k.1 in
              subst (λ (y : Question). SpellsQuestion body (made y)) b.3
              (subst (SpellsQuestion body) (status b.0.0 b.0.1 b.1.1) (status_spelled body excluded_patterns b.0.0 b.0.1 are b.1 (tagged_by 10 k.0 _ b.2) limit))
          | inr k ↦
              let a = bind_ok otherwise (λ r. Ok (asks.Whole r)) x k.1 in
              along (λ (y : Question). SpellsQuestion body (made y)) (asks.Whole a.0) x a.2 (whole a.0 a.1)
        ]
      ]

excluding_spelled : (body rest : List ℕ) (x : Question) → IsBytes body → HasTag body 7 rest → tag_at body ≡ Ok (7, rest) → excluding rest ≡ Ok x → SpellsQuestion body x
excluding_spelled body rest x fits has tag given =
    let a = bind_ok (excluded.read rest) (λ e. read_excluding e.1 >>= λ x. Ok (without e.0 x)) x given in
    let e = a.0 in
    let b = bind_ok (read_excluding e.1) (λ x. Ok (without e.0 x)) x a.2 in
    let takes = excluded_laws.exact rest e has.rest_fits a.1 in
    let otherwise = read_to_end filtered filtered_of e.1 in
    let t = bind_ok ((versioned byte).read e.1) (λ t. read_filtered t otherwise) b.0 b.1 in
    let inner = (versioned_laws byte byte_laws).exact e.1 t.0 takes.0.rest_fits t.1 in
    let parts : body ≡ excluded_bytes e.0.included ++ (2 ∷ t.0.0 ∷ t.0.1) =
    has.parts ∙ ap (λ (r : List ℕ). 2 ∷ 7 ∷ r) (takes.0.parts ∙ ap (λ (r : List ℕ). filter_bytes e.0.included ++ r) inner.0.parts)
    ∙ ap (λ (front : List ℕ). front ++ (2 ∷ t.0.0 ∷ t.0.1)) (some_excluded e.0.included takes.1.1) in
    along (λ (y : Question). SpellsQuestion body y) (without e.0 b.0) x b.2
    (filtered_spelled e.0.included (patterns_are e.0.included (takes.1.0.0, refl)) (without e.0) (λ q prefix f fits. refl) (λ q f fits. refl)
    body t.0 otherwise b.0 parts inner.0.rest_fits has.limit t.2 (λ m is.
    let spells = request_spelled body (excepting e.0 m) fits
    (request_whole body ∙ ap (λ r. r >>= request_by_tag) tag ∙ excluding_parts rest
    ∙ ap (λ r. r >>= λ e. read_to_end filtered filtered_of e.1 >>= λ m. Ok (excepting e.0 m)) a.1 ∙ ap (λ (r : Result Request DecodeFault). r >>= λ m. Ok (excepting e.0 m)) is) in
    record { fields = spells.fields; bytes = spells.bytes; limit = spells.limit }))

pub question_spelled : (body : List ℕ) (x : Question) → IsBytes body → read_question body ≡ Ok x → SpellsQuestion body x
question_spelled body x fits e =
    let a = bind_ok (tag_at body) (by_tag body) x (sym (read_by_tag body) ∙ e) in
    let t = tag_takes body a.0 fits a.1 in
    let stats = read_to_end (query ▹ path) (λ x. asks.Stat x.0 x.1) a.0.1 in
    let others = read_filtered a.0 (read_request body) in
    elim (chosen (eqb a.0.0 7) (excluding a.0.1) (cond (eqb a.0.0 8) stats others) (Ok x) a.2) [
      | inl h ↦
          let is = eqb-true a.0.0 7 h.0 in
          excluding_spelled body a.0.1 x fits (subst (λ (n : ℕ). HasTag body n a.0.1) is t) (a.1 ∙ ap (λ (n : ℕ). Ok (n, a.0.1)) is) h.1
      | inr h ↦ elim (chosen (eqb a.0.0 8) stats others (Ok x) h.1) [
        | inl k ↦ stat_spelled body a.0.1 x (subst (λ (n : ℕ). HasTag body n a.0.1) (eqb-true a.0.0 8 k.0) t) k.1
        | inr k ↦
            filtered_spelled [] (refl, tt) (λ y. y) (λ q prefix f is. ap (λ (g : Patterns). asks.Attributes q prefix g) is.1) (λ q f is. ap (λ (g : Patterns). asks.Status q g) is.1)
            body a.0 (read_request body) x t.parts t.rest_fits t.limit k.1 (λ m is. whole_spelled body (asks.Whole m) fits (ap (λ (r : Result Request DecodeFault). r >>= λ r. Ok (asks.Whole r)) is))
      ]
    ]

-- what a call returned
pub is_spelled_question : (body : List ℕ) (r : Result Question DecodeFault) → IsBytes body → Gives (λ m. m) r (read_question body) → IfOk r (λ m. SpellsQuestion body m)
is_spelled_question body (Ok m) fits given = question_spelled body m fits given
is_spelled_question body (Err e) fits given = tt
