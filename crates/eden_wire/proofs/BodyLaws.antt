-- A body is read as a message exactly if it encodes it.
use Rattle.std.proofs.Common.{◌≡◌, ℕ, ◌<◌, ◌≤◌, true, false, cond, ltb, eqb, List, [], ◌∷◌, ◌++◌, length, get_or, Result, Ok, Err, refl, sym, ap, subst, ◌∙◌, arith, append-nil, inl, inr, ◌⊎◌}
use Rattle.std.specs.Prelude.{IfOk}
use Rattle.std.proofs.lemmas.Bool.{eqb-true, ltb-false, le-ltb, ne_eqb}
use Rattle.std.proofs.lemmas.List.{nil_from_length}
use Rattle.eden_messages.specs.declared.message.Request.{Request}
use Rattle.eden_messages.specs.declared.message.Request.TheVariants.{Basis, Poll, Fetch, List as Below}
use Rattle.eden_messages.specs.declared.message.Reply.{Reply}
use Rattle.eden_messages.specs.declared.message.Reply.TheVariants.{BasisIs, ChangesAre, ContentIs, Refused, ListIs}
use Rattle.eden_messages.specs.Spells.{query_bytes, text_bytes, filter_bytes, excluded_bytes, request_bytes, SpellsRequest, reply_bytes, SpellsReply}
use Rattle.eden_wire.specs.declared.fault.DecodeFault.{DecodeFault}
use Rattle.eden_wire.specs.declared.fault.DecodeFault.TheVariants.{BadTag, TooLarge, Trailing}
use Rattle.eden_wire.specs.Formats.{◌>>=◌, Format, byte, versioned}
use Rattle.eden_wire.specs.Messages.{request, reply}
use Rattle.eden_wire.specs.Reading.{AreReadBack, Gives, Spells, after_tag, ended, read_request, read_reply, read_tagged, read_to_end, tag_at}
use Rattle.eden_wire.proofs.Numbers.{IsBytes, bind_ok, guard_ok, held_ok, ok_is}
use Rattle.eden_wire.proofs.FormatLaws.{Laws, byte_laws, versioned_laws}
use Rattle.eden_wire.proofs.MessageLaws.{request_laws, reply_laws, read_back, read_encodes}
use Rattle.eden_wire.proofs.Same.{request_encoded, request_is, request_from, reply_encoded, reply_is, reply_from}

-- ---- version and tag

pub record HasTag (body : List ℕ) (tag : ℕ) (rest : List ℕ) : Type 0 where
  pub parts : body ≡ 2 ∷ tag ∷ rest
  pub limit : length body ≤ 16777216
  pub rest_fits : IsBytes rest

pub tag_takes : (body : List ℕ) (x : ℕ × List ℕ) → IsBytes body → tag_at body ≡ Ok x → HasTag body x.0 x.1
unfolding tag_at
tag_takes body x fits e =
    let g = guard_ok (ltb 16777216 (length body)) TooLarge ((versioned byte).read body) x e in
    let t = (versioned_laws byte byte_laws).exact body x fits g.1 in
    record { parts = t.0.parts; limit = ltb-false _ _ g.0; rest_fits = t.0.rest_fits }

pub tag_again : (tag : ℕ) (rest : List ℕ) → length (2 ∷ tag ∷ rest) ≤ 16777216 → tag_at (2 ∷ tag ∷ rest) ≡ Ok (tag, rest)
unfolding tag_at
tag_again tag rest limit =
    let few : ltb 16777216 (length (2 ∷ tag ∷ rest)) ≡ false = le-ltb _ _ limit in
    rw few refl

-- ---- a message after its tag

module _ {A M : Type 0} (format : Format A) (laws : Laws A format) (to : A → M) where
  pub end_again : (x : A) → format.fits x → read_to_end format to (format.spell x) ≡ Ok (to x)
  end_again x fits =
      let all : format.read (format.spell x) ≡ Ok (x, []) = ap format.read (sym (append-nil (format.spell x))) ∙ laws.again x [] fits in
      rw all refl

  -- the message was made of a value that the bytes spell
  pub end_exact : (bytes : List ℕ) (message : M) → IsBytes bytes → read_to_end format to bytes ≡ Ok message
      → (x : A) × format.fits x × (bytes ≡ format.spell x) × (to x ≡ message)
  end_exact bytes message fits e =
      let a = bind_ok (format.read bytes) (λ x. ended (to x.0) x.1) message e in
      let end = held_ok (eqb (length a.0.1) 0) (Ok (to a.0.0)) Trailing message a.2 in
      let l = laws.exact bytes a.0 fits a.1 in
      let none : a.0.1 ≡ [] = nil_from_length a.0.1 (eqb-true _ _ end.0) in
      (a.0.0, l.1, l.0.parts ∙ ap (λ (r : List ℕ). format.spell a.0.0 ++ r) none ∙ append-nil (format.spell a.0.0), ok_is (to a.0.0) message end.1)

-- a message with a tag of its own
module _ {A : Type 0} (tag : ℕ) (format : Format A) (laws : Laws A format) where
  tagged_again : (message : A) → format.fits message → length (2 ∷ tag ∷ format.spell message) ≤ 16777216 → read_tagged tag format (2 ∷ tag ∷ format.spell message) ≡ Ok message
  tagged_again message fits limit =
      let same : eqb tag tag ≡ true = grind arith in
      rw (tag_again tag (format.spell message) limit, same, end_again format laws (λ x. x) message fits) refl

  pub tagged_read : AreReadBack tag format
  tagged_read body message spells =
      ap (read_tagged tag format) spells.bytes ∙ tagged_again message spells.fields (subst (λ (b : List ℕ). length b ≤ 16777216) spells.bytes spells.limit)

  pub tagged_spelled : (body : List ℕ) (message : A) → IsBytes body → read_tagged tag format body ≡ Ok message → Spells tag format body message
  tagged_spelled body message fits e =
      let a = bind_ok (after_tag tag body) (λ rest. read_to_end format (λ x. x) rest) message e in
      let t = bind_ok (tag_at body) (λ t. cond (eqb t.0 tag) (Ok t.1) (Err BadTag)) a.0 a.1 in
      let h = held_ok (eqb t.0.0 tag) (Ok t.0.1) BadTag a.0 t.2 in
      let has = tag_takes body t.0 fits t.1 in
      let rest : t.0.1 ≡ a.0 = ok_is t.0.1 a.0 h.1 in
      let b = end_exact format laws (λ x. x) a.0 message (subst IsBytes rest has.rest_fits) a.2 in
      let bytes = has.parts ∙ ap (λ (n : ℕ). 2 ∷ n ∷ t.0.1) (eqb-true t.0.0 tag h.0) ∙ ap (λ (r : List ℕ). 2 ∷ tag ∷ r) (rest ∙ b.2) in
      subst (λ (m : A). Spells tag format body m) b.3 (record { fields = b.1; bytes = bytes; limit = has.limit })

  -- what a call returned
  pub is_spelled_tagged : (body : List ℕ) (r : Result A DecodeFault) → IsBytes body → Gives (λ m. m) r (read_tagged tag format body) → IfOk r (λ m. Spells tag format body m)
  is_spelled_tagged body (Ok m) fits given = tagged_spelled body m fits given
  is_spelled_tagged body (Err e) fits given = tt

-- ---- requests

pub request_read : (body : List ℕ) (x : Request) → SpellsRequest body x → read_request body ≡ Ok x
unfolding read_request
request_read body x spells =
    read_back request request_laws body x
    (record { fields = request_from x spells.fields; bytes = spells.bytes ∙ sym (request_encoded x); limit = spells.limit })

pub request_spelled : (body : List ℕ) (x : Request) → IsBytes body → read_request body ≡ Ok x → SpellsRequest body x
unfolding read_request
request_spelled body x fits e =
    let is = read_encodes request request_laws body x fits e in
    record { fields = request_is x is.fields; bytes = is.bytes ∙ request_encoded x; limit = is.limit }

-- ---- replies

pub reply_read : (body : List ℕ) (x : Reply) → SpellsReply body x → read_reply body ≡ Ok x
unfolding read_reply
reply_read body x spells =
    read_back reply reply_laws body x
    (record { fields = reply_from x spells.fields; bytes = spells.bytes ∙ sym (reply_encoded x); limit = spells.limit })

pub reply_spelled : (body : List ℕ) (x : Reply) → IsBytes body → read_reply body ≡ Ok x → SpellsReply body x
unfolding read_reply
reply_spelled body x fits e =
    let is = read_encodes reply reply_laws body x fits e in
    record { fields = reply_is x is.fields; bytes = is.bytes ∙ reply_encoded x; limit = is.limit }

-- ---- one message a body

pub same_request : (body : List ℕ) (x y : Request) → SpellsRequest body x → SpellsRequest body y → x ≡ y
same_request body x y one other = ok_is x y (sym (request_read body x one) ∙ request_read body y other)

pub same_reply : (body : List ℕ) (x y : Reply) → SpellsReply body x → SpellsReply body y → x ≡ y
same_reply body x y one other = ok_is x y (sym (reply_read body x one) ∙ reply_read body y other)

-- a body whose tag is that of a question: it is below every reply's, and not that of a patience or
-- of a change
pub record IsAsked (body : List ℕ) : Type 0 where
  pub tag : ℕ
  pub rest : List ℕ
  pub parts : body ≡ 2 ∷ tag ∷ rest
  pub alone : eqb tag 5 ≡ false
  pub asks : eqb tag 6 ≡ false
  pub low : tag < 128

-- the tag is that of a request, or that of what a filter excludes
pub record IsRequested (body : List ℕ) : Type 0 where
  pub asked : IsAsked body
  pub kind : (asked.tag < 5) ⊎ (asked.tag ≡ 7)

pub excluded_asked : (excluded : List (List ℕ)) (tag : ℕ) (rest : List ℕ) → eqb tag 5 ≡ false → eqb tag 6 ≡ false → tag < 128
    → IsAsked (excluded_bytes excluded ++ (2 ∷ tag ∷ rest))
excluded_asked [] tag rest alone asks low = record { tag = tag; rest = rest; parts = refl; alone = alone; asks = asks; low = low }
excluded_asked (p ∷ ps) tag rest alone asks low =
    record { tag = 7; rest = filter_bytes (p ∷ ps) ++ (2 ∷ tag ∷ rest); parts = refl; alone = refl; asks = refl; low = omega arith }

excluded_requested : (excluded : List (List ℕ)) (tag : ℕ) (rest : List ℕ) → tag < 5 → IsRequested (excluded_bytes excluded ++ (2 ∷ tag ∷ rest))
excluded_requested [] tag rest low = record {
  asked = record { tag = tag; rest = rest; parts = refl; alone = ne_eqb _ _ (omega (arith, low)); asks = ne_eqb _ _ (omega (arith, low)); low = omega (arith, low) };
  kind = inl low;
}
excluded_requested (p ∷ ps) tag rest low = record {
  asked = record { tag = 7; rest = filter_bytes (p ∷ ps) ++ (2 ∷ tag ∷ rest); parts = refl; alone = refl; asks = refl; low = omega arith };
  kind = inr refl;
}

pub request_asked : (x : Request) → IsRequested (request_bytes x)
request_asked (Basis q f) = excluded_requested f.excluded 1 _ (omega arith)
request_asked (Poll q s f) = excluded_requested f.excluded 2 _ (omega arith)
request_asked (Fetch q p) = record {
  asked = record { tag = 3; rest = query_bytes q ++ text_bytes p; parts = refl; alone = refl; asks = refl; low = omega arith };
  kind = inl (omega arith);
}
request_asked (Below q p f) = excluded_requested f.excluded 4 _ (omega arith)

reply_tag : (x : Reply) → 128 < get_or (reply_bytes x) 1 0
reply_tag (BasisIs q s ps) = omega arith
reply_tag (ChangesAre q s ms ps) = omega arith
reply_tag (ContentIs q s p c) = omega arith
reply_tag (Refused q c) = omega arith
reply_tag (ListIs q s p ps) = omega arith

pub request_is_no_reply : (body : List ℕ) (x : Request) (y : Reply) → SpellsRequest body x → SpellsReply body y → ⊥
request_is_no_reply body x y one other =
    let asked = (request_asked x).asked in
    let same : asked.tag ≡ get_or (reply_bytes y) 1 0 = ap (λ (b : List ℕ). get_or b 1 0) (sym asked.parts ∙ sym one.bytes ∙ other.bytes) in
    omega (arith, same, asked.low, reply_tag y)

-- ---- what a call returned

pub is_spelled_request : (body : List ℕ) (r : Result Request DecodeFault) → IsBytes body → Gives (λ m. m) r (read_request body) → IfOk r (λ m. SpellsRequest body m)
is_spelled_request body (Ok m) fits given = request_spelled body m fits given
is_spelled_request body (Err e) fits given = tt

pub is_spelled_reply : (body : List ℕ) (r : Result Reply DecodeFault) → IsBytes body → Gives (λ m. m) r (read_reply body) → IfOk r (λ m. SpellsReply body m)
is_spelled_reply body (Ok m) fits given = reply_spelled body m fits given
is_spelled_reply body (Err e) fits given = tt
