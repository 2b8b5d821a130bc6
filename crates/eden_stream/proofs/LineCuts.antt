-- How the first line that is held is taken from a stream, and what its lines are.
use Rattle.std.proofs.Common.{Bool, true, false, cond, ◌-◌, ◌≡◌, ◌≢◌, ℕ, ◌<◌, ◌⊎◌, inl, inr, List, [], ◌∷◌, ◌++◌, length, get_or, take, drop, Option, refl, sym, ap, ◌∙◌, subst, arith, append_assoc, append-nil, length-append}
use Rattle.std.specs.Io.KnownBytes.{IsAtEnd}
use Rattle.std.specs.Str.Lines.{lines, strip_carriage_return}
use Rattle.std.proofs.Math.Dec.{eqb}
use Rattle.std.proofs.lemmas.Bool.{cases_lt, eqb-true}
use Rattle.std.proofs.lemmas.List.{get_or-take}
use Rattle.std.proofs.lemmas.List.Elements.{All-append, All-cons, All-tail, All-take}
use Rattle.eden_stream.specs.LineGrammar.{CutsLines, IsBehind, IsKept}
use Rattle.eden_stream.specs.Lines.{AreBeforeLong, AreFirstLines, HasNoBreak, IsComment, IsSkipped}
use Rattle.eden_stream.specs.internal.LineSteps.{BeginsWith, IsLongUnended, Shortens}
use Rattle.eden_stream.proofs.Cuts.{lines-append, lines-last, lines-line, whole-line}

strip_by : (line : List ℕ) (b : Bool) → eqb (get_or line (length line - 1) 0) 13 ≡ b → IsComment line → IsComment (cond b (take (length line - 1) line) line)
strip_by line false e h = h
strip_by line true e h =
    elim (cases_lt 0 (length line - 1)) [
      | inl l ↦ get_or-take (length line - 1) line 0 0 l ∙ h
      | inr l ↦
          let at : length line - 1 ≡ 0 = omega arith in
          let last : get_or line 0 0 ≡ 13 = ap (λ n. get_or line n 0) (sym at) ∙ eqb-true _ 13 e in
          absurd (omega (arith, last, h))
    ]

-- a comment is one without its carriage return too
strip-comment : (line : List ℕ) → IsComment line → IsComment (strip_carriage_return line)
strip-comment line h = strip_by line (eqb (get_or line (length line - 1) 0) 13) refl h

-- The line of the stream is the one that is held, or both are comments.
abbrev pub IsSame : List ℕ → List ℕ → Type 0
IsSame item line = (item ≡ line) ⊎ (IsComment item × IsComment line)

-- a whole line of the rest was taken
takes_whole : (stream : List ℕ) (items : List (List ℕ)) (held real left : List ℕ) → (behind : IsBehind stream items held) → behind.rest ≡ real ++ 10 ∷ left → HasNoBreak real
    → IsBehind stream (items ++ strip_carriage_return real ∷ []) left
takes_whole stream items held real left behind cut unended =
    let line = real ++ 10 ∷ [] in
    record {
      whole = behind.whole ++ line;
      rest = left;
      split = behind.split ∙ ap (λ bytes. behind.whole ++ bytes) (cut ∙ sym (append_assoc real (10 ∷ []) left)) ∙ sym (append_assoc behind.whole line left);
      ends_lines = whole-line behind.whole real;
      items_are = ap (λ done. done ++ strip_carriage_return real ∷ []) behind.items_are
          ∙ sym (lines-append behind.whole line behind.ends_lines ∙ ap (λ last. lines behind.whole ++ last) (lines-line real [] unended));
      kept = inl refl;
    }

-- The line of the rest that ends where the first line that is held ends.
pub record Real (rest raw left : List ℕ) : Type 0 where
  pub real : List ℕ
  pub cut : rest ≡ real ++ 10 ∷ left
  pub unended : HasNoBreak real
  pub same : IsSame (strip_carriage_return real) (strip_carriage_return raw)

real_of_comment : (rest held raw left gone back : List ℕ)
    → HasNoBreak gone → rest ≡ 35 ∷ (gone ++ back) → held ≡ 35 ∷ back → held ≡ raw ++ 10 ∷ left → HasNoBreak raw → Real rest raw left
real_of_comment rest held [] left gone back clear e h cut unended = absurd (omega (arith, ap (λ bytes. get_or bytes 0 0) (sym h ∙ cut)))
real_of_comment rest held (b ∷ front) left gone back clear e h cut unended =
    let begins : 35 ≡ b = ap (λ bytes. get_or bytes 0 0) (sym h ∙ cut) in
    let behind : back ≡ front ++ 10 ∷ left = ap (drop 1) (sym h ∙ cut) in
    let real = 35 ∷ (gone ++ front) in
    record {
      real = real;
      cut = e ∙ ap (λ bytes. 35 ∷ (gone ++ bytes)) behind ∙ ap (λ bytes. 35 ∷ bytes) (sym (append_assoc gone front (10 ∷ left)));
      unended = All-cons (λ byte. byte ≢ 10) 35 (gone ++ front) (λ same. omega (arith, same))
          (All-append (λ byte. byte ≢ 10) gone front clear (All-tail (λ byte. byte ≢ 10) b front unended));
      same = inr (strip-comment real refl, strip-comment (b ∷ front) (sym begins));
    }

real_of : (rest held raw left : List ℕ) → IsKept rest held → held ≡ raw ++ 10 ∷ left → HasNoBreak raw → Real rest raw left
real_of rest held raw left (inl e) cut unended = record { real = raw; cut = e ∙ cut; unended = unended; same = inl refl }
real_of rest held raw left (inr k) cut unended = real_of_comment rest held raw left k.0 k.1 k.2 k.3 k.4 cut unended

-- where no line ends in what is held, none ends in the rest
pub rest_unended : (rest held : List ℕ) → IsKept rest held → HasNoBreak held → HasNoBreak rest
rest_unended rest held (inl e) unended = subst HasNoBreak (sym e) unended
rest_unended rest held (inr k) unended =
    let clear = All-tail (λ byte. byte ≢ 10) 35 k.1 (subst HasNoBreak k.4 unended) in
    subst HasNoBreak (sym k.3) (All-cons (λ byte. byte ≢ 10) 35 (k.0 ++ k.1) (λ same. omega (arith, same)) (All-append (λ byte. byte ≢ 10) k.0 k.1 k.2 clear))

rest_same : (rest held : List ℕ) → IsKept rest held → IsSame rest held
rest_same rest held (inl e) = inl e
rest_same rest held (inr k) = inr (ap (λ bytes. get_or bytes 0 0) k.3, ap (λ bytes. get_or bytes 0 0) k.4)

rest_some : (rest held : List ℕ) → IsKept rest held → 0 < length held → 0 < length rest
rest_some rest held (inl e) some = omega (arith, some, ap length e)
rest_some rest held (inr k) some = omega (arith, some, ap length k.3)

pub rest_none : (rest held : List ℕ) → IsKept rest held → held ≡ [] → rest ≡ []
rest_none rest held (inl e) none = e ∙ none
rest_none rest held (inr k) none = absurd (omega (arith, ap length (sym k.4 ∙ none)))

-- the lines of a stream, by those that were taken
behind_lines : (stream : List ℕ) (items : List (List ℕ)) (held : List ℕ) → (behind : IsBehind stream items held) → lines stream ≡ items ++ lines behind.rest
behind_lines stream items held behind =
    ap lines behind.split ∙ lines-append behind.whole behind.rest behind.ends_lines ∙ ap (λ done. done ++ lines behind.rest) (sym behind.items_are)

-- the lines that were taken are the first of the stream
pub first_lines : (r1 : Option (List ℕ)) (ended : Bool) (stream : List ℕ) (items : List (List ℕ)) (held : List ℕ) → (ended ≡ true → IsAtEnd r1) → CutsLines ended stream items held
    → AreFirstLines r1 stream items
first_lines r1 ended stream items held at_end (inl behind) = record {
  front = behind.whole;
  rest = behind.rest;
  split = behind.split;
  first_are = behind.items_are;
  ended = inl behind.ends_lines;
}
first_lines r1 ended stream items held at_end (inr done) = record {
  front = stream;
  rest = [];
  split = sym (append-nil stream);
  first_are = done.2;
  ended = inr (refl, at_end done.0);
}

-- what is held is no comment, so it is the rest
kept_whole : (rest held : List ℕ) → IsKept rest held → ¬ IsComment held → rest ≡ held
kept_whole rest held (inl e) plain = e
kept_whole rest held (inr k) plain = absurd (plain (ap (λ bytes. get_or bytes 0 0) k.4))

pub before_long : (ended : Bool) (stream : List ℕ) (items : List (List ℕ)) (held : List ℕ) → CutsLines ended stream items held → IsLongUnended held → AreBeforeLong stream items held
before_long ended stream items held (inl behind) long = record {
  front = behind.whole;
  split = behind.split ∙ ap (λ bytes. behind.whole ++ bytes) (kept_whole behind.rest held behind.kept long.1);
  first_are = behind.items_are;
  ended = behind.ends_lines;
  unended = long.0;
  plain = long.1;
  long = long.2;
}
before_long ended stream items held (inr done) long = absurd (omega (arith, ap length done.1, long.2))

-- where nothing is held they are all of them
pub all_lines : (ended : Bool) (stream : List ℕ) (items : List (List ℕ)) (held : List ℕ) → held ≡ [] → CutsLines ended stream items held → lines stream ≡ items
all_lines ended stream items held none (inl behind) =
    behind_lines stream items held behind ∙ ap (λ rest. items ++ lines rest) (rest_none behind.rest held behind.kept none) ∙ append-nil items
all_lines ended stream items held none (inr done) = sym done.2

nothing_begins : (ended : Bool) (held line left : List ℕ) → held ≡ [] → BeginsWith ended held line left → ⊥
nothing_begins ended held line left none (inl b) = omega (arith, ap length (sym none ∙ b.1), length-append b.0 (10 ∷ left))
nothing_begins ended held line left none (inr b) = omega (arith, ap length none, b.2)

-- the first line that is held is taken
pub takes_first : (ended : Bool) (stream : List ℕ) (items : List (List ℕ)) (held line left : List ℕ) → CutsLines ended stream items held → BeginsWith ended held line left
    → (item : List ℕ) × IsSame item line × CutsLines ended stream (items ++ item ∷ []) left
takes_first ended stream items held line left (inl behind) (inl b) =
    let real = real_of behind.rest held b.0 left behind.kept b.1 b.2 in
    let same = subst (IsSame (strip_carriage_return real.real)) (sym b.3) real.same in
    (strip_carriage_return real.real, same, inl (takes_whole stream items held real.real left behind real.cut real.unended))
takes_first ended stream items held line left (inl behind) (inr b) =
    let unended = rest_unended behind.rest held behind.kept b.1 in
    let some = rest_some behind.rest held behind.kept b.2 in
    let all = behind_lines stream items held behind ∙ ap (λ last. items ++ last) (lines-last behind.rest unended some) in
    (behind.rest, subst (IsSame behind.rest) (sym b.3) (rest_same behind.rest held behind.kept), inr (b.0, b.4, sym all))
takes_first ended stream items held line left (inr done) first = absurd (nothing_begins ended held line left done.1 first)

-- a line that is no comment is the line of the stream itself
pub same_line : (item line : List ℕ) → IsSame item line → ¬ IsComment line → item ≡ line
same_line item line (inl e) plain = e
same_line item line (inr c) plain = absurd (plain c.1)

pub same_skipped : (item line : List ℕ) → IsSame item line → IsSkipped line → IsSkipped item
same_skipped item line (inl e) skipped = subst IsSkipped (sym e) skipped
same_skipped item line (inr c) skipped = inr c.0

-- of a comment that has not ended its first byte is kept
kept_first : (rest held left : List ℕ) → rest ≡ held → HasNoBreak held → IsComment held → left ≡ take 1 held → IsKept rest left
kept_first rest [] left e unended c t = absurd (omega (arith, c))
kept_first rest (b ∷ back) left e unended c t =
    inr (back, [], All-tail (λ byte. byte ≢ 10) b back unended, e ∙ ap (λ byte. byte ∷ back) c ∙ ap (λ bytes. 35 ∷ bytes) (sym (append-nil back)), t ∙ ap (λ byte. byte ∷ []) c)

shortened : (rest held left : List ℕ) → IsKept rest held → HasNoBreak held → Shortens held left → IsKept rest left
shortened rest held left kept unended (inl e) = subst (IsKept rest) (sym e) kept
shortened rest held left (inl e) unended (inr s) = kept_first rest held left e unended s.0 s.1
shortened rest held left (inr k) unended (inr s) =
    let clear = All-tail (λ byte. byte ≢ 10) 35 k.1 (subst HasNoBreak k.4 unended) in
    inr (
      k.0 ++ k.1,
      [],
      All-append (λ byte. byte ≢ 10) k.0 k.1 k.2 clear,
      k.3 ∙ ap (λ bytes. 35 ∷ bytes) (sym (append-nil (k.0 ++ k.1))),
      s.1 ∙ ap (take 1) k.4,
    )

short_none : (held left : List ℕ) → Shortens held left → held ≡ [] → left ≡ []
short_none held left (inl e) none = e ∙ none
short_none held left (inr s) none = s.1 ∙ ap (take 1) none

pub cut_shortened : (ended : Bool) (stream : List ℕ) (items : List (List ℕ)) (held left : List ℕ) → HasNoBreak held → Shortens held left
    → CutsLines ended stream items held → CutsLines ended stream items left
cut_shortened ended stream items held left unended short (inl behind) =
    inl (record {
      whole = behind.whole;
      rest = behind.rest;
      split = behind.split;
      ends_lines = behind.ends_lines;
      items_are = behind.items_are;
      kept = shortened behind.rest held left behind.kept unended short;
    })
cut_shortened ended stream items held left unended short (inr done) = inr (done.0, short_none held left short done.1, done.2)

pub still_unended : (held left : List ℕ) → HasNoBreak held → Shortens held left → HasNoBreak left
still_unended held left h (inl e) = subst HasNoBreak (sym e) h
still_unended held left h (inr s) = subst HasNoBreak (sym s.1) (All-take (λ byte. byte ≢ 10) 1 held h)
