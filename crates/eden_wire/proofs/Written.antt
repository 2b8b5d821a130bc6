-- What is written part by part.
use Rattle.std.proofs.Common.{◌≡◌, ℕ, ◌≤◌, cond, nat_lt, List, ◌++◌, length, Option, Some, None, Result, Ok, Err, true, false, refl, sym, ap, ◌∙◌, append_assoc, arith}
use Rattle.std.specs.Prelude.{OnOk}
use Rattle.std.proofs.lemmas.Bool.{ltb-false, le-ltb}
use Rattle.std.specs.Int.{w32, to_be_bytes}
use Rattle.eden_messages.specs.declared.message.Cause.TheVariants.{TooLarge}
use Rattle.eden_messages.specs.declared.message.Query.{Query}
use Rattle.eden_messages.specs.declared.message.Reply.TheVariants.{Refused}
use Rattle.eden_messages.specs.Spells.{if_small, reply_bytes}
use Rattle.eden_stream.specs.Frames.{body_limit, frame}
use Rattle.eden_wire.specs.Wanted.{or_refused}

-- one part after another
pub behind : (old first second mid new : List ℕ) → mid ≡ old ++ first → new ≡ mid ++ second → new ≡ old ++ (first ++ second)
behind old first second mid new one two = two ∙ ap (λ (text : List ℕ). text ++ second) one ∙ append_assoc old first second

-- the same of a call that may have failed
pub after : {X E : Type 0} (result : Result X E) (old first second mid new : List ℕ) → mid ≡ old ++ first → OnOk result (new ≡ mid ++ second)
    → OnOk result (new ≡ old ++ (first ++ second))
after (Ok x) old first second mid new one two = behind old first second mid new one two
after (Err e) old first second mid new one two = two

-- a length and a body of that length
pub framed : {X E : Type 0} (result : Result X E) (body : List ℕ) (len : ℕ) (old mid new : List ℕ) → len ≡ length body → mid ≡ old ++ to_be_bytes w32 len
    → OnOk result (new ≡ mid ++ body) → OnOk result (new ≡ old ++ frame body)
unfolding frame
framed (Ok x) body len old mid new is head told =
    let front : mid ≡ old ++ to_be_bytes w32 (length body) = head ∙ ap (λ (n : ℕ). old ++ to_be_bytes w32 n) is in
    told ∙ ap (λ (m : List ℕ). m ++ body) front ∙ append_assoc old (to_be_bytes w32 (length body)) body
framed (Err e) body len old mid new is head told = told

-- ---- bodies that may be too long

-- what the length says of the body
pub small_is : (body : List ℕ) (len : ℕ) → Some len ≡ if_small (length body) → (len ≡ length body) × (length body ≤ body_limit)
small_is body len e = by (nat_lt body_limit (length body)) refl e
  where
    by : (b : _) → nat_lt body_limit (length body) ≡ b → Some len ≡ cond b None (Some (length body)) → (len ≡ length body) × (length body ≤ body_limit)
    by true is e = absurd cc
    by false is e = (cc, ltb-false body_limit (length body) is)

pub kept_body : (query : Query) (body : List ℕ) → length body ≤ body_limit → or_refused query body ≡ body
kept_body query body fits = rw (le-ltb body_limit (length body) fits) refl

pub refused_body : (query : Query) (body : List ℕ) → None ≡ if_small (length body) → reply_bytes (Refused query TooLarge) ≡ or_refused query body
refused_body query body e = by (nat_lt body_limit (length body)) e
  where
    by : (b : _) → None ≡ cond b None (Some (length body)) → reply_bytes (Refused query TooLarge) ≡ cond b (reply_bytes (Refused query TooLarge)) body
    by true e = refl
    by false e = absurd cc
