-- Rounds, one more after some.
use Rattle.std.proofs.Common.{◌≡◌, ℕ, ◌+◌, ◌≤◌, ◌^◌, ◌<◌, inl, inr, Bool, true, false, ◌||◌, List, [], ◌∷◌, ◌++◌, append_assoc, length, length-append, Option, refl, sym, ap, subst, ◌∙◌, if◌then◌else◌, ◌-◌, arith}
use Rattle.std.specs.Prelude.{OnOk, Result, Ok, Err}
use Rattle.std.specs.Io.KnownBytes.{Appends}
use Rattle.std.proofs.Math.Bool.{or-false, or_assoc}
use Rattle.eden_ids.specs.FileMaps.{put_option}
use Rattle.eden_history.specs.declared.position.Position.{Position}
use Rattle.eden_messages.specs.declared.message.Query.{Query}
use Rattle.eden_messages.specs.declared.message.Request.TheVariants.{Basis, Poll}
use Rattle.eden_messages.specs.declared.message.Cause.TheVariants.{TooLarge}
use Rattle.eden_messages.specs.declared.message.Reply.{Reply}
use Rattle.eden_messages.specs.declared.message.Reply.TheVariants.{BasisIs, ChangesAre, ContentIs, Refused, ListIs}
use Rattle.eden_messages.specs.declared.outcome.Outcome.{Outcome}
use Rattle.eden_messages.specs.Mirrors.{MirrorState, Round, begun, delivered, delivered_in, distinct, emptied, gathers, has_number, is_idle, listed_files, next_round, outstanding_of, taken_if, without}
use Rattle.eden_messages.specs.Mirrors.Round.{Idle, Asked, Gathering}
use Rattle.eden_messages.specs.Spells.{paths_of}
use Rattle.eden_mirror.specs.Counting.{after}
use Rattle.eden_connect.specs.Reports.{report_text}
use Rattle.eden_connect.specs.Rounds.{AllEnd, Follows, HasEnded, Tells, TellsFront, any_counts, counts, followed}
use Rattle.eden_connect.specs.internal.Talks.{Hears, ReceivesAll}

pub after-append : (m : MirrorState) (replies more : List Reply) → after m (replies ++ more) ≡ after (after m replies) more
after-append m [] more = refl
after-append m (reply ∷ replies) more = after-append (delivered m reply).0 replies more

pub any_counts-snoc : (m : MirrorState) (replies : List Reply) (reply : Reply)
    → any_counts m (replies ++ reply ∷ []) ≡ (any_counts m replies || counts (delivered (after m replies) reply).1)
any_counts-snoc m [] reply = or-false (counts (delivered m reply).1)
any_counts-snoc m (first ∷ replies) reply =
    ap (λ b. counts (delivered m first).1 || b) (any_counts-snoc (delivered m first).0 replies reply)
    ∙ sym (or_assoc (counts (delivered m first).1) (any_counts (delivered m first).0 replies) (counts (delivered (after (delivered m first).0 replies) reply).1))

-- ---- replies that come over a connection

pub receives_append : (a b c : Option (List ℕ)) (replies more : List Reply) → ReceivesAll a b replies → ReceivesAll b c more → ReceivesAll a c (replies ++ more)
receives_append a b c [] more none next = subst (λ x. ReceivesAll x c more) none next
receives_append a b c (reply ∷ replies) more past next = (past.0, past.1, receives_append past.0 b c replies more past.2 next)

pub hears_more : (a b c : Option (List ℕ)) (m n o : MirrorState) → Hears a b m n → Hears b c n o → Hears a c m o
hears_more a b c m n o past next = record {
  replies = past.replies ++ next.replies;
  came = receives_append a b c past.replies next.replies past.came next.came;
  taken = next.taken ∙ ap (λ s. after s next.replies) past.taken ∙ sym (after-append m past.replies next.replies);
}

-- ---- the end of a round

-- a round that ends after these replies ends with them too
pub ended_more : (m : MirrorState) (past replies : List Reply) → HasEnded (after m past) replies → HasEnded m (past ++ replies)
ended_more m past replies (inl idle) = inl (subst (λ s. is_idle s.round ≡ true) (sym (after-append m past replies)) idle)
ended_more m past replies (inr given) = inr (record {
  past = past ++ given.past;
  last = given.last;
  parted = ap (λ l. past ++ l) given.parted ∙ sym (append_assoc past given.past given.last);
  each = given.each ∙ ap (λ s. length (outstanding_of s)) (sym (after-append m past given.past));
  none = ap (λ s. any_counts s given.last) (after-append m past given.past) ∙ given.none;
})

pub all_end_snoc : (m : MirrorState) (heard : List (List Reply)) (replies : List Reply)
    → AllEnd m heard → HasEnded (begun (followed m heard)) replies → AllEnd m (heard ++ replies ∷ [])
all_end_snoc m [] replies none last = (last, tt)
all_end_snoc m (first ∷ heard) replies past last = (past.0, all_end_snoc (after (begun m) first) heard replies past.1 last)

-- ---- a reply doesn't depend on the number of the last round

gathers_last : (m : MirrorState) (query : Query) (target : Position) (paths prefixes : List (List ℕ)) → (gathers m query target paths prefixes).0.last ≡ m.last
gathers_last m query target [] [] = refl
gathers_last m query target [] (prefix ∷ prefixes) = refl
gathers_last m query target (path ∷ paths) prefixes = refl

taken_last : (b : Bool) (m : MirrorState) (made : MirrorState × Outcome) → made.0.last ≡ m.last → (taken_if b m made).0.last ≡ m.last
taken_last true m made e = e
taken_last false m made e = refl

in_last : (m : MirrorState) (round : Round) (reply : Reply) → (delivered_in m round reply).0.last ≡ m.last
in_last m Idle (BasisIs query position paths) = refl
in_last m (Asked (Basis asked patterns)) (BasisIs query position paths) = taken_last _ m _ (gathers_last (emptied m) asked position (distinct paths) [])
in_last m (Asked (Poll asked since patterns)) (ChangesAre query target marked prefixes) =
    taken_last _ m _ (gathers_last m asked target (distinct (paths_of marked)) (distinct prefixes))
in_last m (Asked request) (Refused query TooLarge) = taken_last _ m _ refl
in_last m (Gathering asked target awaited prefixes) (ContentIs query position path content) =
    taken_last _ m _ (gathers_last (record m { files = put_option m.files path content }) asked target (without path awaited) prefixes)
in_last m (Gathering asked target awaited prefixes) (Refused query cause) = taken_last _ m _ refl
in_last m (Gathering asked target awaited prefixes) (ListIs query position prefix paths) =
    taken_last _ m _ (gathers_last (record m { files = listed_files m.files prefix paths }) asked target (distinct (awaited ++ paths)) (without prefix prefixes))
in_last m (Asked request) (Refused query cause) = taken_last _ m _ refl
in_last m round reply = refl

delivered_last : (m : MirrorState) (reply : Reply) → (delivered m reply).0.last ≡ m.last
unfolding delivered
delivered_last m reply = in_last m m.round reply

after_last : (m : MirrorState) (replies : List Reply) → (after m replies).last ≡ m.last
after_last m [] = refl
after_last m (reply ∷ replies) = after_last (delivered m reply).0 replies ∙ delivered_last m reply

begun_last : (m : MirrorState) → (begun m).last ≤ m.last + 1
unfolding begun
begun_last m = by (has_number m)
  where
    by : (b : Bool) → (if b then next_round m else m).last ≤ m.last + 1
    by true = omega arith
    by false = omega arith

-- ---- one more round

pub followed-snoc : (m : MirrorState) (heard : List (List Reply)) (replies : List Reply)
    → followed m (heard ++ replies ∷ []) ≡ after (begun (followed m heard)) replies
followed-snoc m [] replies = refl
followed-snoc m (first ∷ heard) replies = followed-snoc (after (begun m) first) heard replies

-- it takes one number
followed_last : (m : MirrorState) (heard : List (List Reply)) → (followed m heard).last ≤ m.last + length heard
followed_last m [] = omega arith
followed_last m (replies ∷ heard) =
    omega (arith, followed_last (after (begun m) replies) heard, after_last (begun m) replies, begun_last m)

abbrev pub follows_none : (m : MirrorState) → Follows m 0 m
follows_none m = record { heard = []; count = refl; ended = tt; taken = refl }

abbrev pub follows_more : (m n o : MirrorState) (rounds : ℕ) (past : Follows m rounds n) (replies : List Reply)
    → o ≡ after (begun n) replies → HasEnded (begun n) replies → Follows m (rounds + 1) o
follows_more m n o rounds past replies taken ended = record {
  heard = past.heard ++ replies ∷ [];
  count = length-append past.heard (replies ∷ []) ∙ ap (λ k. k + 1) past.count;
  ended = all_end_snoc m past.heard replies past.ended (subst (λ s. HasEnded (begun s) replies) past.taken ended);
  taken = taken ∙ ap (λ s. after (begun s) replies) past.taken ∙ sym (followed-snoc m past.heard replies);
}

pub follows_has_number : (m n : MirrorState) (rounds : ℕ) → Follows m rounds n → m.last + rounds < 2 ^ 64 - 1 → has_number n ≡ true
follows_has_number m n rounds past below =
    let most : n.last ≤ m.last + rounds = omega (arith, ap (λ s. s.last) past.taken, followed_last m past.heard, past.count) in
    grind (arith, most, below)

-- ---- what is printed in the end

pub tells_if : {E : Type 0} (IsMirror : MirrorState → Type 0) (m : MirrorState) (IsSuch : Option Position → Type 0) (old new : Option (List ℕ))
    (r : Result (Unit {0}) E) → IsMirror m → OnOk r (IsSuch m.place × Appends old new (report_text m)) → OnOk r (Tells IsMirror IsSuch old new)
tells_if IsMirror m IsSuch old new (Ok x) past told = record { mirror = m; followed = past; place = told.0; text = told.1 }
tells_if IsMirror m IsSuch old new (Err e) past told = tt

-- what is printed of one kind of mirrors is printed of a wider kind
pub tells_wider : (IsMirror IsWider : MirrorState → Type 0) (IsSuch : Option Position → Type 0) (old new : Option (List ℕ))
    → ((m : MirrorState) → IsMirror m → IsWider m) → Tells IsMirror IsSuch old new → Tells IsWider IsSuch old new
tells_wider IsMirror IsWider IsSuch old new wider told =
    record { mirror = told.mirror; followed = wider told.mirror told.followed; place = told.place; text = told.text }

pub tells_wider_if : {E : Type 0} (IsMirror IsWider : MirrorState → Type 0) (IsSuch : Option Position → Type 0) (old new : Option (List ℕ))
    (r : Result (Unit {0}) E) → ((m : MirrorState) → IsMirror m → IsWider m) → OnOk r (Tells IsMirror IsSuch old new) → OnOk r (Tells IsWider IsSuch old new)
tells_wider_if IsMirror IsWider IsSuch old new (Ok x) wider told = tells_wider IsMirror IsWider IsSuch old new wider told
tells_wider_if IsMirror IsWider IsSuch old new (Err e) wider told = tt

pub tells_front_wider : (IsMirror IsWider : MirrorState → Type 0) (old new : Option (List ℕ))
    → ((m : MirrorState) → IsMirror m → IsWider m) → TellsFront IsMirror old new → TellsFront IsWider old new
tells_front_wider IsMirror IsWider old new wider told =
    record { mirror = told.mirror; followed = wider told.mirror told.followed; text = told.text }
