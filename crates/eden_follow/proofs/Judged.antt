-- A note is judged, and all notes.
use Rattle.std.proofs.Common.{◌≡◌, ◌≢◌, ◌<◌, ◌≤◌, ◌⊎◌, inl, inr, ℕ, ◌+◌, true, false, nat_le, List, [], ◌∷◌, ◌++◌, length, map, take, drop, get_or, Option, Some, None, refl, sym, ap, subst, ◌∙◌, append-nil, arith}
use Rattle.std.specs.Prelude.{All, Contains, flat_map}
use Rattle.std.proofs.lemmas.Bool.Decides.{leb_tells}
use Rattle.std.specs.List.Sorted.{IsPermutation}
use Rattle.std.proofs.lemmas.List.Sorted.{Contains-permutation, IsPermutation-map, IsPermutation-sym}
use Rattle.std.proofs.lemmas.List.Elements.{All-contains, All-weaker, Contains-append_cases, Contains-append_left, Contains-append_right, Contains-push, Contains-push_cases}
use Rattle.eden_logs.specs.declared.call.CallAnswer.{CallAnswer}
use Rattle.eden_logs.specs.declared.call.CallAnswer.TheVariants as answer
use Rattle.eden_logs.specs.declared.call.Call.{Call}
use Rattle.eden_logs.specs.declared.call.Call.TheVariants as call
use Rattle.eden_messages.specs.declared.message.Reply.{Reply}
use Rattle.eden_messages.specs.declared.message.Request.{Request}
use Rattle.eden_messages.specs.Mirrors.{MirrorState}
use Rattle.eden_logs.specs.declared.log.CallLog.{CallLog}
use Rattle.eden_logs.specs.declared.log.LogEntry.{LogEntry}
use Rattle.eden_logs.specs.Logs.{entries_in}
use Rattle.eden_logs.proofs.Covered.{cons_cases, here, left_at, nowhere, there}
use Rattle.eden_headline.specs.declared.note.Note.{Note}
use Rattle.eden_headline.specs.declared.note.Note.TheVariants.{Began, Sent, Came}
use Rattle.eden_headline.specs.Notes.{came_in, sent_in}
use Rattle.eden_headline.specs.Vouched.{AllSent, AreVouched, IsAnswered, IsAsked, IsTimely, IsVouched, IsVouchedNote, is_own}
use Rattle.eden_headline.proofs.Vouching.{came_more, sent_more}
use Rattle.eden_follow.specs.declared.fault.VouchFault.{VouchFault}
use Rattle.eden_follow.specs.declared.fault.VouchFault.TheVariants.{StrangeReply, BeforeCause, StrangeRequest, NoMemory}
use Rattle.eden_follow.specs.declared.rows.RequestRow.{RequestRow}
use Rattle.eden_follow.specs.declared.rows.ReplyRow.{ReplyRow}
use Rattle.eden_follow.specs.Causes.{FirstCause, HasStrangeRequest, IsAgainst, IsCause, IsLate}
use Rattle.eden_follow.specs.internal.Judged.{HasStrange, IsAt, Lists, Walks}
use Rattle.eden_follow.specs.internal.Rows.{HasLate, IsAbove, IsHighest, IsMarked, IsTimelyRow, IsUnsent, asked, asked_by, asked_in, told, told_by, told_in}
use Rattle.eden_follow.proofs.Marked.{from_mapped, mapped}

-- ---- the highest ticket

pub none_highest : IsHighest [] None
none_highest = record { above = λ ticket came is c. absurd (nowhere came c); below = λ ticket never. absurd (never tt) }

pub raised : (tickets : List ℕ) (highest : Option ℕ) (ticket : ℕ) → IsAbove highest ticket → IsHighest tickets highest → IsHighest (tickets ++ ticket ∷ []) (Some ticket)
raised tickets highest ticket up is =
    record {
      above = λ t came h c. by t came h (Contains-push_cases tickets ticket came c);
      below = λ t never. (ticket, (Contains-push tickets ticket, low t never (leb_tells t ticket)));
    }
  where
    by : (t came : ℕ) → ticket < t → Contains tickets came ⊎ (ticket ≡ came) → came < t
    by t came h (inl old) = let e = is.above ticket came up old in omega arith
    by t came h (inr e) = omega arith

    low : (t : ℕ) → (ticket < t → ⊥) → ((nat_le t ticket ≡ true) × (t ≤ ticket)) ⊎ ((nat_le t ticket ≡ false) × (ticket < t)) → t < ticket + 1
    low t never (inl p) = let h = p.1 in omega arith
    low t never (inr p) = absurd (never p.1)

pub kept : (tickets : List ℕ) (highest : Option ℕ) (ticket : ℕ) → (IsAbove highest ticket → ⊥) → IsHighest tickets highest → IsHighest (tickets ++ ticket ∷ []) highest
kept tickets None ticket never is = absurd (never tt)
kept tickets (Some high) ticket never is =
    record {
      above = λ t came h c. by t came h (Contains-push_cases tickets ticket came c);
      below = λ t low. let found = is.below t low in (found.0, (Contains-append_left tickets (ticket ∷ []) found.0 found.1.0, found.1.1));
    }
  where
    within : ((nat_le ticket high ≡ true) × (ticket ≤ high)) ⊎ ((nat_le ticket high ≡ false) × (high < ticket)) → ticket ≤ high
    within (inl p) = p.1
    within (inr p) = absurd (never p.1)

    by : (t came : ℕ) → high < t → Contains tickets came ⊎ (ticket ≡ came) → came < t
    by t came h (inl old) = is.above t came h old
    by t came h (inr e) = let w = within (leb_tells ticket high) in omega arith

-- ---- one note more

pub at_first : (rows : List RequestRow) → All IsUnsent rows → IsAt [] rows None
at_first rows unsent =
    record {
      marked = All-weaker IsUnsent (IsMarked []) (λ row no. record { there = λ e. absurd (cc (no, e)); marked = λ c. absurd (nowhere row.request.now c) }) rows unsent;
      is_highest = none_highest;
    }

pub at_began : (earlier : List Note) (rows : List RequestRow) (highest : Option ℕ) → IsAt earlier rows highest → IsAt (earlier ++ Began ∷ []) rows highest
at_began earlier rows highest is =
    record {
      marked = subst (λ (sent : List Request). All (IsMarked sent) rows) (sym (sent_more earlier Began ∙ append-nil (sent_in earlier))) is.marked;
      is_highest = subst (λ (came : List ℕ). IsHighest came highest) (sym (came_more earlier Began ∙ append-nil (came_in earlier))) is.is_highest;
    }

pub at_sent : (earlier : List Note) (before rows : List RequestRow) (highest : Option ℕ) (requests : List Request) → IsAt earlier before highest
    → All (IsMarked (sent_in earlier ++ requests)) rows → IsAt (earlier ++ Sent requests ∷ []) rows highest
at_sent earlier before rows highest requests is marked =
    record {
      marked = subst (λ (sent : List Request). All (IsMarked sent) rows) (sym (sent_more earlier (Sent requests) ∙ ap (λ rs. sent_in earlier ++ rs) (append-nil requests))) marked;
      is_highest = subst (λ (came : List ℕ). IsHighest came highest) (sym (came_more earlier (Sent requests) ∙ append-nil (came_in earlier))) is.is_highest;
    }

pub at_came : (earlier : List Note) (rows : List RequestRow) (highest higher : Option ℕ) (ticket : ℕ) (reply : Reply) → IsAt earlier rows highest
    → IsHighest (came_in earlier ++ ticket ∷ []) higher → IsAt (earlier ++ Came ticket reply ∷ []) rows higher
at_came earlier rows highest higher ticket reply is next =
    record {
      marked = subst (λ (sent : List Request). All (IsMarked sent) rows) (sym (sent_more earlier (Came ticket reply) ∙ append-nil (sent_in earlier))) is.marked;
      is_highest = subst (λ (came : List ℕ). IsHighest came higher) (sym (came_more earlier (Came ticket reply))) next;
    }

-- ---- what is found at a note

pub timely : (entries : List LogEntry) (replies : List (ℕ × Reply)) (rows : List (ℕ × Request)) (earlier : List Note) (highest : Option ℕ) (requests : List Request)
    → Lists entries replies rows → IsHighest (came_in earlier) highest → All (IsTimelyRow rows (sent_in earlier) highest) requests
    → (request : Request) → Contains requests request → IsTimely entries earlier request
timely entries replies rows earlier highest requests lists high all request c =
    elim (All-contains (IsTimelyRow rows (sent_in earlier) highest) requests request all c) [
      | inl sent ↦ inl sent
      | inr above ↦ inr (λ ticket is came k. high.above ticket came (above ticket (lists.asks ticket request is)) k)
    ]

pub late : (entries : List LogEntry) (replies : List (ℕ × Reply)) (rows : List (ℕ × Request)) (earlier : List Note) (highest : Option ℕ) (requests : List Request)
    → Lists entries replies rows → IsHighest (came_in earlier) highest → HasLate rows (sent_in earlier) highest requests
    → (request : Request) × (Contains requests request × IsLate entries earlier request)
late entries replies rows earlier highest requests lists high has =
    let row = has.is_late in
    let found = high.below row.ticket row.late in
    let low = found.1.1 in (
      has.request,
      (
        has.there,
        record {
          first = row.first;
          ticket = row.ticket;
          asked = lists.asked row.ticket has.request row.there;
          came = found.0;
          before = found.1.0;
          late = omega arith;
        },
      ),
    )

pub sent_vouched : (entries : List LogEntry) (replies : List (ℕ × Reply)) (rows : List (ℕ × Request)) (earlier : List Note) (highest : Option ℕ) (requests : List Request) (note : Note)
    → note ≡ Sent requests → Lists entries replies rows → IsHighest (came_in earlier) highest → All (IsTimelyRow rows (sent_in earlier) highest) requests
    → IsVouchedNote entries earlier note
sent_vouched entries replies rows earlier highest requests note is lists high all =
    subst (IsVouchedNote entries earlier) (sym is) (λ request c. timely entries replies rows earlier highest requests lists high all request c)

pub sent_cause : (entries : List LogEntry) (replies : List (ℕ × Reply)) (rows : List (ℕ × Request)) (earlier : List Note) (highest : Option ℕ) (requests : List Request) (note : Note) (f : VouchFault)
    → note ≡ Sent requests → f ≡ BeforeCause → Lists entries replies rows → IsHighest (came_in earlier) highest → HasLate rows (sent_in earlier) highest requests
    → IsCause entries earlier note f
sent_cause entries replies rows earlier highest requests note f is fault lists high has =
    subst (λ (n : Note). IsCause entries earlier n f) (sym is)
    (subst (IsCause entries earlier (Sent requests)) (sym fault) (late entries replies rows earlier highest requests lists high has))

-- ---- the notes in their order

pub walk_stop : (entries : List LogEntry) (whole : List Note) (i : ℕ) (note : Note) (f : VouchFault) → i < length whole → note ≡ get_or whole i note
    → Walks entries whole (take i whole) (drop i whole) → IsCause entries (take i whole) note f → FirstCause entries [] whole f
walk_stop entries whole i note f h same walks is =
    (subst (λ (left : List Note). Walks entries whole (take i whole) left) (left_at whole i note h same) walks).cause f (inl is)

-- ---- the rows of entries

told_one : (ticket : ℕ) (is : CallAnswer) (t : ℕ) (reply : Reply) → Contains (told_by ticket is) (t, reply) → (ticket ≡ t) × (is ≡ answer.Replied reply)
told_one ticket (answer.Replied other) t reply c =
    elim (cons_cases (ticket, other) [] (t, reply) c) [
      | inl e ↦ (ap (λ p. p.0) e, ap (λ p. answer.Replied p.1) e)
      | inr k ↦ absurd (nowhere (t, reply) k)
    ]
told_one ticket (answer.At position) t reply c = absurd (nowhere (t, reply) c)
told_one ticket (answer.Checked position conflicts) t reply c = absurd (nowhere (t, reply) c)
told_one ticket (answer.Refused fault) t reply c = absurd (nowhere (t, reply) c)
told_one ticket answer.Unanswered t reply c = absurd (nowhere (t, reply) c)

asked_one : (ticket : ℕ) (is : Call) (t : ℕ) (request : Request) → Contains (asked_by ticket is) (t, request) → (ticket ≡ t) × (is ≡ call.Ask request)
asked_one ticket (call.Ask other) t request c =
    elim (cons_cases (ticket, other) [] (t, request) c) [
      | inl e ↦ (ap (λ p. p.0) e, ap (λ p. call.Ask p.1) e)
      | inr k ↦ absurd (nowhere (t, request) k)
    ]
asked_one ticket (call.Change change) t request c = absurd (nowhere (t, request) c)

-- what an element gives is among what all give
gathered : {X A : Type 0} (f : X → List A) (xs : List X) (x : X) (a : A) → Contains xs x → Contains (f x) a → Contains (flat_map f xs) a
gathered f [] x a c k = absurd (nowhere x c)
gathered f (y ∷ ys) x a c k =
    elim (cons_cases y ys x c) [
      | inl e ↦ Contains-append_left (f y) (flat_map f ys) a (subst (λ z. Contains (f z) a) (sym e) k)
      | inr later ↦ Contains-append_right (f y) (flat_map f ys) a (gathered f ys x a later k)
    ]

giver : {X A : Type 0} (f : X → List A) (xs : List X) (a : A) → Contains (flat_map f xs) a → (x : X) × (Contains xs x × Contains (f x) a)
giver f [] a c = absurd (nowhere a c)
giver f (y ∷ ys) a c =
    elim (Contains-append_cases (f y) (flat_map f ys) a c) [
      | inl k ↦ (y, (here y ys, k))
      | inr k ↦ let later = giver f ys a k in (later.0, (there y ys later.0 later.1.0, later.1.1))
    ]

is_told : (entries : List LogEntry) (ticket : ℕ) (reply : Reply) → Contains (told_in entries) (ticket, reply) → IsAnswered entries ticket reply
is_told entries ticket reply c =
    let found = giver (λ (entry : LogEntry). told_by entry.ticket entry.answer) entries (ticket, reply) c in
    let is = told_one found.0.ticket found.0.answer ticket reply found.1.1 in
    record { entry = found.0; there = found.1.0; under = is.0; told = is.1 }

is_asked : (entries : List LogEntry) (ticket : ℕ) (request : Request) → Contains (asked_in entries) (ticket, request) → IsAsked entries ticket request
is_asked entries ticket request c =
    let found = giver (λ (entry : LogEntry). asked_by entry.ticket entry.call) entries (ticket, request) c in
    let is = asked_one found.0.ticket found.0.call ticket request found.1.1 in
    record { entry = found.0; there = found.1.0; under = is.0; asks = is.1 }

pub lists_all : (entries : List LogEntry) (replies : List (ℕ × Reply)) (requests : List (ℕ × Request)) → replies ≡ told_in entries → requests ≡ asked_in entries
    → Lists entries replies requests
lists_all entries replies requests first second =
    record {
      told = λ ticket reply c. is_told entries ticket reply (subst (λ (rows : List (ℕ × Reply)). Contains rows (ticket, reply)) first c);
      answered = λ ticket reply is. subst (λ (rows : List (ℕ × Reply)). Contains rows (ticket, reply)) (sym first)
          (gathered (λ (entry : LogEntry). told_by entry.ticket entry.answer) entries is.entry (ticket, reply) is.there (subst (λ (t : ℕ). Contains (told_by is.entry.ticket is.entry.answer) (t, reply)) is.under
          (subst (λ (a : CallAnswer). Contains (told_by is.entry.ticket a) (is.entry.ticket, reply)) (sym is.told) (here (is.entry.ticket, reply) []))));
      asked = λ ticket request c. is_asked entries ticket request (subst (λ (rows : List (ℕ × Request)). Contains rows (ticket, request)) second c);
      asks = λ ticket request is. subst (λ (rows : List (ℕ × Request)). Contains rows (ticket, request)) (sym second)
          (gathered (λ (entry : LogEntry). asked_by entry.ticket entry.call) entries is.entry (ticket, request) is.there (subst (λ (t : ℕ). Contains (asked_by is.entry.ticket is.entry.call) (t, request)) is.under
          (subst (λ (a : Call). Contains (asked_by is.entry.ticket a) (is.entry.ticket, request)) (sym is.asks) (here (is.entry.ticket, request) []))));
    }

-- in another order
pub lists_moved : (entries : List LogEntry) (told_first told_last : List ReplyRow) (asked_first asked_last : List RequestRow) → IsPermutation told_first told_last → IsPermutation asked_first asked_last
    → Lists entries (map told told_first) (map asked asked_first) → Lists entries (map told told_last) (map asked asked_last)
lists_moved entries told_first told_last asked_first asked_last one two lists =
    record {
      told = λ ticket reply c. lists.told ticket reply (Contains-permutation (map told told_last) (map told told_first) (ticket, reply) (IsPermutation-sym (map told told_first) (map told told_last) first) c);
      answered = λ ticket reply is. Contains-permutation (map told told_first) (map told told_last) (ticket, reply) first (lists.answered ticket reply is);
      asked = λ ticket request c.
          lists.asked ticket request (Contains-permutation (map asked asked_last) (map asked asked_first) (ticket, request) (IsPermutation-sym (map asked asked_first) (map asked asked_last) second) c);
      asks = λ ticket request is. Contains-permutation (map asked asked_first) (map asked asked_last) (ticket, request) second (lists.asks ticket request is);
    }
  where
    first : IsPermutation (map told told_first) (map told told_last)
    first = IsPermutation-map told told_first told_last one

    second : IsPermutation (map asked asked_first) (map asked asked_last)
    second = IsPermutation-map asked asked_first asked_last two

-- ---- the requests of the logs

pub all_sent : (entries : List LogEntry) (replies : List (ℕ × Reply)) (rows : List RequestRow) (id life : ℕ) (notes : List Note) → Lists entries replies (map asked rows)
    → All (IsMarked (sent_in notes)) rows → All (λ (row : RequestRow). is_own id life row.request.now ≡ true → row.sent ≡ true) rows → AllSent entries id life notes
all_sent entries replies rows id life notes lists marked all ticket request is own =
    let found = from_mapped asked rows (ticket, request) (lists.asks ticket request is) in
    let same : found.0.request.now ≡ request = ap (λ p. p.1) found.1.1 in
    let sent : found.0.sent ≡ true =
    All-contains (λ (row : RequestRow). is_own id life row.request.now ≡ true → row.sent ≡ true) rows found.0 all found.1.0 (ap (is_own id life) same ∙ own) in
    subst (Contains (sent_in notes)) same ((All-contains (IsMarked (sent_in notes)) rows found.0 marked found.1.0).there sent)

pub strange : (entries : List LogEntry) (replies : List (ℕ × Reply)) (rows : List RequestRow) (id life : ℕ) (notes : List Note) (f : VouchFault) → Lists entries replies (map asked rows)
    → All (IsMarked (sent_in notes)) rows → AreVouched entries [] notes → HasStrange rows id life f → HasStrangeRequest entries id life notes
strange entries replies rows id life notes f lists marked along has =
    record {
      along = along;
      ticket = has.row.ticket;
      request = has.row.request.now;
      asked = lists.asked has.row.ticket has.row.request.now (mapped asked rows has.row has.there);
      own = has.own;
      never = λ c. never ((All-contains (IsMarked (sent_in notes)) rows has.row marked has.there).marked c);
    }
  where
    never : has.row.sent ≡ true → ⊥
    never e = cc (e, has.unsent)

-- ---- all of it

pub vouches : (logs : List CallLog) (m : MirrorState) (replies : List (ℕ × Reply)) (before after : List RequestRow) (id life : ℕ) (notes : List Note)
    → Lists (entries_in logs) replies (map asked before) → id ≡ m.id → life ≡ m.life → map asked after ≡ map asked before
    → All (IsMarked (sent_in notes)) after → AreVouched (entries_in logs) [] notes
    → All (λ (row : RequestRow). is_own id life row.request.now ≡ true → row.sent ≡ true) after → IsVouched logs m notes
vouches logs m replies before after id life notes lists one two same marked along all =
    record {
      along = along;
      sent = subst (λ (i : ℕ). AllSent (entries_in logs) i m.life notes) one
          (subst (λ (l : ℕ). AllSent (entries_in logs) id l notes) two
          (all_sent (entries_in logs) replies after id life notes (subst (Lists (entries_in logs) replies) (sym same) lists) marked all));
    }

pub against_first : (logs : List CallLog) (m : MirrorState) (notes : List Note) (f : VouchFault) → FirstCause (entries_in logs) [] notes f → IsAgainst logs m notes f
against_first logs m notes StrangeReply is = is
against_first logs m notes BeforeCause is = is
against_first logs m notes StrangeRequest is = absurd (never (entries_in logs) [] notes is)
  where
    never : (entries : List LogEntry) (earlier notes : List Note) → FirstCause entries earlier notes StrangeRequest → ⊥
    never entries earlier [] is = is
    never entries earlier (Began ∷ notes) (inl now) = now
    never entries earlier (Sent requests ∷ notes) (inl now) = now
    never entries earlier (Came ticket reply ∷ notes) (inl now) = now
    never entries earlier (note ∷ notes) (inr later) = never entries (earlier ++ note ∷ []) notes later.1
against_first logs m notes NoMemory is = tt

pub against_strange : (logs : List CallLog) (m : MirrorState) (replies : List (ℕ × Reply)) (before after : List RequestRow) (id life : ℕ) (notes : List Note) (f : VouchFault)
    → Lists (entries_in logs) replies (map asked before) → id ≡ m.id → life ≡ m.life → map asked after ≡ map asked before
    → All (IsMarked (sent_in notes)) after → AreVouched (entries_in logs) [] notes → HasStrange after id life f → IsAgainst logs m notes f
against_strange logs m replies before after id life notes f lists one two same marked along has =
    subst (IsAgainst logs m notes) (sym has.is)
    (subst (λ (i : ℕ). HasStrangeRequest (entries_in logs) i m.life notes) one
    (subst (λ (l : ℕ). HasStrangeRequest (entries_in logs) id l notes) two
    (strange (entries_in logs) replies after id life notes f (subst (Lists (entries_in logs) replies) (sym same) lists) marked along has)))

-- ---- a fault excludes that logs vouch

not_vouched_note : (entries : List LogEntry) (earlier : List Note) (note : Note) (f : VouchFault) → IsCause entries earlier note f → IsVouchedNote entries earlier note → ⊥
not_vouched_note entries earlier (Came ticket reply) StrangeReply is vouched = is vouched
not_vouched_note entries earlier (Came ticket reply) BeforeCause is vouched = is
not_vouched_note entries earlier (Came ticket reply) StrangeRequest is vouched = is
not_vouched_note entries earlier (Came ticket reply) NoMemory is vouched = is
not_vouched_note entries earlier Began f is vouched = is
not_vouched_note entries earlier (Sent requests) StrangeReply is vouched = is
not_vouched_note entries earlier (Sent requests) BeforeCause is vouched =
    elim (vouched is.0 is.1.0) [
      | inl sent ↦ is.1.1.first sent
      | inr above ↦ let low = above is.1.1.ticket is.1.1.asked is.1.1.came is.1.1.before in let high = is.1.1.late in omega arith
    ]
not_vouched_note entries earlier (Sent requests) StrangeRequest is vouched = is
not_vouched_note entries earlier (Sent requests) NoMemory is vouched = is

not_vouched : (entries : List LogEntry) (earlier notes : List Note) (f : VouchFault) → FirstCause entries earlier notes f → AreVouched entries earlier notes → ⊥
not_vouched entries earlier [] f is vouched = is
not_vouched entries earlier (note ∷ notes) f is vouched =
    elim is [
      | inl now ↦ not_vouched_note entries earlier note f now vouched.0
      | inr later ↦ not_vouched entries (earlier ++ note ∷ []) notes f later.1 vouched.1
    ]

pub excludes : (logs : List CallLog) (m : MirrorState) (notes : List Note) (f : VouchFault) → IsAgainst logs m notes f → f ≢ NoMemory → IsVouched logs m notes → ⊥
excludes logs m notes StrangeReply is other vouched = not_vouched (entries_in logs) [] notes StrangeReply is vouched.along
excludes logs m notes BeforeCause is other vouched = not_vouched (entries_in logs) [] notes BeforeCause is vouched.along
excludes logs m notes StrangeRequest is other vouched = is.never (vouched.sent is.ticket is.request is.asked is.own)
excludes logs m notes NoMemory is other vouched = other refl
