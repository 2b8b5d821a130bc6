-- A history and a follower's notes merge into a schedule, at whose end the world is the history's and the mirror the follower's.
use Rattle.std.proofs.Common.{◌≡◌, ◌<◌, ◌≤◌, ◌⊎◌, inl, inr, ℕ, ◌+◌, Bool, true, false, ◌&&◌, nat_le, List, [], ◌∷◌, ◌++◌, Some, refl, sym, ap, subst, ◌∙◌, arith}
use Rattle.std.specs.Prelude.{Contains, ◌==◌, if◌then◌else◌}
use Rattle.std.proofs.lemmas.Bool.{leb-false, leb-true}
use Rattle.std.proofs.lemmas.List.Elements.{Contains-append_left, Contains-append_right, Contains-push}
use Rattle.eden_history.specs.declared.answer.Answer as made
use Rattle.eden_history.specs.declared.answer.Answer.TheVariants as of_change
use Rattle.eden_history.specs.Worlds.{Namer, WorldState}
use Rattle.eden_history.specs.Outcome.{answer_of}
use Rattle.eden_logs.specs.declared.call.CallAnswer.TheVariants.{Replied}
use Rattle.eden_logs.specs.declared.call.Call.{Call}
use Rattle.eden_logs.specs.declared.call.Call.TheVariants.{Change, Ask}
use Rattle.eden_messages.specs.declared.message.Reply.{Reply}
use Rattle.eden_messages.specs.declared.message.Request.{Request}
use Rattle.eden_logs.specs.Calls.{answer_made}
use Rattle.eden_messages.specs.Mirrors.{MirrorState, begun, delivered, query_of}
use Rattle.eden_messages.specs.Replies.{reply_of}
use Rattle.eden_logs.specs.declared.history.HistoryEntry.{HistoryEntry}
use Rattle.eden_logs.specs.Histories.{IsLegalAfter, answer_in, replay, world_past}
use Rattle.eden_logs.proofs.Covered.{cons_cases, here, nowhere, there}
use Rattle.eden_headline.specs.declared.note.Note.{Note}
use Rattle.eden_headline.specs.declared.note.Note.TheVariants.{Began, Sent, Came}
use Rattle.eden_headline.specs.Imports.{IsScheduleWithImports, happens_with_imports, run_with_imports}
use Rattle.eden_headline.specs.Merges.{behind, merge, steps_of, steps_of_call, up_to}
use Rattle.eden_headline.specs.Notes.{AreOwnNotes, after_notes}
use Rattle.eden_headline.specs.Schedules.{IsStrange, Mirrors, Scene, Step, asked_by, happens, moved}
use Rattle.eden_headline.specs.Schedules.Step.{Begins, Comes, Sends, Serves, Strange}
use Rattle.eden_headline.specs.Vouched.{is_own}
use Rattle.eden_headline.proofs.Living.{begun_keeps, delivered_keeps}
use Rattle.eden_headline.proofs.Scheduling.{all_moved}

-- ---- one list of steps after another

schedule_join : (name : Namer) (s : Scene) (xs ys : List Step) → IsScheduleWithImports name s xs → IsScheduleWithImports name (run_with_imports name s xs) ys → IsScheduleWithImports name s (xs ++ ys)
schedule_join name s [] ys first second = second
schedule_join name s (x ∷ xs) ys first second = (first.0, schedule_join name (happens_with_imports name s x) xs ys first.1 second)

run_join : (name : Namer) (s : Scene) (xs ys : List Step) → run_with_imports name s (xs ++ ys) ≡ run_with_imports name (run_with_imports name s xs) ys
run_join name s [] ys = refl
run_join name s (x ∷ xs) ys = run_join name (happens_with_imports name s x) xs ys

-- ---- a history, cut in two

pub split_at : (ticket : ℕ) (entries : List HistoryEntry) → up_to ticket entries ++ behind ticket entries ≡ entries
split_at ticket [] = refl
split_at ticket (entry ∷ rest) = by (nat_le entry.ticket ticket) (split_at ticket rest)
  where
    by : (b : Bool) → up_to ticket rest ++ behind ticket rest ≡ rest → (if b then entry ∷ up_to ticket rest else []) ++ (if b then behind ticket rest else entry ∷ rest) ≡ entry ∷ rest
    by true whole = ap (λ es. entry ∷ es) whole
    by false whole = refl

replay_join : (name : Namer) (world : WorldState) (xs ys : List HistoryEntry) → replay name world (xs ++ ys) ≡ replay name (replay name world xs) ys
replay_join name world [] ys = refl
replay_join name world (x ∷ xs) ys = replay_join name (world_past name world x.call) xs ys

legal_behind : (name : Namer) (count : ℕ) (world : WorldState) (xs ys : List HistoryEntry) → IsLegalAfter name count world (xs ++ ys)
    → (later : ℕ) × IsLegalAfter name later (replay name world xs) ys
legal_behind name count world [] ys legal = (count, legal)
legal_behind name count world (x ∷ xs) ys legal = legal_behind name (count + 1) (world_past name world x.call) xs ys legal.2

-- ---- the answers that are due

-- one of these entries has the ticket, and this is the reply to it from this world on
abbrev pub IsDue : Namer → WorldState → List HistoryEntry → ℕ → Reply → Type 0
IsDue name world [] ticket reply = ⊥
IsDue name world (entry ∷ rest) ticket reply =
    ((entry.ticket ≡ ticket) × (answer_in name world entry.call ≡ Replied reply)) ⊎ IsDue name (world_past name world entry.call) rest ticket reply

due_split : (name : Namer) (world : WorldState) (xs ys : List HistoryEntry) (ticket : ℕ) (reply : Reply) → IsDue name world (xs ++ ys) ticket reply
    → IsDue name world xs ticket reply ⊎ IsDue name (replay name world xs) ys ticket reply
due_split name world [] ys ticket reply due = inr due
due_split name world (x ∷ xs) ys ticket reply due =
    elim due [
      | inl now ↦ inl (inl now)
      | inr later ↦ elim (due_split name (world_past name world x.call) xs ys ticket reply later) [ inl first ↦ inl (inr first) | inr second ↦ inr second ]
    ]

due_above : (name : Namer) (count : ℕ) (world : WorldState) (entries : List HistoryEntry) (ticket : ℕ) (reply : Reply) → IsLegalAfter name count world entries
    → IsDue name world entries ticket reply → count < ticket
due_above name count world [] ticket reply legal due = absurd due
due_above name count world (entry ∷ rest) ticket reply legal due =
    elim due [
      | inl now ↦ omega (arith, legal.0, now.0)
      | inr later ↦ omega (arith, due_above name (count + 1) (world_past name world entry.call) rest ticket reply legal.2 later)
    ]

-- what is due under a ticket is due from the entries up to it
due_up_to : (name : Namer) (count : ℕ) (world : WorldState) (entries : List HistoryEntry) (ticket : ℕ) (reply : Reply) → IsLegalAfter name count world entries
    → IsDue name world entries ticket reply → IsDue name world (up_to ticket entries) ticket reply
due_up_to name count world [] ticket reply legal due = due
due_up_to name count world (entry ∷ rest) ticket reply legal due =
    by (nat_le entry.ticket ticket) refl (due_up_to name (count + 1) (world_past name world entry.call) rest ticket reply legal.2) due
  where
    low : (ticket < entry.ticket) → IsDue name world (entry ∷ rest) ticket reply → ⊥
    low above (inl now) = omega (arith, now.0)
    low above (inr later) = omega (arith, legal.0, due_above name (count + 1) (world_past name world entry.call) rest ticket reply legal.2 later)

    by : (b : Bool) → nat_le entry.ticket ticket ≡ b → (IsDue name (world_past name world entry.call) rest ticket reply → IsDue name (world_past name world entry.call) (up_to ticket rest) ticket reply)
        → IsDue name world (entry ∷ rest) ticket reply → IsDue name world (if b then entry ∷ up_to ticket rest else []) ticket reply
    by true le onward (inl now) = inl now
    by true le onward (inr later) = inr (onward later)
    by false gt onward is = absurd (low (leb-false entry.ticket ticket gt) is)

-- the entries up to a ticket have no later one
low_tickets : (ticket : ℕ) (entries : List HistoryEntry) (entry : HistoryEntry) → Contains (up_to ticket entries) entry → entry.ticket ≤ ticket
low_tickets ticket [] entry c = absurd (nowhere entry c)
low_tickets ticket (first ∷ rest) entry c = by (nat_le first.ticket ticket) refl (low_tickets ticket rest entry) c
  where
    by : (b : Bool) → nat_le first.ticket ticket ≡ b → (Contains (up_to ticket rest) entry → entry.ticket ≤ ticket) → Contains (if b then first ∷ up_to ticket rest else []) entry → entry.ticket ≤ ticket
    by true le onward k =
        elim (cons_cases first (up_to ticket rest) entry k) [
          | inl e ↦ subst (λ (x : HistoryEntry). x.ticket ≤ ticket) e (leb-true first.ticket ticket le)
          | inr d ↦ onward d
        ]
    by false gt onward k = absurd (nowhere entry k)

-- ---- the steps of one call

-- there is no mirror but one of this id and life
abbrev pub IsAlone : ℕ → ℕ → Mirrors → Type 0
IsAlone id life mirrors = (other : ℕ) (m : MirrorState) → mirrors other ≡ Some m → (other ≡ id) × (m.life ≡ life)

-- the steps may happen, and lead to this world; no mirror moves, nothing is forgotten, and these replies are made
record Passes (name : Namer) (s : Scene) (steps : List Step) (next : WorldState) (IsMade : Reply → Type 0) : Type 0 where
  schedule : IsScheduleWithImports name s steps
  world : (run_with_imports name s steps).world ≡ next
  mirrors : (run_with_imports name s steps).mirrors ≡ s.mirrors
  sent : (request : Request) → Contains s.sent request → Contains (run_with_imports name s steps).sent request
  replies : (reply : Reply) → Contains s.replies reply → Contains (run_with_imports name s steps).replies reply
  made : (reply : Reply) → IsMade reply → Contains (run_with_imports name s steps).replies reply

passes_join : (name : Namer) (s : Scene) (xs ys : List Step) (world last : WorldState) (IsMade IsNext IsAny : Reply → Type 0)
    → Passes name s xs world IsMade → Passes name (run_with_imports name s xs) ys last IsNext → ((reply : Reply) → IsAny reply → IsMade reply ⊎ IsNext reply)
    → Passes name s (xs ++ ys) last IsAny
passes_join name s xs ys world last IsMade IsNext IsAny first second cases =
    record {
      schedule = schedule_join name s xs ys first.schedule second.schedule;
      world = ap (λ t. t.world) joined ∙ second.world;
      mirrors = ap (λ t. t.mirrors) joined ∙ second.mirrors ∙ first.mirrors;
      sent = λ request c. subst (λ (t : Scene). Contains t.sent request) (sym joined) (second.sent request (first.sent request c));
      replies = λ reply c. subst (λ (t : Scene). Contains t.replies reply) (sym joined) (second.replies reply (first.replies reply c));
      made = λ reply is. subst (λ (t : Scene). Contains t.replies reply) (sym joined) (by reply (cases reply is));
    }
  where
    joined : run_with_imports name s (xs ++ ys) ≡ run_with_imports name (run_with_imports name s xs) ys
    joined = run_join name s xs ys

    by : (reply : Reply) → IsMade reply ⊎ IsNext reply → Contains (run_with_imports name (run_with_imports name s xs) ys).replies reply
    by reply (inl is) = second.replies reply (first.made reply is)
    by reply (inr is) = second.made reply is

-- no change is answered with a reply
no_reply : (answer : made.Answer) (reply : Reply) → answer_made answer ≡ Replied reply → ⊥
no_reply (of_change.At position) reply e = cc
no_reply (of_change.Checked position conflicts) reply e = cc
no_reply (of_change.Refused fault) reply e = cc

served : (name : Namer) (s : Scene) (request : Request) → Contains s.sent request
    → Passes name s (Serves request ∷ []) s.world (λ reply. answer_in name s.world (Ask request) ≡ Replied reply)
unfolding happens
served name s request sent =
    record {
      schedule = (sent, tt);
      world = refl;
      mirrors = refl;
      sent = λ other c. c;
      replies = λ reply c. Contains-append_left s.replies (reply_of s.world request ∷ []) reply c;
      made = λ reply e. subst (λ (x : Reply). Contains (s.replies ++ reply_of s.world request ∷ []) x) (same reply e) (Contains-push s.replies (reply_of s.world request));
    }
  where
    same : (reply : Reply) → Replied (reply_of s.world request) ≡ Replied reply → reply_of s.world request ≡ reply
    same reply e = cc

sent_by_another : (name : Namer) (s : Scene) (request : Request) → IsStrange s request
    → Passes name s (Strange request ∷ Serves request ∷ []) s.world (λ reply. answer_in name s.world (Ask request) ≡ Replied reply)
unfolding happens
sent_by_another name s request strange =
    let after = served name (happens_with_imports name s (Strange request)) request (Contains-push s.sent request) in
    record {
      schedule = (strange, after.schedule);
      world = refl;
      mirrors = refl;
      sent = λ other c. Contains-append_left s.sent (request ∷ []) other c;
      replies = after.replies;
      made = after.made;
    }

pub itself : (n : ℕ) → (n == n) ≡ true
itself n = grind arith

not_own : (id life : ℕ) (s : Scene) (request : Request) → IsAlone id life s.mirrors → is_own id life request ≡ false → IsStrange s request
not_own id life s request alone apart m at same =
    let one = alone (query_of request).mirror m at in
    let life_is : (query_of request).life ≡ life = sym same ∙ one.1 in
    let own : is_own id life request ≡ true = (λ i. (one.0 i == id) && (life_is i == life)) ∙ (λ i. itself id i && itself life i) in
    cc (own, apart)

call_passes : (name : Namer) (id life : ℕ) (s : Scene) (call : Call) → IsAlone id life s.mirrors
    → ((request : Request) → call ≡ Ask request → is_own id life request ≡ true → Contains s.sent request)
    → Passes name s (steps_of_call id life call) (world_past name s.world call) (λ reply. answer_in name s.world call ≡ Replied reply)
unfolding happens
call_passes name id life s (Change change) alone asked =
    record {
      schedule = (tt, tt);
      world = refl;
      mirrors = refl;
      sent = λ request c. c;
      replies = λ reply c. c;
      made = λ reply e. absurd (no_reply (answer_of name s.world change) reply e);
    }
call_passes name id life s (Ask request) alone asked = by (is_own id life request) refl
  where
    by : (b : Bool) → is_own id life request ≡ b
        → Passes name s (if b then Serves request ∷ [] else Strange request ∷ Serves request ∷ []) s.world (λ reply. answer_in name s.world (Ask request) ≡ Replied reply)
    by true own = served name s request (asked request refl own)
    by false apart = sent_by_another name s request (not_own id life s request alone apart)

-- ---- the steps of several

-- each request of the mirror's that these entries have was sent
abbrev AreAsked : ℕ → ℕ → List Request → List HistoryEntry → Type 0
AreAsked id life sent entries = (entry : HistoryEntry) (request : Request) → Contains entries entry → entry.call ≡ Ask request → is_own id life request ≡ true → Contains sent request

entries_pass : (name : Namer) (id life : ℕ) (s : Scene) (entries : List HistoryEntry) → IsAlone id life s.mirrors → AreAsked id life s.sent entries
    → Passes name s (steps_of id life entries) (replay name s.world entries) (λ reply. (ticket : ℕ) × IsDue name s.world entries ticket reply)
entries_pass name id life s [] alone asked =
    record {
      schedule = tt;
      world = refl;
      mirrors = refl;
      sent = λ request c. c;
      replies = λ reply c. c;
      made = λ reply due. absurd due.1;
    }
entries_pass name id life s (entry ∷ rest) alone asked =
    passes_join name s (steps_of_call id life entry.call) (steps_of id life rest) (world_past name s.world entry.call) (replay name (world_past name s.world entry.call) rest)
    (λ reply. answer_in name s.world entry.call ≡ Replied reply) (λ reply. (ticket : ℕ) × IsDue name (world_past name s.world entry.call) rest ticket reply)
    (λ reply. (ticket : ℕ) × IsDue name s.world (entry ∷ rest) ticket reply) first
    (subst (λ (w : WorldState). Passes name t (steps_of id life rest) (replay name w rest) (λ reply. (ticket : ℕ) × IsDue name w rest ticket reply)) first.world
    (entries_pass name id life t rest (subst (IsAlone id life) (sym first.mirrors) alone)
    (λ other request c e own. first.sent request (asked other request (there entry rest other c) e own))))
    cases
  where
    first : Passes name s (steps_of_call id life entry.call) (world_past name s.world entry.call) (λ reply. answer_in name s.world entry.call ≡ Replied reply)
    first = call_passes name id life s entry.call alone (λ request e own. asked entry request (here entry rest) e own)

    t : Scene
    t = run_with_imports name s (steps_of_call id life entry.call)

    cases : (reply : Reply) → (ticket : ℕ) × IsDue name s.world (entry ∷ rest) ticket reply
        → (answer_in name s.world entry.call ≡ Replied reply) ⊎ ((ticket : ℕ) × IsDue name (world_past name s.world entry.call) rest ticket reply)
    cases reply (ticket, inl now) = inl now.1
    cases reply (ticket, inr later) = inr (ticket, later)

-- ---- the merge

-- the request was sent among the notes, before a reply came from its ticket on
abbrev pub IsInTime : ℕ → Request → List Note → Type 0
IsInTime ticket request [] = ⊥
IsInTime ticket request (Began ∷ notes) = IsInTime ticket request notes
IsInTime ticket request (Sent requests ∷ notes) = Contains requests request ⊎ IsInTime ticket request notes
IsInTime ticket request (Came came reply ∷ notes) = (came < ticket) × IsInTime ticket request notes

-- the reply is still to come, under this ticket
abbrev pub IsComing : ℕ → Reply → List Note → Type 0
IsComing ticket reply [] = ⊥
IsComing ticket reply (Began ∷ notes) = IsComing ticket reply notes
IsComing ticket reply (Sent requests ∷ notes) = IsComing ticket reply notes
IsComing ticket reply (Came came other ∷ notes) = ((came ≡ ticket) × (other ≡ reply)) ⊎ IsComing ticket reply notes

-- the entries and the notes that are left can be merged
pub record IsReady (name : Namer) (id life : ℕ) (s : Scene) (m : MirrorState) (entries : List HistoryEntry) (notes : List Note) : Type 0 where
  pub at : s.mirrors id ≡ Some m
  pub alone : IsAlone id life s.mirrors
  pub own : AreOwnNotes m notes
  pub legal : (count : ℕ) × IsLegalAfter name count s.world entries
  pub asked : (entry : HistoryEntry) (request : Request) → Contains entries entry → entry.call ≡ Ask request → is_own id life request ≡ true
      → Contains s.sent request ⊎ IsInTime entry.ticket request notes
  pub told : (ticket : ℕ) (reply : Reply) → IsComing ticket reply notes → Contains s.replies reply ⊎ IsDue name s.world entries ticket reply

pub record Merges (name : Namer) (id life : ℕ) (s : Scene) (m : MirrorState) (entries : List HistoryEntry) (notes : List Note) : Type 0 where
  pub schedule : IsScheduleWithImports name s (merge id life entries notes)
  pub world : (run_with_imports name s (merge id life entries notes)).world ≡ replay name s.world entries
  pub mirror : (run_with_imports name s (merge id life entries notes)).mirrors id ≡ Some (after_notes m notes)

moved_here : (mirrors : Mirrors) (id : ℕ) (move : MirrorState → MirrorState) (m : MirrorState) → mirrors id ≡ Some m → moved mirrors id move id ≡ Some (move m)
moved_here mirrors id move m at = rw (itself id, at) refl

still_alone : (id life : ℕ) (mirrors : Mirrors) (move : MirrorState → MirrorState) → ((m : MirrorState) → (move m).life ≡ m.life) → IsAlone id life mirrors
    → IsAlone id life (moved mirrors id move)
still_alone id life mirrors move keeps alone =
    all_moved (λ other m. (other ≡ id) × (m.life ≡ life)) mirrors id move (λ m e. (refl, keeps m ∙ (alone id m e).1)) alone

-- before a reply comes, the entries up to its ticket
module _ (name : Namer) (id life : ℕ) (s : Scene) (m : MirrorState) (entries : List HistoryEntry) (notes : List Note) (came : ℕ) (reply : Reply)
    (ready : IsReady name id life s m entries (Came came reply ∷ notes)) where
  whole : up_to came entries ++ behind came entries ≡ entries
  whole = split_at came entries

  asked_up_to : AreAsked id life s.sent (up_to came entries)
  asked_up_to entry request c e own =
      by (ready.asked entry request (subst (λ (es : List HistoryEntry). Contains es entry) whole (Contains-append_left (up_to came entries) (behind came entries) entry c)) e own)
    where
      by : Contains s.sent request ⊎ ((came < entry.ticket) × IsInTime entry.ticket request notes) → Contains s.sent request
      by (inl sent) = sent
      by (inr late) = absurd (omega (arith, late.0, low_tickets came entries entry c))

  first : Passes name s (steps_of id life (up_to came entries)) (replay name s.world (up_to came entries)) (λ x. (ticket : ℕ) × IsDue name s.world (up_to came entries) ticket x)
  first = entries_pass name id life s (up_to came entries) ready.alone asked_up_to

  pub before : Scene
  before = run_with_imports name s (steps_of id life (up_to came entries))

  pub after : Scene
  after = happens_with_imports name before (Comes reply id)

  pub passed : IsScheduleWithImports name s (steps_of id life (up_to came entries))
  passed = first.schedule

  pub may_come : Contains before.replies reply
  unfolding before
  may_come = by (ready.told came reply (inl (refl, refl)))
    where
      by : Contains s.replies reply ⊎ IsDue name s.world entries came reply → Contains (run_with_imports name s (steps_of id life (up_to came entries))).replies reply
      by (inl made) = first.replies reply made
      by (inr due) = first.made reply (came, due_up_to name ready.legal.0 s.world entries came reply ready.legal.1 due)

  pub world_then : after.world ≡ replay name s.world (up_to came entries)
  unfolding before after happens
  world_then = first.world

  pub ready_then : IsReady name id life after (delivered m reply).0 (behind came entries) notes
  unfolding before after happens
  ready_then =
      record {
        at = moved_here before.mirrors id (λ n. (delivered n reply).0) m (ap (λ ms. ms id) first.mirrors ∙ ready.at);
        alone = still_alone id life before.mirrors (λ n. (delivered n reply).0) (λ n. ap (λ name. name.life) (delivered_keeps n reply)) (subst (IsAlone id life) (sym first.mirrors) ready.alone);
        own = ready.own.1;
        legal = subst (λ (w : WorldState). (count : ℕ) × IsLegalAfter name count w (behind came entries)) (sym first.world)
            (legal_behind name ready.legal.0 s.world (up_to came entries) (behind came entries)
            (subst (λ (es : List HistoryEntry). IsLegalAfter name ready.legal.0 s.world es) (sym whole) ready.legal.1));
        asked = λ entry request c e own. in_turn entry request
            (ready.asked entry request (subst (λ (es : List HistoryEntry). Contains es entry) whole (Contains-append_right (up_to came entries) (behind came entries) entry c)) e own);
        told = λ ticket other coming. made ticket other (ready.told ticket other (inr coming));
      }
    where
      in_turn : (entry : HistoryEntry) (request : Request) → Contains s.sent request ⊎ ((came < entry.ticket) × IsInTime entry.ticket request notes)
          → Contains before.sent request ⊎ IsInTime entry.ticket request notes
      in_turn entry request (inl sent) = inl (first.sent request sent)
      in_turn entry request (inr late) = inr late.1

      cut : (ticket : ℕ) (other : Reply) → IsDue name s.world (up_to came entries) ticket other ⊎ IsDue name (replay name s.world (up_to came entries)) (behind came entries) ticket other
          → Contains before.replies other ⊎ IsDue name before.world (behind came entries) ticket other
      cut ticket other (inl due) = inl (first.made other (ticket, due))
      cut ticket other (inr due) = inr (subst (λ (w : WorldState). IsDue name w (behind came entries) ticket other) (sym first.world) due)

      made : (ticket : ℕ) (other : Reply) → Contains s.replies other ⊎ IsDue name s.world entries ticket other
          → Contains before.replies other ⊎ IsDue name before.world (behind came entries) ticket other
      made ticket other (inl is) = inl (first.replies other is)
      made ticket other (inr due) =
          cut ticket other (due_split name s.world (up_to came entries) (behind came entries) ticket other
          (subst (λ (es : List HistoryEntry). IsDue name s.world es ticket other) (sym whole) due))

pub merges : (name : Namer) (id life : ℕ) (s : Scene) (m : MirrorState) (entries : List HistoryEntry) (notes : List Note) → IsReady name id life s m entries notes
    → Merges name id life s m entries notes
unfolding happens before after
merges name id life s m entries [] ready =
    record { schedule = last.schedule; world = last.world; mirror = ap (λ ms. ms id) last.mirrors ∙ ready.at }
  where
    asked : AreAsked id life s.sent entries
    asked entry request c e own = elim (ready.asked entry request c e own) [ inl sent ↦ sent | inr never ↦ absurd never ]

    last : Passes name s (steps_of id life entries) (replay name s.world entries) (λ x. (ticket : ℕ) × IsDue name s.world entries ticket x)
    last = entries_pass name id life s entries ready.alone asked
merges name id life s m entries (Began ∷ notes) ready =
    let rest = merges name id life (happens_with_imports name s (Begins id)) (begun m) entries notes (record {
      at = moved_here s.mirrors id begun m ready.at;
      alone = still_alone id life s.mirrors begun (λ n. ap (λ name. name.life) (begun_keeps n)) ready.alone;
      own = ready.own.1;
      legal = ready.legal;
      asked = ready.asked;
      told = ready.told;
    }) in
    record { schedule = (tt, rest.schedule); world = rest.world; mirror = rest.mirror }
merges name id life s m entries (Sent requests ∷ notes) ready =
    let rest = merges name id life (happens_with_imports name s (Sends id)) m entries notes (record {
      at = ready.at;
      alone = ready.alone;
      own = ready.own.1;
      legal = ready.legal;
      asked = λ entry request c e own. by entry request (ready.asked entry request c e own);
      told = ready.told;
    }) in
    record { schedule = (tt, rest.schedule); world = rest.world; mirror = rest.mirror }
  where
    all : requests ≡ asked_by (s.mirrors id)
    all = ready.own.0 ∙ ap asked_by (sym ready.at)

    by : (entry : HistoryEntry) (request : Request) → Contains s.sent request ⊎ (Contains requests request ⊎ IsInTime entry.ticket request notes)
        → Contains (s.sent ++ asked_by (s.mirrors id)) request ⊎ IsInTime entry.ticket request notes
    by entry request (inl sent) = inl (Contains-append_left s.sent (asked_by (s.mirrors id)) request sent)
    by entry request (inr (inl now)) =
        inl (Contains-append_right s.sent (asked_by (s.mirrors id)) request (subst (λ (rs : List Request). Contains rs request) all now))
    by entry request (inr (inr later)) = inr later
merges name id life s m entries (Came came reply ∷ notes) ready =
    let rest = merges name id life (after name id life s m entries notes came reply ready) (delivered m reply).0 (behind came entries) notes
    (ready_then name id life s m entries notes came reply ready) in
    record {
      schedule = schedule_join name s (steps_of id life (up_to came entries)) (Comes reply id ∷ merge id life (behind came entries) notes)
          (passed name id life s m entries notes came reply ready) (may_come name id life s m entries notes came reply ready, rest.schedule);
      world = ap (λ t. t.world) joined ∙ rest.world ∙ ap (λ w. replay name w (behind came entries)) (world_then name id life s m entries notes came reply ready)
          ∙ sym (replay_join name s.world (up_to came entries) (behind came entries)) ∙ ap (replay name s.world) (split_at came entries);
      mirror = ap (λ t. t.mirrors id) joined ∙ rest.mirror;
    }
  where
    joined : run_with_imports name s (merge id life entries (Came came reply ∷ notes))
        ≡ run_with_imports name (run_with_imports name s (steps_of id life (up_to came entries))) (Comes reply id ∷ merge id life (behind came entries) notes)
    joined = run_join name s (steps_of id life (up_to came entries)) (Comes reply id ∷ merge id life (behind came entries) notes)
