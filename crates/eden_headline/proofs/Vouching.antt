-- Where logs vouch for a follower, its notes merge with each history with which the logs agree.
use Rattle.std.proofs.Common.{◌≡◌, ◌<◌, ◌⊎◌, inl, inr, ℕ, zero, suc, ◌+◌, Bool, true, false, List, [], ◌∷◌, ◌++◌, Option, Some, None, refl, sym, ap, subst, ◌∙◌, append_assoc, append-nil, arith}
use Rattle.std.specs.Prelude.{Contains, slice_get, ◌==◌, if◌then◌else◌}
use Rattle.std.proofs.lemmas.Bool.{eqb-true}
use Rattle.std.proofs.lemmas.List.Elements.{Contains-append_cases, Contains-append_left, Contains-append_right}
use Rattle.std.proofs.lemmas.Option.{same_Some}
use Rattle.eden_globs.specs.Filters.{Patterns}
use Rattle.eden_history.specs.Worlds.{Namer, WorldState}
use Rattle.eden_history.specs.Legal.{IsWorld}
use Rattle.eden_logs.specs.declared.call.CallAnswer.TheVariants.{Replied, Unanswered}
use Rattle.eden_logs.specs.declared.call.Call.TheVariants.{Ask}
use Rattle.eden_messages.specs.declared.message.Reply.{Reply}
use Rattle.eden_messages.specs.declared.message.Request.{Request}
use Rattle.eden_messages.specs.Mirrors.{MirrorState, new_mirror}
use Rattle.eden_logs.specs.declared.history.HistoryEntry.{HistoryEntry}
use Rattle.eden_logs.specs.declared.log.CallLog.{CallLog}
use Rattle.eden_logs.specs.declared.log.LogEntry.{LogEntry}
use Rattle.eden_logs.specs.Histories.{IsLegalAfter, IsLegalHistory, answers_along, replay, world_past}
use Rattle.eden_logs.specs.Logs.{IsRight, LogsAgree, entries_in, under}
use Rattle.eden_logs.proofs.Accounted.{all_noted, among_entries, right_at}
use Rattle.eden_logs.proofs.Covered.{nowhere}
use Rattle.eden_headline.specs.declared.note.Note.{Note}
use Rattle.eden_headline.specs.declared.note.Note.TheVariants.{Began, Sent, Came}
use Rattle.eden_headline.specs.Headline.{AgreesAtHead, HasPlace, HasValues, IsCovered, IsTold, OfMirrors}
use Rattle.eden_headline.specs.Imports.{OnFreshRunsWithImports}
use Rattle.eden_headline.specs.Merges.{GoesWith, IsMerged, OnMerges, ending_of, merged, opened_with, opening_of}
use Rattle.eden_headline.specs.Notes.{HasNotes, came_in, sent_in}
use Rattle.eden_headline.specs.Schedules.{IsFresh}
use Rattle.eden_headline.specs.Vouched.{AreVouched, IsAnswered, IsAsked, IsTimely, IsVouched, is_own}
use Rattle.eden_headline.proofs.Importing.{with_imports}
use Rattle.eden_headline.proofs.Merging.{IsComing, IsDue, IsInTime, IsReady, Merges, itself, merges}
use Rattle.eden_headline.proofs.Scheduling.{at_head, covered, places, told as is_told, values}

-- ---- one note more

pub sent_more : (earlier : List Note) (note : Note) → sent_in (earlier ++ note ∷ []) ≡ sent_in earlier ++ sent_in (note ∷ [])
sent_more [] note = refl
sent_more (Began ∷ rest) note = sent_more rest note
sent_more (Sent requests ∷ rest) note =
    ap (λ rs. requests ++ rs) (sent_more rest note) ∙ sym (append_assoc requests (sent_in rest) (sent_in (note ∷ [])))
sent_more (Came ticket reply ∷ rest) note = sent_more rest note

pub came_more : (earlier : List Note) (note : Note) → came_in (earlier ++ note ∷ []) ≡ came_in earlier ++ came_in (note ∷ [])
came_more [] note = refl
came_more (Began ∷ rest) note = came_more rest note
came_more (Sent requests ∷ rest) note = came_more rest note
came_more (Came ticket reply ∷ rest) note = ap (λ ts. ticket ∷ ts) (came_more rest note)

-- ---- in time

-- all replies so far came under tickets below this one
abbrev IsAfter : List Note → ℕ → Type 0
IsAfter earlier ticket = (came : ℕ) → Contains (came_in earlier) came → came < ticket

after_fewer : (earlier : List Note) (note : Note) (ticket : ℕ) → IsAfter (earlier ++ note ∷ []) ticket → IsAfter earlier ticket
after_fewer earlier note ticket after came c =
    after came (subst (λ (ts : List ℕ). Contains ts came) (sym (came_more earlier note)) (Contains-append_left (came_in earlier) (came_in (note ∷ [])) came c))

-- a request that is asked and was sent was sent earlier, or is sent in time and after all that came
in_time : (entries : List LogEntry) (ticket : ℕ) (request : Request) → IsAsked entries ticket request → (earlier notes : List Note) → AreVouched entries earlier notes
    → Contains (sent_in notes) request → Contains (sent_in earlier) request ⊎ (IsInTime ticket request notes × IsAfter earlier ticket)
in_time entries ticket request asked earlier [] vouched c = absurd (nowhere request c)
in_time entries ticket request asked earlier (Began ∷ notes) vouched c = by (in_time entries ticket request asked (earlier ++ Began ∷ []) notes vouched.1 c)
  where
    by : Contains (sent_in (earlier ++ Began ∷ [])) request ⊎ (IsInTime ticket request notes × IsAfter (earlier ++ Began ∷ []) ticket)
        → Contains (sent_in earlier) request ⊎ (IsInTime ticket request notes × IsAfter earlier ticket)
    by (inl sent) = inl (subst (λ (rs : List Request). Contains rs request) (sent_more earlier Began ∙ append-nil (sent_in earlier)) sent)
    by (inr late) = inr (late.0, after_fewer earlier Began ticket late.1)
in_time entries ticket request asked earlier (Sent requests ∷ notes) vouched c =
    by (in_time entries ticket request asked (earlier ++ Sent requests ∷ []) notes vouched.1) (Contains-append_cases requests (sent_in notes) request c)
  where
    now : Contains requests request → IsTimely entries earlier request → Contains (sent_in earlier) request ⊎ ((Contains requests request ⊎ IsInTime ticket request notes) × IsAfter earlier ticket)
    now d (inl sent) = inl sent
    now d (inr after) = inr (inl d, λ came k. after ticket asked came k)

    before : Contains (sent_in earlier) request ⊎ Contains (requests ++ []) request → Contains (sent_in earlier) request ⊎ ((Contains requests request ⊎ IsInTime ticket request notes) × IsAfter earlier ticket)
    before (inl sent) = inl sent
    before (inr d) =
        let k : Contains requests request = subst (λ (rs : List Request). Contains rs request) (append-nil requests) d in
        now k (vouched.0 request k)

    later : Contains (sent_in (earlier ++ Sent requests ∷ [])) request ⊎ (IsInTime ticket request notes × IsAfter (earlier ++ Sent requests ∷ []) ticket)
        → Contains (sent_in earlier) request ⊎ ((Contains requests request ⊎ IsInTime ticket request notes) × IsAfter earlier ticket)
    later (inl sent) =
        before (Contains-append_cases (sent_in earlier) (requests ++ []) request (subst (λ (rs : List Request). Contains rs request) (sent_more earlier (Sent requests)) sent))
    later (inr late) = inr (inr late.0, after_fewer earlier (Sent requests) ticket late.1)

    by : (Contains (sent_in notes) request → Contains (sent_in (earlier ++ Sent requests ∷ [])) request ⊎ (IsInTime ticket request notes × IsAfter (earlier ++ Sent requests ∷ []) ticket))
        → Contains requests request ⊎ Contains (sent_in notes) request → Contains (sent_in earlier) request ⊎ ((Contains requests request ⊎ IsInTime ticket request notes) × IsAfter earlier ticket)
    by onward (inl d) = now d (vouched.0 request d)
    by onward (inr d) = later (onward d)
in_time entries ticket request asked earlier (Came came reply ∷ notes) vouched c = by (in_time entries ticket request asked (earlier ++ Came came reply ∷ []) notes vouched.1 c)
  where
    this : Contains (came_in (earlier ++ Came came reply ∷ [])) came
    this =
        subst (λ (ts : List ℕ). Contains ts came) (sym (came_more earlier (Came came reply)))
        (Contains-append_right (came_in earlier) (came ∷ []) came (0, omega arith, refl))

    by : Contains (sent_in (earlier ++ Came came reply ∷ [])) request ⊎ (IsInTime ticket request notes × IsAfter (earlier ++ Came came reply ∷ []) ticket)
        → Contains (sent_in earlier) request ⊎ (((came < ticket) × IsInTime ticket request notes) × IsAfter earlier ticket)
    by (inl sent) = inl (subst (λ (rs : List Request). Contains rs request) (sent_more earlier (Came came reply) ∙ append-nil (sent_in earlier)) sent)
    by (inr late) = inr ((late.1 came this, late.0), after_fewer earlier (Came came reply) ticket late.1)

-- ---- what comes

answered : (entries : List LogEntry) (earlier notes : List Note) → AreVouched entries earlier notes → (ticket : ℕ) (reply : Reply) → IsComing ticket reply notes → IsAnswered entries ticket reply
answered entries earlier [] vouched ticket reply coming = absurd coming
answered entries earlier (Began ∷ notes) vouched ticket reply coming = answered entries (earlier ++ Began ∷ []) notes vouched.1 ticket reply coming
answered entries earlier (Sent requests ∷ notes) vouched ticket reply coming = answered entries (earlier ++ Sent requests ∷ []) notes vouched.1 ticket reply coming
answered entries earlier (Came came other ∷ notes) vouched ticket reply coming = by (answered entries (earlier ++ Came came other ∷ []) notes vouched.1 ticket reply) coming
  where
    by : (IsComing ticket reply notes → IsAnswered entries ticket reply) → ((came ≡ ticket) × (other ≡ reply)) ⊎ IsComing ticket reply notes → IsAnswered entries ticket reply
    by onward (inl now) = record { entry = vouched.0.entry; there = vouched.0.there; under = vouched.0.under ∙ now.0; told = vouched.0.told ∙ ap (λ r. Replied r) now.1 }
    by onward (inr later) = onward later

due_at : (name : Namer) (count : ℕ) (world : WorldState) (history : List HistoryEntry) → IsLegalAfter name count world history → (place : ℕ) (reply : Reply)
    → slice_get (answers_along name world history) place ≡ Some (Replied reply) → IsDue name world history (count + suc place) reply
due_at name count world [] legal place reply e = absurd (let bad : slice_get [] place ≡ Some (Replied reply) = e in cc)
due_at name count world (entry ∷ rest) legal zero reply e = inl (omega (arith, legal.0), same_Some _ _ e)
due_at name count world (entry ∷ rest) legal (suc place) reply e =
    inr (subst (λ (n : ℕ). IsDue name (world_past name world entry.call) rest n reply) (next count place)
    (due_at name (count + 1) (world_past name world entry.call) rest legal.2 place reply e))
  where
    next : (a b : ℕ) → (a + 1) + suc b ≡ a + suc (suc b)
    next a b = omega arith

due_under : (name : Namer) (world : WorldState) (history : List HistoryEntry) → IsLegalHistory name world history → (noted : LogEntry) (reply : Reply)
    → IsRight (answers_along name world history) noted → noted.answer ≡ Replied reply → IsDue name world history noted.ticket reply
due_under name world history legal noted reply right told = by right
  where
    at : (ticket : ℕ) → under (answers_along name world history) ticket ≡ Some noted.answer → IsDue name world history ticket reply
    at zero e = absurd (let bad : None ≡ Some noted.answer = e in cc)
    at (suc place) e =
        let first : 0 + suc place ≡ suc place = omega arith in
        subst (λ (n : ℕ). IsDue name world history n reply) first (due_at name 0 world history legal place reply (e ∙ ap (λ a. Some a) told))

    by : (noted.answer ≡ Unanswered) ⊎ (under (answers_along name world history) noted.ticket ≡ Some noted.answer) → IsDue name world history noted.ticket reply
    by (inl none) = absurd (cc (none, told))
    by (inr there) = at noted.ticket there

-- ---- the opening

-- the one mirror of the opening is new
only : (world : WorldState) (id life : ℕ) (patterns : Patterns) (other : ℕ) (m : MirrorState) → (opened_with world (new_mirror id life patterns)).mirrors other ≡ Some m
    → (other ≡ id) × (new_mirror id life patterns ≡ m)
only world id life patterns other m e = by (other == id) refl e
  where
    by : (b : Bool) → (other == id) ≡ b → (if b then Some (new_mirror id life patterns) else None) ≡ Some m → (other ≡ id) × (new_mirror id life patterns ≡ m)
    by true same is = (eqb-true other id same, same_Some _ _ is)
    by false apart is = absurd (let bad : ◌≡◌ {A = Option MirrorState} None (Some m) = is in cc)

there_first : (world : WorldState) (id life : ℕ) (patterns : Patterns) → (opened_with world (new_mirror id life patterns)).mirrors id ≡ Some (new_mirror id life patterns)
there_first world id life patterns = rw (itself id) refl

fresh_opening : (name : Namer) (world : WorldState) (id life : ℕ) (patterns : Patterns) → IsWorld name world → IsFresh (opened_with world (new_mirror id life patterns))
fresh_opening name world id life patterns is =
    record {
      legal = is.legal;
      begins = is.begins;
      sent = refl;
      replies = refl;
      mirrors = λ other m e. by other m (only world id life patterns other m e);
    }
  where
    by : (other : ℕ) (m : MirrorState) → (other ≡ id) × (new_mirror id life patterns ≡ m) → m ≡ new_mirror other m.life m.patterns
    by other m both =
        subst (λ (x : MirrorState). x ≡ new_mirror other x.life x.patterns) both.1 (ap (λ i. new_mirror i life patterns) (sym both.0))

-- ---- the merge of a follower that is vouched for

module _ (logs : List CallLog) (m : MirrorState) (notes : List Note) (has : HasNotes m notes) (vouched : IsVouched logs m notes)
    (name : Namer) (world : WorldState) (history : List HistoryEntry) (is_world : IsWorld name world) (legal : IsLegalHistory name world history)
    (agree : LogsAgree name world history logs) where
  first : MirrorState
  first = new_mirror m.id m.life m.patterns

  asked : (entry : HistoryEntry) (request : Request) → Contains history entry → entry.call ≡ Ask request → is_own m.id m.life request ≡ true
      → Contains [] request ⊎ IsInTime entry.ticket request notes
  asked entry request c e own = by (in_time (entries_in logs) entry.ticket request there [] notes vouched.along (vouched.sent entry.ticket request there own))
    where
      there : IsAsked (entries_in logs) entry.ticket request
      there =
          let n = all_noted name world history logs legal agree entry c in
          record { entry = n.noted; there = among_entries logs n.log n.noted n.is_log n.in_log; under = sym n.ticket; asks = sym n.same ∙ e }

      by : Contains [] request ⊎ (IsInTime entry.ticket request notes × IsAfter [] entry.ticket) → Contains [] request ⊎ IsInTime entry.ticket request notes
      by (inl none) = inl none
      by (inr in_turn) = inr in_turn.0

  told : (ticket : ℕ) (reply : Reply) → IsComing ticket reply notes → Contains [] reply ⊎ IsDue name world history ticket reply
  told ticket reply coming =
      let a = answered (entries_in logs) [] notes vouched.along ticket reply coming in
      inr (subst (λ (t : ℕ). IsDue name world history t reply) a.under
      (due_under name world history legal a.entry reply (right_at history (answers_along name world history) [] logs agree.good a.entry a.there) a.told))

  ready : IsReady name m.id m.life (opening_of world m) (new_mirror m.id m.life m.patterns) history notes
  ready =
      record {
        at = there_first world m.id m.life m.patterns;
        alone = λ other n e. by other n (only world m.id m.life m.patterns other n e);
        own = has.own;
        legal = (0, legal);
        asked = asked;
        told = told;
      }
    where
      by : (other : ℕ) (n : MirrorState) → (other ≡ m.id) × (new_mirror m.id m.life m.patterns ≡ n) → (other ≡ m.id) × (n.life ≡ m.life)
      by other n both = (both.0, ap (λ x. x.life) (sym both.1))

  result : Merges name m.id m.life (opening_of world m) (new_mirror m.id m.life m.patterns) history notes
  result = merges name m.id m.life (opening_of world m) (new_mirror m.id m.life m.patterns) history notes ready

  at_end : (ending_of name world m history notes).mirrors m.id ≡ Some m
  at_end = result.mirror ∙ ap (λ x. Some x) has.give

  -- what holds of each mirror after each schedule holds of this one
  holds : (Holds : WorldState → MirrorState → Type 0) → OnFreshRunsWithImports (OfMirrors Holds) → Holds (replay name world history) m
  holds Holds runs =
      subst (λ (w : WorldState). Holds w m) result.world
      (runs name (opening_of world m) (merged m history notes) is_world (fresh_opening name world m.id m.life m.patterns is_world) result.schedule m.id m at_end)

  pub is_merged : IsMerged name world history m notes
  is_merged =
      record {
        schedule = result.schedule;
        replays = result.world;
        follows = at_end;
        faithful =
            record {
              covered = holds IsCovered (with_imports (OfMirrors IsCovered) covered);
              told = holds IsTold (with_imports (OfMirrors IsTold) is_told);
              at_head = holds AgreesAtHead (with_imports (OfMirrors AgreesAtHead) at_head);
              place = holds HasPlace (with_imports (OfMirrors HasPlace) places);
              values = holds HasValues (with_imports (OfMirrors HasValues) values);
            };
      }

-- ---- what the law says

pub goes_with : (logs : List CallLog) (m : MirrorState) (notes : List Note) → HasNotes m notes → IsVouched logs m notes → GoesWith logs m notes
goes_with logs m notes has vouched = is_merged logs m notes has vouched

pub on_merges : (Holds : Namer → WorldState → List HistoryEntry → MirrorState → List Note → Type 0)
    → ((name : Namer) (world : WorldState) (entries : List HistoryEntry) (m : MirrorState) (notes : List Note) → IsMerged name world entries m notes → Holds name world entries m notes)
    → OnMerges Holds
on_merges Holds means logs m notes has vouched name world entries is_world legal agree =
    means name world entries m notes (is_merged logs m notes has vouched name world entries is_world legal agree)
