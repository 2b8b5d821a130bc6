-- The floor of a world, found by walking back over its events.
use Rattle.std.proofs.Common.{◌≡◌, ℕ, ◌+◌, ◌-◌, ◌<◌, ◌≤◌, Bool, true, false, List, [], ◌∷◌, ◌++◌, length, take, drop, reverse, Option, Some, None, refl, sym, ap, subst, ◌∙◌, arith}
use Rattle.std.specs.Prelude.{if◌then◌else◌}
use Rattle.std.specs.List.{slice_index_or}
use Rattle.std.proofs.lemmas.List.{reverse-append, take-append-drop}
use Rattle.eden_journal.specs.declared.delta.Delta.{Delta}
use Rattle.eden_journal.specs.declared.run.Run.{Run}
use Rattle.eden_journal.specs.Deltas.{cost, is_one}
use Rattle.eden_journal.specs.Runs.{add_delta, alone, floor_of_runs, runs}
use Rattle.eden_journal.proofs.DeltaLemmas.{is_one-same}
use Rattle.eden_journal.proofs.Floors.{floor-ends, floor-none, floor-pays, runs-more, runs-none}
use Rattle.eden_history.specs.Worlds.{Row, Event, last_row}
use Rattle.eden_world.specs.internal.Paid.{is_paid}
use Rattle.eden_history.specs.Recorded.{delta_of, deltas, start, starts}
use Rattle.eden_history.proofs.Floors.{AreNumbered}
use Rattle.eden_history.proofs.Saying.{reverse_more}

-- the runs without the newest, where that one was paid for with a newer delta
abbrev pub unpaid : Option Delta → List Run → List Run
unpaid paid [] = []
unpaid paid (run ∷ runs) = if is_paid paid run.what then runs else run ∷ runs

skips_by : (number : ℕ) (what : Delta) (runs : List Run) → is_one what what ≡ true → unpaid (Some what) (add_delta number what runs) ≡ unpaid (Some what) runs
skips_by number what [] e = rw e refl
skips_by number what (run ∷ runs) e =
    elim (is_one what run.what) as (λ b. is_one what run.what ≡ b
    → unpaid (Some what) (if b then record run { last = number } ∷ runs else alone number what ∷ run ∷ runs) ≡ (if b then runs else run ∷ runs)) [
      | true ↦ λ one. rw one refl
      | false ↦ λ other. rw e refl
    ] refl

-- a delta that is held as one with the one paid for costs nothing
skips : (paid : Option Delta) (number : ℕ) (what : Delta) (runs : List Run) → is_paid paid what ≡ true → unpaid paid (add_delta number what runs) ≡ unpaid paid runs
skips None number what runs e = cc
skips (Some paid) number what runs e =
    let same = is_one-same paid what e in
    subst (λ d. unpaid (Some d) (add_delta number what runs) ≡ unpaid (Some d) runs) (sym same)
    (skips_by number what runs (subst (λ d. is_one d what ≡ true) same e))

-- any other one is the newest run
abbrev Adds : Option Delta → ℕ → Delta → List Run → Type 0
Adds paid number what runs = (run : Run) × (run.what ≡ what) × (run.last ≡ number) × (unpaid paid (add_delta number what runs) ≡ run ∷ unpaid (Some what) runs)

adds : (paid : Option Delta) (number : ℕ) (what : Delta) (runs : List Run) → is_paid paid what ≡ false → Adds paid number what runs
adds paid number what [] e = (alone number what, refl, refl, rw e refl)
adds paid number what (run ∷ runs) e = by (is_one what run.what) refl
  where
    by : (b : Bool) → is_one what run.what ≡ b → Adds paid number what (run ∷ runs)
    by true one =
        let same = is_one-same what run.what one in
        let other : is_paid paid run.what ≡ false = subst (λ d. is_paid paid d ≡ false) same e in
        (record run { last = number }, sym same, refl, rw (one, other) refl)
    by false other = (alone number what, refl, refl, rw (other, e) refl)

-- ---- the walk

-- the floor where the limit is this, that delta was paid for last, and the events before a place are still to come
abbrev pub floor_before : Row → List Event → ℕ → ℕ → Option Delta → ℕ
floor_before opening events place room paid =
    floor_of_runs (start opening (reverse (take place events))) room (unpaid paid (runs (start opening (reverse (take place events))) (deltas opening (reverse (take place events)))))

-- what is known of the event before a place
pub record StandsBefore (events : List Event) (place : ℕ) (event : Event) : Type 0 where
  pub low : 0 < place
  pub high : place ≤ length events
  pub event-is : event ≡ slice_index_or events (place - 1) event

pub stands_before : (events : List Event) (place : ℕ) (event : Event) → 0 < place → place ≤ length events → event ≡ slice_index_or events (place - 1) event
    → StandsBefore events place event
stands_before events place event low high is = record { low = low; high = high; event-is = is }

reverse_before : (opening : Row) (events : List Event) (place : ℕ) (event : Event) → StandsBefore events place event
    → reverse (take place events) ≡ event ∷ reverse (take (place - 1) events)
reverse_before opening events place event h =
    let low = h.low in let high = h.high in
    let n : place ≡ place - 1 + 1 = omega arith in
    ap (λ k. reverse (take k events)) n ∙ reverse_more events (place - 1) event (omega arith) h.event-is

-- the floor over some events, the newest first
abbrev floor_over : Row → List Event → ℕ → Option Delta → ℕ
floor_over opening past room paid = floor_of_runs (start opening past) room (unpaid paid (runs (start opening past) (deltas opening past)))

over_starts : (opening : Row) (past : List Event) (event : Event) (room : ℕ) (paid : Option Delta) → starts event.change ≡ true
    → floor_over opening (event ∷ past) room paid ≡ event.row.sequence
unfolding deltas
over_starts opening past event room paid e =
    ap (λ b. floor_of_runs (if b then event.row.sequence else start opening past) room
    (unpaid paid (runs (if b then event.row.sequence else start opening past) (if b then [] else delta_of (last_row opening past) event ∷ deltas opening past)))) e
    ∙ ap (λ rs. floor_of_runs event.row.sequence room (unpaid paid rs)) (runs-none event.row.sequence)
    ∙ floor-none event.row.sequence room

over_more : (opening : Row) (past : List Event) (event : Event) (room : ℕ) (paid : Option Delta) → starts event.change ≡ false
    → floor_over opening (event ∷ past) room paid
    ≡ floor_of_runs (start opening past) room
    (unpaid paid (add_delta (start opening past + length (deltas opening past) + 1) (delta_of (last_row opening past) event) (runs (start opening past) (deltas opening past))))
unfolding deltas
over_more opening past event room paid e =
    ap (λ b. floor_of_runs (if b then event.row.sequence else start opening past) room
    (unpaid paid (runs (if b then event.row.sequence else start opening past) (if b then [] else delta_of (last_row opening past) event ∷ deltas opening past)))) e
    ∙ ap (λ rs. floor_of_runs (start opening past) room (unpaid paid rs)) (runs-more (start opening past) (delta_of (last_row opening past) event) (deltas opening past))

before_is : (opening : Row) (events : List Event) (place : ℕ) (event : Event) (room : ℕ) (paid : Option Delta) → StandsBefore events place event
    → floor_before opening events place room paid ≡ floor_over opening (event ∷ reverse (take (place - 1) events)) room paid
before_is opening events place event room paid h = ap (λ past. floor_over opening past room paid) (reverse_before opening events place event h)

pub walk_starts : (opening : Row) (events : List Event) (place room : ℕ) (paid : Option Delta) (event : Event) → StandsBefore events place event
    → starts event.change ≡ true → event.row.sequence ≡ floor_before opening events place room paid
walk_starts opening events place room paid event h e =
    sym (before_is opening events place event room paid h ∙ over_starts opening (reverse (take (place - 1) events)) event room paid e)

-- the delta of the event before a place
abbrev pub IsDelta : Row → List Event → ℕ → Event → Delta → Type 0
IsDelta opening events place event delta = delta ≡ delta_of (last_row opening (reverse (take (place - 1) events))) event

pub walk_skips : (opening : Row) (events : List Event) (place room : ℕ) (paid : Option Delta) (event : Event) (delta : Delta) → StandsBefore events place event
    → starts event.change ≡ false → IsDelta opening events place event delta → is_paid paid delta ≡ true
    → floor_before opening events (place - 1) room paid ≡ floor_before opening events place room paid
walk_skips opening events place room paid event delta h e is one =
    sym (before_is opening events place event room paid h ∙ over_more opening (reverse (take (place - 1) events)) event room paid e
    ∙ ap (λ d. floor_of_runs (start opening (reverse (take (place - 1) events))) room (unpaid paid (add_delta (start opening (reverse (take (place - 1) events)) + length (deltas opening (reverse (take (place - 1) events))) + 1) d (runs (start opening (reverse (take (place - 1) events))) (deltas opening (reverse (take (place - 1) events))))))) (sym is)
    ∙ ap (floor_of_runs (start opening (reverse (take (place - 1) events))) room) (skips paid _ delta _ one))

adds_before : (opening : Row) (events : List Event) (place room : ℕ) (paid : Option Delta) (event : Event) (delta : Delta) → StandsBefore events place event
    → starts event.change ≡ false → IsDelta opening events place event delta → is_paid paid delta ≡ false
    → (run : Run) × (run.what ≡ delta) × (run.last ≡ start opening (reverse (take (place - 1) events)) + length (deltas opening (reverse (take (place - 1) events))) + 1)
    × (floor_before opening events place room paid
    ≡ floor_of_runs (start opening (reverse (take (place - 1) events))) room (run ∷ unpaid (Some delta) (runs (start opening (reverse (take (place - 1) events))) (deltas opening (reverse (take (place - 1) events))))))
adds_before opening events place room paid event delta h e is other =
    let past : List Event = reverse (take (place - 1) events) in
    let one = adds paid (start opening (reverse (take (place - 1) events)) + length (deltas opening (reverse (take (place - 1) events))) + 1) delta (runs (start opening (reverse (take (place - 1) events))) (deltas opening (reverse (take (place - 1) events)))) other in (
      one.0,
      one.1,
      one.2,
      before_is opening events place event room paid h ∙ over_more opening (reverse (take (place - 1) events)) event room paid e
          ∙ ap (λ d. floor_of_runs (start opening (reverse (take (place - 1) events))) room (unpaid paid (add_delta (start opening (reverse (take (place - 1) events)) + length (deltas opening (reverse (take (place - 1) events))) + 1) d (runs (start opening (reverse (take (place - 1) events))) (deltas opening (reverse (take (place - 1) events))))))) (sym is)
          ∙ ap (floor_of_runs (start opening (reverse (take (place - 1) events))) room) one.3,
    )

pub walk_pays : (opening : Row) (events : List Event) (place room : ℕ) (paid : Option Delta) (event : Event) (delta : Delta) → StandsBefore events place event
    → starts event.change ≡ false → IsDelta opening events place event delta → is_paid paid delta ≡ false → cost delta ≤ room
    → floor_before opening events (place - 1) (room - cost delta) (Some delta) ≡ floor_before opening events place room paid
walk_pays opening events place room paid event delta h e is other afford =
    let one = adds_before opening events place room paid event delta h e is other in
    let same : cost one.0.what ≡ cost delta = ap cost one.1 in
    sym (one.3 ∙ floor-pays _ room one.0 _ (subst (λ n. n ≤ room) (sym same) afford)
    ∙ ap (λ n. floor_of_runs (start opening (reverse (take (place - 1) events))) (room - n) (unpaid (Some delta) (runs (start opening (reverse (take (place - 1) events))) (deltas opening (reverse (take (place - 1) events)))))) same)

later_numbered : (opening : Row) (newer past : List Event) → AreNumbered opening (newer ++ past) → AreNumbered opening past
later_numbered opening [] past h = h
later_numbered opening (event ∷ newer) past h = later_numbered opening newer past h.1

numbers_at : (opening : Row) (events : List Event) (place : ℕ) (event : Event) → StandsBefore events place event
    → AreNumbered opening (reverse events) → AreNumbered opening (event ∷ reverse (take (place - 1) events))
numbers_at opening events place event h numbers =
    subst (AreNumbered opening) (reverse_before opening events place event h)
    (later_numbered opening (reverse (drop place events)) (reverse (take place events))
    (subst (AreNumbered opening) (ap reverse (sym (take-append-drop place events)) ∙ reverse-append (take place events) (drop place events)) numbers))

pub walk_ends : (opening : Row) (events : List Event) (place room : ℕ) (paid : Option Delta) (event : Event) (delta : Delta) → StandsBefore events place event
    → AreNumbered opening (reverse events) → starts event.change ≡ false → IsDelta opening events place event delta → is_paid paid delta ≡ false → room < cost delta
    → event.row.sequence ≡ floor_before opening events place room paid
walk_ends opening events place room paid event delta h numbers e is other dear =
    let one = adds_before opening events place room paid event delta h e is other in
    let same : cost one.0.what ≡ cost delta = ap cost one.1 in
    sym (one.3 ∙ floor-ends _ room one.0 _ (subst (λ n. room < n) (sym same) dear) ∙ one.2
    ∙ sym ((numbers_at opening events place event h numbers).0 e))

pub walk_over : (opening : Row) (events : List Event) (place room : ℕ) (paid : Option Delta) → place ≡ 0 → opening.sequence ≡ floor_before opening events place room paid
unfolding deltas
walk_over opening events place room paid none =
    sym (ap (λ k. floor_before opening events k room paid) none
    ∙ ap (λ past. floor_over opening (reverse past) room paid) (take-zero events)
    ∙ ap (λ rs. floor_of_runs opening.sequence room (unpaid paid rs)) (runs-none opening.sequence)
    ∙ floor-none opening.sequence room)
  where
    take-zero : (xs : List Event) → take 0 xs ≡ []
    take-zero [] = refl
    take-zero (x ∷ xs) = refl
