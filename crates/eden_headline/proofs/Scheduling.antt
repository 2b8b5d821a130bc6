-- Every schedule from a fresh beginning keeps what is kept of the world, of all replies and of each mirror, and what that means at its end.
use Rattle.std.proofs.Common.{◌≡◌, ℕ, ◌<◌, ◌≤◌, ◌⊎◌, inl, inr, Bool, true, false, ◌&&◌, ◌||◌, nat_lt, List, [], ◌∷◌, ◌++◌, length, Option, Some, None, refl, sym, ap, subst, ◌∙◌, arith}
use Rattle.std.specs.Prelude.{Contains, IsSome, ◌==◌, if◌then◌else◌}
use Rattle.std.specs.Option.{option_map}
use Rattle.std.proofs.lemmas.Bool.{eqb-true, or_from}
use Rattle.std.proofs.lemmas.List.Elements.{Contains-append_cases, Contains-push_cases}
use Rattle.std.proofs.lemmas.Option.{same_Some}
use Rattle.eden_ids.specs.declared.content.Content.{Content}
use Rattle.eden_ids.specs.FileMaps.{file_at, has, path_set}
use Rattle.eden_ids.proofs.FileMapLemmas.{has-none}
use Rattle.eden_globs.specs.Filters.{Patterns, admits}
use Rattle.eden_objects.specs.Commits.{commit_map}
use Rattle.eden_objects.specs.Objects.{Held}
use Rattle.eden_history.specs.declared.change.Change.{Change}
use Rattle.eden_messages.specs.declared.message.Cause.TheVariants.{TooLarge}
use Rattle.eden_messages.specs.declared.message.Query.{Query}
use Rattle.eden_messages.specs.declared.message.Reply.{Reply}
use Rattle.eden_messages.specs.declared.message.Reply.TheVariants.{ChangesAre, Refused}
use Rattle.eden_messages.specs.declared.message.Request.{Request}
use Rattle.eden_messages.specs.declared.message.Request.TheVariants.{List as Below}
use Rattle.eden_history.specs.declared.position.Position.{Position}
use Rattle.eden_history.specs.Worlds.{WorldState, commits_of, now, position_of}
use Rattle.eden_history.specs.Said.{paths_said}
use Rattle.eden_history.specs.Changes.{below_any, is_among, named_since, prefixes_since, prefixes_told}
use Rattle.eden_headline.specs.Headline.{AgreeTogether, AgreesAtHead, Differs, HasPlace, HasValues, IsCovered, IsRefused, IsTold, OfMirrors, OfPairs, Tells, changes_after, prefixes_after}
use Rattle.eden_history.specs.Legal.{IsLegal}
use Rattle.eden_history.specs.Marks.{marked_since}
use Rattle.eden_messages.specs.Mirrors.{MirrorState, Round, begun, delivered, new_mirror, outstanding_of, query_of, refiltered, requests_in}
use Rattle.eden_messages.specs.Mirrors.Round.{Idle, Asked, Gathering}
use Rattle.eden_history.specs.Imports.{over_held}
use Rattle.eden_history.specs.Outcome.{row_after}
use Rattle.eden_history.specs.Recorded.{floor_of}
use Rattle.eden_history.specs.Marks.{admitted}
use Rattle.eden_messages.specs.Replies.{bounded, polled, reply_of}
use Rattle.eden_history.specs.Rows.{Stands}
use Rattle.eden_headline.specs.Schedules.{CommitsStay, IsFresh, IsSchedule, IsStrange, MayHappen, Mirrors, OnFreshRuns, Scene, Step, asked_by, happens, moved, run_schedule}
use Rattle.eden_headline.specs.Schedules.Step.{Begins, Changes, Comes, Grows, Nothing, Refilters, Restarts, Sends, Serves, Strange}
use Rattle.eden_messages.specs.Spells.{reply_bytes}
use Rattle.eden_stream.specs.Frames.{body_limit}
use Rattle.eden_history.specs.Status.{status_of}
use Rattle.eden_logs.proofs.Covered.{here, nowhere}
use Rattle.eden_history.proofs.Following.{IsNotAfter, none_said}
use Rattle.eden_history.proofs.Growing.{made_still, row_goes_on, there_still}
use Rattle.eden_history.proofs.Kept.{below_listed, none_moved, still}
use Rattle.eden_headline.proofs.Keeping.{GoesOn, on_grown, on_over, on_same, place_in_time}
use Rattle.eden_headline.proofs.Mirroring.{IsGoodRound, IsOwn, IsSound, idle, own_by, own_patterns, own_query, own_request, sound_begun, sound_delivered, sound_new, sound_refiltered}
use Rattle.eden_headline.proofs.Telling.{IsTrueOf, StaysOn, among_changes, by_status, reply_true, stays_grown, stays_over, true_of_more, true_on}

-- ---- what holds of all

-- the opening root is a commit that is there
abbrev IsRooted : WorldState → Type 0
IsRooted world = IsSome (commits_of world world.opening.root)

pub record HoldsAll (s : Scene) : Type 0 where
  pub legal : IsLegal s.world
  pub begins : IsRooted s.world
  pub honest : (reply : Reply) → Contains s.replies reply → IsTrueOf s.world s.sent reply
  pub sound : (id : ℕ) (m : MirrorState) → s.mirrors id ≡ Some m → IsSound s.world s.sent id m

nothing_in : {X : Type 0} (xs : List X) (x : X) → xs ≡ [] → Contains xs x → ⊥
nothing_in xs x none there = nowhere x (rw none at there)

all_fresh : (s : Scene) → IsFresh s → HoldsAll s
all_fresh s fresh =
    record {
      legal = fresh.legal;
      begins = fresh.begins;
      honest = λ reply there. absurd (nothing_in s.replies reply fresh.replies there);
      sound = λ id m e. subst (IsSound s.world s.sent id) (sym (fresh.mirrors id m e))
          (sound_new s.world s.sent id m.life m.patterns (λ request there mirror life. nothing_in s.sent request fresh.sent there));
    }

-- ---- one mirror moves

-- where one mirror moves, what holds of its new state and of the others' holds of all
pub all_moved : (Holds : ℕ → MirrorState → Type 0) (mirrors : Mirrors) (id : ℕ) (move : MirrorState → MirrorState)
    → ((m : MirrorState) → mirrors id ≡ Some m → Holds id (move m)) → ((other : ℕ) (m : MirrorState) → mirrors other ≡ Some m → Holds other m)
    → (other : ℕ) (m : MirrorState) → moved mirrors id move other ≡ Some m → Holds other m
all_moved Holds mirrors id move new old other m e = by (other == id) refl e
  where
    there : (found : Option MirrorState) → mirrors other ≡ found → other ≡ id → option_map move found ≡ Some m → Holds other m
    there None at same is = absurd (let bad : ◌≡◌ {A = Option MirrorState} None (Some m) = is in cc)
    there (Some n) at same is =
        subst (Holds other) (same_Some _ _ is) (subst (λ i. Holds i (move n)) (sym same) (new n (ap mirrors (sym same) ∙ at)))

    by : (b : Bool) → (other == id) ≡ b → (if b then option_map move (mirrors other) else mirrors other) ≡ Some m → Holds other m
    by true same is = there (mirrors other) refl (eqb-true other id same) is
    by false apart is = old other m is

-- ---- more is sent

-- a mirror stays sound where what is sent besides is under another's query, or what it asks itself
more_sent : (world : WorldState) (sent more : List Request) (id : ℕ) (m : MirrorState)
    → ((request : Request) → Contains more request → IsOwn m request → ((query_of request).number ≤ m.last) × Contains (outstanding_of m) request)
    → IsSound world sent id m → IsSound world (sent ++ more) id m
unfolding outstanding_of
more_sent world sent more id m own is =
    record { name = (is.name.0, λ request there mine. by request mine (Contains-append_cases sent more request there)); kept = is.kept; round = in_round m.round refl is.round }
  where
    by : (request : Request) → IsOwn m request → Contains sent request ⊎ Contains more request → (query_of request).number ≤ m.last
    by request mine (inl old) = is.name.1 request old mine
    by request mine (inr new) = (own request new mine).0

    in_round : (round : Round) → m.round ≡ round → IsGoodRound world sent (idle m) round → IsGoodRound world (sent ++ more) (idle m) round
    in_round Idle at good = tt
    in_round (Asked request) at good =
        record { asks = good.asks; alone = λ other there same. asked other same (Contains-append_cases sent more other there) }
      where
        asked : (other : Request) → query_of other ≡ query_of request → Contains sent other ⊎ Contains more other → other ≡ request
        asked other same (inl old) = good.alone other old same
        asked other same (inr new) =
            let mine = (own other new (own_by m other m.last (same ∙ own_query world sent m request (Asked request) good (here request [])))).1 in
            own_request m.patterns request other (subst (λ r. Contains (requests_in m.patterns r) other) at mine)
    in_round (Gathering query target awaited prefixes) at good =
        (good.0, λ prefix patterns there. listed prefix patterns (Contains-append_cases sent more (Below query prefix patterns) there))
      where
        listed : (prefix : List ℕ) (patterns : Patterns) → Contains sent (Below query prefix patterns) ⊎ Contains more (Below query prefix patterns) → patterns ≡ m.patterns
        listed prefix patterns (inl old) = good.1 prefix patterns old
        listed prefix patterns (inr new) =
            let mine = (own (Below query prefix patterns) new (own_by m (Below query prefix patterns) m.last good.0.asks)).1 in
            own_patterns m.patterns query target awaited prefixes query prefix patterns (subst (λ r. Contains (requests_in m.patterns r) (Below query prefix patterns)) at mine)

-- ---- each step

-- the next world is legal and begins too, and what was there is still true
record IsNext (world next : WorldState) : Type 0 where
  legal : IsLegal next
  begins : IsRooted next
  on : GoesOn world next
  stays : StaysOn world next

changed : (world : WorldState) (change : Change) → IsLegal world → IsRooted world → IsNext world (row_after world change)
changed world change legal begins =
    row_goes_on (IsNext world) world change
    (record { legal = legal; begins = begins; on = on_same world; stays = λ since target p file place same stays. stays })
    (λ event made. record { legal = (legal.0, (made, legal.1)); begins = begins; on = on_grown world event; stays = stays_grown world event legal made })

has_more : (world : WorldState) (held : List Held) → IsLegal world → IsRooted world → CommitsStay world.held held → IsNext world (over_held world held)
has_more world held legal begins stay =
    record {
      legal = (legal.0, made_still (commits_of world) (commit_map held) stay world.opening world.past begins legal.1);
      begins = there_still (commits_of world) (commit_map held) stay world.opening.root begins;
      on = on_over world held;
      stays = stays_over world held;
    }

all_next : (s : Scene) (next : WorldState) → IsNext s.world next → HoldsAll s → HoldsAll (record s { world = next })
all_next s next step is =
    record {
      legal = step.legal;
      begins = step.begins;
      honest = λ reply there. true_on s.world next s.sent step.on step.stays reply (is.honest reply there);
      sound = λ id m e. sound_on id m (is.sound id m e);
    }
  where
    in_round : (m : MirrorState) (round : Round) → IsGoodRound s.world s.sent m round → IsGoodRound next s.sent m round
    in_round m Idle good = tt
    in_round m (Asked request) good = good
    in_round m (Gathering query target awaited prefixes) (good, lists) = (
      record {
        asks = good.asks;
        reached = step.on.place target good.reached;
        outside = good.outside;
        gathered = λ p wanted none outside. step.on.stands target.generation target.sequence p (file_at m.files p) (good.gathered p wanted none outside);
        later = good.later;
      },
      lists,
    )

    sound_on : (id : ℕ) (m : MirrorState) → IsSound s.world s.sent id m → IsSound next s.sent id m
    sound_on id m sound =
        record {
          name = sound.name;
          kept =
              record {
                outside = sound.kept.outside;
                placed = λ place e. step.on.place place (sound.kept.placed place e);
                values = λ place p e wanted. step.on.stands place.generation place.sequence p (file_at m.files p) (sound.kept.values place p e wanted);
              };
          round = in_round (idle m) m.round sound.round;
        }

all_sent : (s : Scene) (more : List Request)
    → ((id : ℕ) (m : MirrorState) → s.mirrors id ≡ Some m → (request : Request) → Contains more request → IsOwn m request
    → ((query_of request).number ≤ m.last) × Contains (outstanding_of m) request)
    → HoldsAll s → HoldsAll (record s { sent = s.sent ++ more })
all_sent s more own is =
    record {
      legal = is.legal;
      begins = is.begins;
      honest = λ reply there. true_of_more s.world s.sent more reply (is.honest reply there);
      sound = λ id m e. more_sent s.world s.sent more id m (own id m e) (is.sound id m e);
    }

-- what a mirror sends is its own, and no other mirror's
own_sent : (s : Scene) (id : ℕ) → HoldsAll s → (found : Option MirrorState) → s.mirrors id ≡ found → (other : ℕ) (m : MirrorState) → s.mirrors other ≡ Some m
    → (request : Request) → Contains (asked_by found) request → IsOwn m request → ((query_of request).number ≤ m.last) × Contains (outstanding_of m) request
unfolding outstanding_of
own_sent s id is None at other m e request there mine = absurd (nothing_in [] request refl there)
own_sent s id is (Some n) at other m e request there mine =
    let query = own_query s.world s.sent n request n.round (is.sound id n at).round there in
    let same : id ≡ other = sym (is.sound id n at).name.0 ∙ sym (ap (λ q. q.mirror) query) ∙ mine.0 ∙ (is.sound other m e).name.0 in
    let one : n ≡ m = same_Some n m (sym at ∙ ap s.mirrors same ∙ e) in
    (subst (λ x. (query_of request).number ≤ x.last) one (number (ap (λ q. q.number) query)), subst (λ x. Contains (outstanding_of x) request) one there)
  where
    number : (query_of request).number ≡ n.last → (query_of request).number ≤ n.last
    number e = omega arith

strange_sent : (s : Scene) (request : Request) → IsStrange s request → HoldsAll s → HoldsAll (record s { sent = s.sent ++ request ∷ [] })
strange_sent s request strange is =
    all_sent s (request ∷ []) (λ id m e other there mine. absurd (not_own id m e (subst (IsOwn m) (own_request m.patterns request other there) mine))) is
  where
    not_own : (id : ℕ) (m : MirrorState) → s.mirrors id ≡ Some m → IsOwn m request → ⊥
    not_own id m e own = strange m (ap s.mirrors (own.0 ∙ (is.sound id m e).name.0) ∙ e) (sym own.1)

all_with : (s : Scene) (id : ℕ) (move : MirrorState → MirrorState) → ((m : MirrorState) → s.mirrors id ≡ Some m → IsSound s.world s.sent id (move m))
    → HoldsAll s → HoldsAll (record s { mirrors = moved s.mirrors id move })
all_with s id move new is =
    record { legal = is.legal; begins = is.begins; honest = is.honest; sound = all_moved (IsSound s.world s.sent) s.mirrors id move new is.sound }

all_happens : (s : Scene) (step : Step) → MayHappen s step → HoldsAll s → HoldsAll (happens s step)
unfolding happens
all_happens s (Changes change) may is = all_next s (row_after s.world change) (changed s.world change is.legal is.begins) is
all_happens s (Grows held) may is = all_next s (over_held s.world held) (has_more s.world held is.legal is.begins may) is
all_happens s (Begins id) may is = all_with s id begun (λ m e. sound_begun s.world s.sent id m (is.sound id m e)) is
all_happens s (Sends id) may is = all_sent s (asked_by (s.mirrors id)) (own_sent s id is (s.mirrors id) refl) is
all_happens s (Serves request) may is =
    record {
      legal = is.legal;
      begins = is.begins;
      honest = λ reply there. by reply (Contains-push_cases s.replies (reply_of s.world request) reply there);
      sound = is.sound;
    }
  where
    by : (reply : Reply) → Contains s.replies reply ⊎ (reply_of s.world request ≡ reply) → IsTrueOf s.world s.sent reply
    by reply (inl old) = is.honest reply old
    by reply (inr new) = subst (IsTrueOf s.world s.sent) new (reply_true s.world s.sent request is.legal may)
all_happens s (Comes reply id) may is =
    all_with s id (λ m. (delivered m reply).0) (λ m e. sound_delivered s.world s.sent id m reply (is.sound id m e) (is.honest reply may)) is
all_happens s (Refilters id patterns) may is =
    all_with s id (λ m. refiltered m patterns) (λ m e. sound_refiltered s.world s.sent id m patterns (is.sound id m e)) is
all_happens s (Restarts id life patterns) may is =
    all_with s id (λ m. new_mirror m.id life patterns)
    (λ m e. subst (λ i. IsSound s.world s.sent id (new_mirror i life patterns)) (sym (is.sound id m e).name.0)
    (sound_new s.world s.sent id life patterns (λ request there mirror same. may.unused request there mirror same))) is
all_happens s (Strange request) may is = strange_sent s request may is
all_happens s Nothing may is = is

all_run : (s : Scene) (steps : List Step) → IsSchedule s steps → HoldsAll s → HoldsAll (run_schedule s steps)
all_run s [] may is = is
all_run s (step ∷ steps) may is = all_run (happens s step) steps may.1 (all_happens s step may.0 is)

-- ---- what it means at the end

-- where the path is not among the changes since a place of the present generation, what a mirror holds there is what the working copy does
stood : (world : WorldState) (place : Position) (p : List ℕ) (file : Option Content) → IsLegal world → place.generation ≡ (now world).generation
    → is_among (changes_after world place) (prefixes_after world place) p ≡ false → Stands world place.generation place.sequence p file
    → file ≡ file_at (now world).files p
stood world place p file legal same none is =
    sym is.value
    ∙ still (commits_of world) place.generation place.sequence (now world).sequence world.opening world.past is.row p legal.1 is.is_row is.alike is.after (sym same) (omega arith) none

differs_among : (world : WorldState) (sent : List Request) (id : ℕ) (m : MirrorState) (place : Position) (p : List ℕ) → IsLegal world → IsSound world sent id m → m.place ≡ Some place
    → Differs world m p → place.generation ≡ (now world).generation → is_among (changes_after world place) (prefixes_after world place) p ≡ true
differs_among world sent id m place p legal sound at differs same = by (is_among (changes_after world place) (prefixes_after world place) p) refl
  where
    by : (b : Bool) → is_among (changes_after world place) (prefixes_after world place) p ≡ b → b ≡ true
    by true e = refl
    by false e = absurd (differs.apart (stood world place p (file_at m.files p) legal same e (sound.kept.values place p at differs.wanted)))

never_ahead : (world : WorldState) (sent : List Request) (id : ℕ) (m : MirrorState) (place : Position) → IsLegal world → IsSound world sent id m → m.place ≡ Some place
    → place.generation ≡ (now world).generation → place.sequence ≤ (now world).sequence
never_ahead world sent id m place legal sound at same = by (place_in_time world place legal (sound.kept.placed place at))
  where
    by : (place.generation < (now world).generation) ⊎ ((place.generation ≡ (now world).generation) × (place.sequence ≤ (now world).sequence))
        → place.sequence ≤ (now world).sequence
    by (inl lt) = absurd (omega arith)
    by (inr both) = both.1

pub covered : (s : Scene) → HoldsAll s → OfMirrors IsCovered s
covered s is id m e place p at differs =
    by_status (λ fault. status_of s.world place ≡ fault → (is_among (changes_after s.world place) (prefixes_after s.world place) p ≡ true) ⊎ IsRefused s.world place)
    (now s.world).generation (now s.world).sequence (floor_of s.world) place
    (λ apart found. inr (inl found)) (λ same late found. inl (among same)) (λ same before found. inl (among same)) (λ same before found. inl (among same)) refl
  where
    among : place.generation ≡ (now s.world).generation → is_among (changes_after s.world place) (prefixes_after s.world place) p ≡ true
    among = differs_among s.world s.sent id m place p is.legal (is.sound id m e) at differs

bounded_tells : (query : Query) (reply : Reply) (p : List ℕ) → Tells reply p → Tells (bounded query reply) p
unfolding bounded
bounded_tells query reply p tells = by (nat_lt body_limit (length (reply_bytes reply)))
  where
    by : (b : Bool) → Tells (if b then Refused query TooLarge else reply) p
    by true = tt
    by false = tells

-- a path that a mirror wants and that is among the changes since its place is in the reply to a poll
poll_tells : (world : WorldState) (place : Position) (patterns : Patterns) (query : Query) (p : List ℕ) → place.generation ≡ (now world).generation → admits patterns p ≡ true
    → is_among (changes_after world place) (prefixes_after world place) p ≡ true
    → Tells (ChangesAre query (position_of (now world)) (admitted patterns (marked_since world place.sequence)) (prefixes_since world place.sequence)) p
poll_tells world place patterns query p same wanted among =
    ap (λ b. b || below_any (prefixes_since world place.sequence) p)
    (among_changes world place.sequence patterns p ∙ ap (λ b. b && has (named_since (now world).generation place.sequence (now world).sequence world.opening world.past) p) wanted)
    ∙ either _ _ _ (below_listed p (prefixes_told (now world).generation place.sequence (now world).sequence world.past))
    (ap (λ g. is_among (named_since g place.sequence (now world).sequence world.opening world.past) (prefixes_told g place.sequence (now world).sequence world.past) p) (sym same) ∙ among)
  where
    either : (a b c : Bool) → (c ≡ false → b ≡ false) → (a || b) ≡ true → (a || c) ≡ true
    either true b c within e = refl
    either false b true within e = refl
    either false b false within e = sym (within refl) ∙ e

pub told : (s : Scene) → HoldsAll s → OfMirrors IsTold s
told s is id m e place p query at differs =
    by_status (λ fault. Tells (polled s.world query place.sequence m.patterns fault) p) (now s.world).generation (now s.world).sequence (floor_of s.world) place
    (λ apart. tt) (λ same late. absurd (let low = never_ahead s.world s.sent id m place is.legal (is.sound id m e) at same in omega arith)) (λ same before. tt)
    (λ same before.
    bounded_tells query (ChangesAre query (position_of (now s.world)) (admitted m.patterns (marked_since s.world place.sequence)) (prefixes_since s.world place.sequence)) p
    (poll_tells s.world place m.patterns query p same differs.wanted
    (differs_among s.world s.sent id m place p is.legal (is.sound id m e) at differs same)))

pub at_head : (s : Scene) → HoldsAll s → OfMirrors AgreesAtHead s
at_head s is id m e place at head p = by (admits m.patterns p) refl
  where
    late : IsNotAfter place.generation place.sequence (now s.world)
    late = inr (sym head.generation, let last = head.sequence in omega arith)

    none : is_among (changes_after s.world place) (prefixes_after s.world place) p ≡ false
    none =
        or_from _ _
        (ap (λ list. has (path_set (paths_said list)) p)
        (none_said (commits_of s.world) place.generation place.sequence (now s.world).sequence s.world.opening s.world.past is.legal.1 late)
        ∙ has-none p)
        (ap (λ prefixes. below_any prefixes p)
        (none_moved (commits_of s.world) place.generation place.sequence (now s.world).sequence s.world.opening s.world.past is.legal.1 late))

    by : (b : Bool) → admits m.patterns p ≡ b → file_at m.files p ≡ (if b then file_at (now s.world).files p else None)
    by true wanted = stood s.world place p (file_at m.files p) is.legal head.generation none ((is.sound id m e).kept.values place p at wanted)
    by false out = (is.sound id m e).kept.outside p out

pub together : (s : Scene) → HoldsAll s → OfPairs AgreeTogether s
together s is id other m n e f here there at_m at_n head_m head_n p wanted_m wanted_n =
    (at_head s is id m e here at_m head_m p ∙ ap (λ b. if b then file_at (now s.world).files p else None) wanted_m)
    ∙ sym (at_head s is other n f there at_n head_n p ∙ ap (λ b. if b then file_at (now s.world).files p else None) wanted_n)

pub places : (s : Scene) → HoldsAll s → OfMirrors HasPlace s
places s is id m e place at =
    record {
      is_place = (is.sound id m e).kept.placed place at;
      in_time = never_ahead s.world s.sent id m place is.legal (is.sound id m e) at;
    }

pub values : (s : Scene) → HoldsAll s → OfMirrors HasValues s
values s is id m e place p at wanted = (is.sound id m e).kept.values place p at wanted

-- ---- after every schedule

pub after_all : (Holds : Scene → Type 0) → ((s : Scene) → HoldsAll s → Holds s) → OnFreshRuns Holds
after_all Holds means s steps fresh may = means (run_schedule s steps) (all_run s steps may (all_fresh s fresh))
