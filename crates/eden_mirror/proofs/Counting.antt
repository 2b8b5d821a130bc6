-- A round counts down to its place.
use Rattle.std.proofs.Common.{◌≡◌, ℕ, suc, ◌+◌, Bool, true, false, ◌&&◌, ◌||◌, ◌⊎◌, inl, inr, List, [], ◌∷◌, ◌++◌, length, drop, Option, refl, sym, ap, subst, ◌∙◌, arith, if◌then◌else◌}
use Rattle.std.proofs.Math.Seq.{drop-append_seam}
use Rattle.std.proofs.lemmas.Bool.{and_parts, or_parts}
use Rattle.std.proofs.lemmas.List.{length-append}
use Rattle.eden_ids.specs.FileMaps.{put_option}
use Rattle.eden_ids.specs.declared.content.Content.{Content}
use Rattle.eden_history.specs.declared.position.Position.{Position}
use Rattle.eden_messages.specs.declared.message.Query.{Query}
use Rattle.eden_messages.specs.declared.message.Reply.{Reply}
use Rattle.eden_messages.specs.declared.message.Reply.TheVariants.{ContentIs, Refused, ListIs}
use Rattle.eden_messages.specs.declared.outcome.Outcome.{Outcome}
use Rattle.eden_messages.specs.declared.outcome.Outcome.TheVariants.{Taken, Ended, Ignored}
use Rattle.eden_messages.specs.Mirrors.{MirrorState, Round, counts, delivered, delivered_in, distinct, ends_round, fetched, gathers, is_among, listed_below, listed_files, same_query, taken_if, without}
use Rattle.eden_messages.specs.Mirrors.Round.{Idle, Asked, Gathering}
use Rattle.eden_mirror.specs.Counting.{added, added_in, after, awaited_in, content_counts, counted, counts_in, ends_in, is_gathering, left_in, list_counts, outcome_at, outcome_where, paths_listed, prefixes_in, ContentsCountDown, ListsCountDown, IgnoresOthers, PlacesWithNoneLeft}
use Rattle.eden_mirror.specs.internal.Pending.{AreDistinct}
use Rattle.eden_mirror.proofs.Pending.{begins, distinct_distinct, distinct_without, length-without}

-- what is awaited in the round is distinct
pub record IsDistinctRound (round : Round) : Type 0 where
  pub paths : AreDistinct (awaited_in round)
  pub directories : AreDistinct (prefixes_in round)

-- ---- what is left

-- these paths and directories are left, and the mirror is placed where there is none of either
record Leaves (paths prefixes : List (List ℕ)) (made : MirrorState × Outcome) : Type 0 where
  paths_left : awaited_in made.0.round ≡ paths
  directories_left : prefixes_in made.0.round ≡ prefixes
  told : made.1 ≡ outcome_where (left_in made.0.round)
  under : (made.0.round ≡ Idle) ⊎ (is_gathering made.0.round ≡ true)

taken_with : (a b : ℕ) → Taken ≡ outcome_where (suc a + b)
taken_with a b = grind arith

taken_behind : (b : ℕ) → Taken ≡ outcome_where (0 + suc b)
taken_behind b = grind arith

leaves : (m : MirrorState) (query : Query) (target : Position) (paths prefixes : List (List ℕ)) → Leaves paths prefixes (gathers m query target paths prefixes)
leaves m query target [] [] = record { paths_left = refl; directories_left = refl; told = refl; under = inl refl }
leaves m query target [] (prefix ∷ prefixes) = record { paths_left = refl; directories_left = refl; told = taken_behind (length prefixes); under = inr refl }
leaves m query target (path ∷ paths) prefixes = record { paths_left = refl; directories_left = refl; told = taken_with (length paths) (length prefixes); under = inr refl }

-- ---- a reply that counts

awaited_of : (asked : Query) (target : Position) (awaited : List (List ℕ)) (query : Query) (position : Position) (path : List ℕ)
    → counts asked target awaited query position path ≡ true → is_among path awaited ≡ true
awaited_of asked target awaited query position path e = (and_parts _ _ e).1

-- a content leaves its path out
record Fetched (round : Round) (made : MirrorState × Outcome) : Type 0 where
  path : List ℕ
  was : is_among path (awaited_in round) ≡ true
  left : Leaves (without path (awaited_in round)) (prefixes_in round) made

-- a list leaves its directory out, and its paths are left too
record Listed (round : Round) (reply : Reply) (made : MirrorState × Outcome) : Type 0 where
  prefix : List ℕ
  was : is_among prefix (prefixes_in round) ≡ true
  left : Leaves (distinct (awaited_in round ++ paths_listed reply)) (without prefix (prefixes_in round)) made

content_taken : (m : MirrorState) (asked : Query) (target : Position) (awaited prefixes : List (List ℕ)) (query : Query) (position : Position) (path : List ℕ) (content : Option Content)
    → counts asked target awaited query position path ≡ true
    → Leaves (without path awaited) prefixes (taken_if (counts asked target awaited query position path) m (fetched m asked target awaited prefixes path content))
content_taken m asked target awaited prefixes query position path content e =
    subst (λ b. Leaves (without path awaited) prefixes (taken_if b m (fetched m asked target awaited prefixes path content))) (sym e)
    (leaves (record m { files = put_option m.files path content }) asked target (without path awaited) prefixes)

list_taken : (m : MirrorState) (asked : Query) (target : Position) (awaited prefixes : List (List ℕ)) (query : Query) (position : Position) (prefix : List ℕ) (paths : List (List ℕ))
    → counts asked target prefixes query position prefix ≡ true
    → Leaves (distinct (awaited ++ paths)) (without prefix prefixes) (taken_if (counts asked target prefixes query position prefix) m (listed_below m asked target awaited prefixes prefix paths))
list_taken m asked target awaited prefixes query position prefix paths e =
    subst (λ b. Leaves (distinct (awaited ++ paths)) (without prefix prefixes) (taken_if b m (listed_below m asked target awaited prefixes prefix paths))) (sym e)
    (leaves (record m { files = listed_files m.files prefix paths }) asked target (distinct (awaited ++ paths)) (without prefix prefixes))

round_fetched : (m : MirrorState) (round : Round) (reply : Reply) → content_counts round reply ≡ true → Fetched round (delivered_in m round reply)
round_fetched m (Gathering asked target awaited prefixes) (ContentIs query position path content) e = record {
  path = path;
  was = awaited_of asked target awaited query position path e;
  left = content_taken m asked target awaited prefixes query position path content e;
}
round_fetched m round reply e = cc

round_listed : (m : MirrorState) (round : Round) (reply : Reply) → list_counts round reply ≡ true → Listed round reply (delivered_in m round reply)
round_listed m (Gathering asked target awaited prefixes) (ListIs query position prefix paths) e = record {
  prefix = prefix;
  was = awaited_of asked target prefixes query position prefix e;
  left = list_taken m asked target awaited prefixes query position prefix paths e;
}
round_listed m round reply e = cc

fetched_of : (m : MirrorState) (reply : Reply) → content_counts m.round reply ≡ true → Fetched m.round (delivered m reply)
unfolding delivered
fetched_of m reply e = round_fetched m m.round reply e

listed_of : (m : MirrorState) (reply : Reply) → list_counts m.round reply ≡ true → Listed m.round reply (delivered m reply)
unfolding delivered
listed_of m reply e = round_listed m m.round reply e

pub contents_count_down : (m : MirrorState) → AreDistinct (awaited_in m.round) → ContentsCountDown m
contents_count_down m d reply e =
    let got = fetched_of m reply e in
    record {
      paths = length-without got.path (awaited_in m.round) d got.was ∙ ap (λ ps. length ps + 1) (sym got.left.paths_left);
      directories = got.left.directories_left;
    }

pub lists_count_down : (m : MirrorState) → AreDistinct (prefixes_in m.round) → ListsCountDown m
lists_count_down m d reply e =
    let got = listed_of m reply e in
    record {
      directories = length-without got.prefix (prefixes_in m.round) d got.was ∙ ap (λ ps. length ps + 1) (sym got.left.directories_left);
      paths = got.left.paths_left;
    }

-- ---- either of them

-- what a reply that counts does to the round
record Counts (round : Round) (reply : Reply) (made : MirrorState × Outcome) : Type 0 where
  fall : left_in round + added_in round reply ≡ left_in made.0.round + 1
  told : made.1 ≡ outcome_where (left_in made.0.round)
  under : (made.0.round ≡ Idle) ⊎ (is_gathering made.0.round ≡ true)
  distinct_left : IsDistinctRound made.0.round

-- a reply is not both
no_list : (round : Round) (reply : Reply) → content_counts round reply ≡ true → list_counts round reply ≡ false
no_list (Gathering asked target awaited prefixes) (ListIs query position prefix paths) e = cc
no_list round reply e = refl

none_added : (round : Round) (reply : Reply) → list_counts round reply ≡ false → added_in round reply ≡ 0
none_added round reply e = ap (λ b. if b then length (drop (length (awaited_in round)) (distinct (awaited_in round ++ paths_listed reply))) else 0) e

-- what is after distinct paths once others are awaited too
behind : (ps qs : List (List ℕ)) → AreDistinct ps → length ps + length (drop (length ps) (distinct (ps ++ qs))) ≡ length (distinct (ps ++ qs))
behind ps qs d =
    let got = begins ps qs d in
    ap (λ rs. length ps + length (drop (length ps) rs)) got.1 ∙ ap (λ rs. length ps + length rs) (drop-append_seam ps got.0)
    ∙ sym (length-append ps got.0) ∙ ap length (sym got.1)

content_counted : (m : MirrorState) (reply : Reply) → IsDistinctRound m.round → content_counts m.round reply ≡ true → Counts m.round reply (delivered m reply)
content_counted m reply d e =
    let got = fetched_of m reply e in
    let down = contents_count_down m d.paths reply e in
    let same = ap length down.directories in
    let none = none_added m.round reply (no_list m.round reply e) in
    record {
      fall = omega (arith, down.paths, same, none);
      told = got.left.told;
      under = got.left.under;
      distinct_left = record {
        paths = subst AreDistinct (sym got.left.paths_left) (distinct_without got.path (awaited_in m.round) d.paths);
        directories = subst AreDistinct (sym got.left.directories_left) d.directories;
      };
    }

list_counted : (m : MirrorState) (reply : Reply) → IsDistinctRound m.round → list_counts m.round reply ≡ true → Counts m.round reply (delivered m reply)
list_counted m reply d e =
    let got = listed_of m reply e in
    let down = lists_count_down m d.directories reply e in
    let more : added_in m.round reply ≡ length (drop (length (awaited_in m.round)) (distinct (awaited_in m.round ++ paths_listed reply))) =
    ap (λ b. if b then length (drop (length (awaited_in m.round)) (distinct (awaited_in m.round ++ paths_listed reply))) else 0) e in
    let all = behind (awaited_in m.round) (paths_listed reply) d.paths in
    let same = ap length down.paths in
    record {
      fall = omega (arith, down.directories, same, more, all);
      told = got.left.told;
      under = got.left.under;
      distinct_left = record {
        paths = subst AreDistinct (sym got.left.paths_left) (distinct_distinct (awaited_in m.round ++ paths_listed reply));
        directories = subst AreDistinct (sym got.left.directories_left) (distinct_without got.prefix (prefixes_in m.round) d.directories);
      };
    }

counts_so : (m : MirrorState) (reply : Reply) → IsDistinctRound m.round → counts_in m.round reply ≡ true → Counts m.round reply (delivered m reply)
counts_so m reply d e = by (content_counts m.round reply) refl e
  where
    by : (b : Bool) → content_counts m.round reply ≡ b → (b || list_counts m.round reply) ≡ true → Counts m.round reply (delivered m reply)
    by true f g = content_counted m reply d f
    by false f g = list_counted m reply d g

pub places_with_none_left : (m : MirrorState) → IsDistinctRound m.round → PlacesWithNoneLeft m
places_with_none_left m d reply e = (counts_so m reply d e).told

-- ---- a reply that does not

round_ignores : (m : MirrorState) (round : Round) (reply : Reply) → is_gathering round ≡ true → counts_in round reply ≡ false
    → delivered_in m round reply ≡ (if ends_in round reply then (record m { round = Idle }, Ended) else (m, Ignored))
round_ignores m (Gathering asked target awaited prefixes) (ContentIs query position path content) g e =
    ap (λ b. taken_if b m (fetched m asked target awaited prefixes path content)) (or_parts _ _ e).0
round_ignores m (Gathering asked target awaited prefixes) (Refused query cause) g e = by (same_query query asked && ends_round prefixes cause)
  where
    by : (b : Bool) → taken_if b m (record m { round = Idle }, Ended) ≡ (if b then (record m { round = Idle }, Ended) else (m, Ignored))
    by true = refl
    by false = refl
round_ignores m (Gathering asked target awaited prefixes) (ListIs query position prefix paths) g e =
    ap (λ b. taken_if b m (listed_below m asked target awaited prefixes prefix paths)) e
round_ignores m (Gathering asked target awaited prefixes) reply g e = refl
round_ignores m round reply g e = cc

pub ignores_others : (m : MirrorState) → IgnoresOthers m
unfolding delivered
ignores_others m g reply e = round_ignores m m.round reply g e

-- whatever the round is, a content that does not count does nothing
pub content_ignored : (m : MirrorState) (query : Query) (position : Position) (path : List ℕ) (content : Option Content)
    → content_counts m.round (ContentIs query position path content) ≡ false → (m, Ignored) ≡ delivered m (ContentIs query position path content)
unfolding delivered
content_ignored m query position path content e = by m.round e
  where
    by : (round : Round) → content_counts round (ContentIs query position path content) ≡ false → (m, Ignored) ≡ delivered_in m round (ContentIs query position path content)
    by Idle e = refl
    by (Asked request) e = refl
    by (Gathering asked target awaited prefixes) e = sym (ap (λ b. taken_if b m (fetched m asked target awaited prefixes path content)) e)

idle_delivered : (m : MirrorState) (reply : Reply) → m.round ≡ Idle → delivered m reply ≡ (m, Ignored)
unfolding delivered
idle_delivered m reply e = ap (λ round. delivered_in m round reply) e ∙ nothing reply
  where
    nothing : (other : Reply) → delivered_in m Idle other ≡ (m, Ignored)
    nothing (ContentIs query position path content) = refl
    nothing other = refl

-- where no round is under way none comes of replies
idle_after : (m : MirrorState) (replies : List Reply) → m.round ≡ Idle → after m replies ≡ m
idle_after m [] e = refl
idle_after m (reply ∷ replies) e = ap (λ made. after made.0 replies) (idle_delivered m reply e) ∙ idle_after m replies e

none_after : (m : MirrorState) (replies : List Reply) (reply : Reply) → m.round ≡ Idle → counts_in (after m replies).round reply ≡ true → ⊥
none_after m replies reply idle e =
    let none : counts_in (after m replies).round reply ≡ false = ap (λ round. counts_in round reply) (ap (λ n. n.round) (idle_after m replies idle) ∙ idle) in
    let bad : true ≡ false = sym e ∙ none in cc

-- ---- whole rounds

-- what is left once k of n have counted
last_of : (k n left : ℕ) → n ≡ left + k → outcome_where left ≡ outcome_at k n
last_of k n left e = grind (arith, e)

none_more : (k left more rest : ℕ) → outcome_at (k + 1) (left + more + rest) ≡ outcome_at (0 + k + 1) (left + (0 + more) + rest)
none_more k left more rest = grind arith

one_more : (k was left new more rest : ℕ) → was + new ≡ left + 1 → outcome_at (k + 1) (left + more + rest) ≡ outcome_at (1 + k + 1) (was + (new + more) + rest)
one_more k was left new more rest e = grind (arith, e)

-- the reply, where it counts after those, is answered as the k-th of n
abbrev Places : MirrorState → List Reply → Reply → Type 0
Places m replies reply =
    counts_in (after m replies).round reply ≡ true
    → (delivered (after m replies) reply).1 ≡ outcome_at (counted m replies + 1) (left_in m.round + added m replies + added_in (after m replies).round reply)

-- the same, where one came before them that counted or did not, and added so much to what was left
abbrev PlacesBehind : ℕ → ℕ → ℕ → MirrorState → List Reply → Reply → Type 0
PlacesBehind one left new m replies reply =
    counts_in (after m replies).round reply ≡ true
    → (delivered (after m replies) reply).1 ≡ outcome_at (one + counted m replies + 1) (left + (new + added m replies) + added_in (after m replies).round reply)

behind_none : (m : MirrorState) (replies : List Reply) (reply : Reply) → Places m replies reply → PlacesBehind 0 (left_in m.round) 0 m replies reply
behind_none m replies reply places e =
    places e ∙ none_more (counted m replies) (left_in m.round) (added m replies) (added_in (after m replies).round reply)

behind_one : (was new : ℕ) (m : MirrorState) (replies : List Reply) (reply : Reply) → was + new ≡ left_in m.round + 1 → Places m replies reply
    → PlacesBehind 1 was new m replies reply
behind_one was new m replies reply fall places e =
    places e ∙ one_more (counted m replies) was (left_in m.round) new (added m replies) (added_in (after m replies).round reply) fall

behind_idle : (one left new : ℕ) (m : MirrorState) (replies : List Reply) (reply : Reply) → m.round ≡ Idle → PlacesBehind one left new m replies reply
behind_idle one left new m replies reply idle e = absurd (none_after m replies reply idle e)

-- after one that did not count
behind_other : (m : MirrorState) (first : Reply) (replies : List Reply) (reply : Reply) → is_gathering m.round ≡ true → counts_in m.round first ≡ false
    → Places m replies reply → PlacesBehind 0 (left_in m.round) (added_in m.round first) (delivered m first).0 replies reply
behind_other m first replies reply g f places =
    subst (λ n. PlacesBehind 0 (left_in m.round) n (delivered m first).0 replies reply) (sym (none_added m.round first (or_parts _ _ f).1))
    (by (ends_in m.round first) refl)
  where
    now : (b : Bool) → ends_in m.round first ≡ b → delivered m first ≡ (if b then (record m { round = Idle }, Ended) else (m, Ignored))
    now b h = ignores_others m g first f ∙ ap (λ c. if c then (record m { round = Idle }, Ended) else (m, Ignored)) h

    by : (b : Bool) → ends_in m.round first ≡ b → PlacesBehind 0 (left_in m.round) 0 (delivered m first).0 replies reply
    by true h = behind_idle 0 (left_in m.round) 0 (delivered m first).0 replies reply (ap (λ made. made.0.round) (now true h))
    by false h =
        subst (λ n. PlacesBehind 0 (left_in m.round) 0 n replies reply) (sym (ap (λ made. made.0) (now false h))) (behind_none m replies reply places)

pub places : (m : MirrorState) → IsDistinctRound m.round → is_gathering m.round ≡ true → (replies : List Reply) (reply : Reply) → Places m replies reply
places m d g [] reply e =
    let c = counts_so m reply d e in
    c.told ∙ last_of (0 + 1) (left_in m.round + 0 + added_in m.round reply) (left_in (delivered m reply).0.round) (omega (arith, c.fall))
places m d g (first ∷ replies) reply e =
    by (counts_in m.round first) refl (places m d g replies reply) (λ d2 g2. places (delivered m first).0 d2 g2 replies reply) e
  where
    by : (b : Bool) → counts_in m.round first ≡ b → Places m replies reply
        → (IsDistinctRound (delivered m first).0.round → is_gathering (delivered m first).0.round ≡ true → Places (delivered m first).0 replies reply)
        → PlacesBehind (if counts_in m.round first then 1 else 0) (left_in m.round) (added_in m.round first) (delivered m first).0 replies reply
    by false f same next =
        subst (λ b. PlacesBehind (if b then 1 else 0) (left_in m.round) (added_in m.round first) (delivered m first).0 replies reply) (sym f)
        (behind_other m first replies reply g f same)
    by true f same next =
        let c = counts_so m first d f in
        subst (λ b. PlacesBehind (if b then 1 else 0) (left_in m.round) (added_in m.round first) (delivered m first).0 replies reply) (sym f)
        (elim c.under [
          | inl idle ↦ behind_idle 1 (left_in m.round) (added_in m.round first) (delivered m first).0 replies reply idle
          | inr gathering ↦ behind_one (left_in m.round) (added_in m.round first) (delivered m first).0 replies reply c.fall (next c.distinct_left gathering)
        ])
