-- What a mirror keeps whatever comes to it: each value that it wants was in a row at its place or after it, and what it asks and awaits
-- will leave it so.
use Rattle.std.proofs.Common.{◌≡◌, ℕ, ◌+◌, ◌≤◌, Bool, true, false, cond, not, ◌&&◌, ◌||◌, List, [], ◌∷◌, ◌++◌, map, Option, Some, None, refl, sym, ap, subst, ◌∙◌, arith, inl, inr}
use Rattle.std.specs.Prelude.{Contains, if◌then◌else◌}
use Rattle.std.specs.List.{All, AllByRecursion}
use Rattle.std.specs.FinMap as fin
use Rattle.std.proofs.lemmas.Option.{same_Some}
use Rattle.std.proofs.lemmas.Bool.{and_parts, eqb-true, leb-true, or_from, or_parts}
use Rattle.std.proofs.lemmas.Map.Views.{any-filter_same}
use Rattle.std.proofs.lemmas.List.Elements.{All-append, All-contains, All-from_recursion}
use Rattle.std.proofs.lemmas.List.Folds.{list_any-append}
use Rattle.eden_ids.specs.declared.content.Content.{Content}
use Rattle.eden_ids.specs.FileMaps.{FileMap, file_at, no_files, put_option, same_path}
use Rattle.eden_ids.specs.Paths.{lies_below}
use Rattle.eden_ids.proofs.FileMapLemmas.{file_at-none, put_option-at, same_order, same_path-is}
use Rattle.eden_globs.specs.Filters.{Patterns, admits, all_paths}
use Rattle.eden_messages.specs.declared.message.Cause.{Cause}
use Rattle.eden_messages.specs.declared.message.Cause.TheVariants.{Stale, Ahead, Truncated, TooLarge}
use Rattle.eden_messages.specs.declared.message.Query.{Query}
use Rattle.eden_messages.specs.declared.message.Reply.{Reply}
use Rattle.eden_messages.specs.declared.message.Reply.TheVariants.{BasisIs, ChangesAre, ContentIs, Refused, ListIs}
use Rattle.eden_messages.specs.declared.message.Request.{Request}
use Rattle.eden_messages.specs.declared.message.Request.TheVariants.{Basis, Poll, Fetch, List as Below}
use Rattle.eden_messages.specs.declared.outcome.Outcome.{Outcome}
use Rattle.eden_history.specs.declared.position.Position.{Position}
use Rattle.eden_history.specs.declared.mark.Marked.{Marked}
use Rattle.eden_history.specs.Changes.{below_any}
use Rattle.eden_history.specs.Worlds.{WorldState}
use Rattle.eden_messages.specs.Mirrors.{MirrorState, Round, new_mirror, begun, counts, delivered, delivered_in, distinct, emptied, ends_round, fetched, gathers, has_number, is_among, list_request, listed_below, listed_files, next_round, query_numbered, query_of, refiltered, refused, requests_in, same_query, taken_if, without}
use Rattle.eden_messages.specs.Mirrors.Round.{Idle, Asked, Gathering}
use Rattle.eden_history.specs.Rows.{IsPlace, Stands}
use Rattle.eden_messages.specs.Spells.{paths_of}
use Rattle.eden_history.proofs.Kept.{below_within}
use Rattle.eden_logs.proofs.Covered.{cons_cases, nowhere}
use Rattle.eden_headline.proofs.Telling.{IsTrueOf}
use Rattle.std.proofs.Math.Bool.{and-false}
use Rattle.eden_messages.proofs.Spelling.{queries_equal}

-- ---- what a mirror keeps

-- the request is under this mirror's id and life
abbrev pub IsOwn : MirrorState → Request → Type 0
IsOwn m request = ((query_of request).mirror ≡ m.id) × ((query_of request).life ≡ m.life)

-- its id, and that no request that was sent under its id and life has a number above its last
abbrev pub IsNamed : List Request → ℕ → MirrorState → Type 0
IsNamed sent id m = (m.id ≡ id) × ((request : Request) → Contains sent request → IsOwn m request → (query_of request).number ≤ m.last)

-- of its filter, its files and its place
pub record IsKept (world : WorldState) (patterns : Patterns) (files : FileMap) (place : Option Position) : Type 0 where
  pub outside : (p : List ℕ) → admits patterns p ≡ false → file_at files p ≡ None
  pub placed : (here : Position) → place ≡ Some here → IsPlace world here
  pub values : (here : Position) (p : List ℕ) → place ≡ Some here → admits patterns p ≡ true → Stands world here.generation here.sequence p (file_at files p)

-- it asks since its place, and under the round's query nothing else was sent
pub record IsGoodAsk (sent : List Request) (m : MirrorState) (request : Request) : Type 0 where
  pub asks : request ≡ list_request (query_numbered m m.last) m.place m.patterns
  pub alone : (other : Request) → Contains sent other → query_of other ≡ query_of request → other ≡ request

-- a path that is wanted, and neither awaited nor below a directory whose list is, has a value of the target or later
pub record IsGoodGathering (world : WorldState) (m : MirrorState) (query : Query) (target : Position) (awaited prefixes : List (List ℕ)) : Type 0 where
  pub asks : query ≡ query_numbered m m.last
  pub reached : IsPlace world target
  pub outside : (p : List ℕ) → admits m.patterns p ≡ false → is_among p awaited ≡ false
  pub gathered : (p : List ℕ) → admits m.patterns p ≡ true → is_among p awaited ≡ false → below_any prefixes p ≡ false
      → Stands world target.generation target.sequence p (file_at m.files p)
  pub later : (place : Position) → m.place ≡ Some place → (place.generation ≡ target.generation) × (place.sequence ≤ target.sequence)

-- under this query lists were asked for with these patterns alone
abbrev pub ListsWith : List Request → Patterns → Query → Type 0
ListsWith sent patterns query = (prefix : List ℕ) (own : Patterns) → Contains sent (Below query prefix own) → own ≡ patterns

-- the mirror beside its round
abbrev pub idle : MirrorState → MirrorState
idle m = record m { round = Idle }

abbrev pub IsGoodRound : WorldState → List Request → MirrorState → Round → Type 0
IsGoodRound world sent m Idle = Unit {0}
IsGoodRound world sent m (Asked request) = IsGoodAsk sent m request
IsGoodRound world sent m (Gathering query target awaited prefixes) = IsGoodGathering world m query target awaited prefixes × ListsWith sent m.patterns query

pub record IsSound (world : WorldState) (sent : List Request) (id : ℕ) (m : MirrorState) : Type 0 where
  pub name : IsNamed sent id m
  pub kept : IsKept world m.patterns m.files m.place
  pub round : IsGoodRound world sent (idle m) m.round

-- ---- requests

list_query : (query : Query) (place : Option Position) (patterns : Patterns) → query_of (list_request query place patterns) ≡ query
list_query query None patterns = refl
list_query query (Some place) patterns = refl

abbrev patterns_of : Request → Patterns
patterns_of (Basis query patterns) = patterns
patterns_of (Poll query since patterns) = patterns
patterns_of request = all_paths

abbrev since_of : Request → Option Position
since_of (Poll query since patterns) = Some since
since_of request = None

list_patterns : (query : Query) (place : Option Position) (patterns : Patterns) → patterns_of (list_request query place patterns) ≡ patterns
list_patterns query None patterns = refl
list_patterns query (Some place) patterns = refl

list_since : (query : Query) (place : Option Position) (patterns : Patterns) → since_of (list_request query place patterns) ≡ place
list_since query None patterns = refl
list_since query (Some place) patterns = refl

pub own_by : (m : MirrorState) (request : Request) (number : ℕ) → query_of request ≡ query_numbered m number → IsOwn m request
own_by m request number e = (ap (λ q. q.mirror) e, ap (λ q. q.life) e)

query_same : (q r : Query) → same_query q r ≡ true → q ≡ r
query_same q r e =
    let last = and_parts _ _ e in
    let first = and_parts _ _ last.0 in
    queries_equal q r (eqb-true _ _ first.0) (eqb-true _ _ first.1) (eqb-true _ _ last.1)

-- what holds of each list and each content that a gathering round awaits holds of all that it asks
all_asked : (Holds : Request → Type 0) (patterns : Patterns) (query : Query) (target : Position) (awaited prefixes : List (List ℕ))
    → ((prefix : List ℕ) → Holds (Below query prefix patterns)) → ((path : List ℕ) → Holds (Fetch query path))
    → (request : Request) → Contains (requests_in patterns (Gathering query target awaited prefixes)) request → Holds request
all_asked Holds patterns query target awaited prefixes list content request there =
    All-contains Holds (requests_in patterns (Gathering query target awaited prefixes)) request
    (All-append Holds (map (λ prefix. Below query prefix patterns) prefixes) (map (λ path. Fetch query path) awaited)
    (each (λ prefix. Below query prefix patterns) list prefixes) (each (λ path. Fetch query path) content awaited)) there
  where
    by : (make : List ℕ → Request) → ((p : List ℕ) → Holds (make p)) → (ps : List (List ℕ)) → AllByRecursion Holds (map make ps)
    by make all [] = tt
    by make all (p ∷ ps) = (all p, by make all ps)

    each : (make : List ℕ → Request) → ((p : List ℕ) → Holds (make p)) → (ps : List (List ℕ)) → All Holds (map make ps)
    each make all ps = All-from_recursion Holds (map make ps) (by make all ps)

-- what it asks in a round whose list was not given yet is that list alone
pub own_request : (patterns : Patterns) (asked request : Request) → Contains (requests_in patterns (Asked asked)) request → request ≡ asked
own_request patterns asked request there = elim (cons_cases asked [] request there) [ inl e ↦ sym e | inr more ↦ absurd (nowhere request more) ]

-- all that a mirror asks is under the number of its last round
pub own_query : (world : WorldState) (sent : List Request) (m : MirrorState) (request : Request) → (round : Round) → IsGoodRound world sent (idle m) round
    → Contains (requests_in m.patterns round) request → query_of request ≡ query_numbered m m.last
own_query world sent m request Idle good there = absurd (nowhere request there)
own_query world sent m request (Asked asked) good there =
    ap query_of (own_request m.patterns asked request there ∙ good.asks) ∙ list_query (query_numbered m m.last) m.place m.patterns
own_query world sent m request (Gathering query target awaited prefixes) good there =
    all_asked (λ r. query_of r ≡ query) m.patterns query target awaited prefixes (λ prefix. refl) (λ path. refl) request there ∙ good.0.asks

-- what is below a directory is asked for with these patterns, if it is
abbrev AsksWith : Patterns → Request → Type 0
AsksWith patterns (Below query prefix own) = own ≡ patterns
AsksWith patterns request = Unit {0}

-- a gathering round asks for lists with the mirror's patterns
pub own_patterns : (patterns : Patterns) (query : Query) (target : Position) (awaited prefixes : List (List ℕ)) (other : Query) (prefix : List ℕ) (own : Patterns)
    → Contains (requests_in patterns (Gathering query target awaited prefixes)) (Below other prefix own) → own ≡ patterns
own_patterns patterns query target awaited prefixes other prefix own there =
    all_asked (AsksWith patterns) patterns query target awaited prefixes (λ p. refl) (λ p. tt) (Below other prefix own) there

-- ---- lists of paths

among_without : (p path : List ℕ) (ps : List (List ℕ)) → is_among p (without path ps) ≡ (not (same_path p path) && is_among p ps)
among_without p path ps = any-filter_same (λ q. same_path p q) (λ q. not (same_path q path)) (not (same_path p path)) (λ k e. ap (λ q. not (same_path q path)) (sym (same_path-is p k e))) ps

among_distinct : (p : List ℕ) (ps : List (List ℕ)) → is_among p (distinct ps) ≡ is_among p ps
among_distinct p [] = refl
among_distinct p (q ∷ ps) =
    ap (λ b. same_path p q || b) (among_without p q (distinct ps) ∙ ap (λ b. not (same_path p q) && b) (among_distinct p ps))
    ∙ once (same_path p q) (is_among p ps)
  where
    once : (a b : Bool) → (a || (not a && b)) ≡ (a || b)
    once true b = refl
    once false b = refl

-- ---- lists of directories

below_distinct : (p : List ℕ) (ps : List (List ℕ)) → below_any (distinct ps) p ≡ false → below_any ps p ≡ false
below_distinct p ps = below_within p ps (distinct ps) (λ q e. among_distinct q ps ∙ e)

-- a directory that the path is not below may be left out
below_without : (p prefix : List ℕ) (ps : List (List ℕ)) → lies_below p prefix ≡ false → below_any (without prefix ps) p ≡ below_any ps p
below_without p prefix ps apart =
    any-filter_same (λ q. lies_below p q) (λ q. not (same_path q prefix)) true (λ k e. by k e (same_path k prefix) refl) ps
  where
    by : (k : List ℕ) → lies_below p k ≡ true → (b : Bool) → same_path k prefix ≡ b → not b ≡ true
    by k e true s = absurd (let bad : true ≡ false = sym e ∙ ap (lies_below p) (same_path-is k prefix s) ∙ apart in cc)
    by k e false s = refl

-- ---- a mirror that begins, is refiltered or is new

none_placed : {X : Type 0} (place : Position) → ◌≡◌ {A = Option Position} None (Some place) → X
none_placed place e = absurd (let bad : ◌≡◌ {A = Option Position} None (Some place) = e in cc)

blank : (world : WorldState) (patterns : Patterns) → IsKept world patterns no_files None
blank world patterns = record { outside = λ p out. file_at-none p; placed = λ place e. none_placed place e; values = λ place p e wanted. none_placed place e }

pub sound_new : (world : WorldState) (sent : List Request) (id life : ℕ) (patterns : Patterns)
    → ((request : Request) → Contains sent request → (query_of request).mirror ≡ id → (query_of request).life ≡ life → ⊥) → IsSound world sent id (new_mirror id life patterns)
sound_new world sent id life patterns unused =
    record { name = (refl, λ request there own. absurd (unused request there own.0 own.1)); kept = blank world patterns; round = tt }

pub sound_refiltered : (world : WorldState) (sent : List Request) (id : ℕ) (m : MirrorState) (patterns : Patterns) → IsSound world sent id m → IsSound world sent id (refiltered m patterns)
unfolding refiltered
sound_refiltered world sent id m patterns is = record { name = is.name; kept = blank world patterns; round = tt }

pub sound_begun : (world : WorldState) (sent : List Request) (id : ℕ) (m : MirrorState) → IsSound world sent id m → IsSound world sent id (begun m)
unfolding begun
sound_begun world sent id m is = by (has_number m)
  where
    alone : (other : Request) → Contains sent other → query_of other ≡ query_numbered m (m.last + 1) → ⊥
    alone other there same =
        let le = is.name.1 other there (own_by m other (m.last + 1) same) in
        let number = ap (λ q. q.number) same in
        omega arith

    by : (b : Bool) → IsSound world sent id (if b then next_round m else m)
    by true =
        record {
          name = (is.name.0, λ request there own. let le = is.name.1 request there own in omega arith);
          kept = is.kept;
          round = record { asks = refl; alone = λ other there same. absurd (alone other there (same ∙ list_query (query_numbered m (m.last + 1)) m.place m.patterns)) };
        }
    by false = is

-- ---- a mirror to which a reply comes

-- what gathers is sound, also where nothing is awaited
gathers_sound : (world : WorldState) (sent : List Request) (id : ℕ) (m : MirrorState) (query : Query) (target : Position) (awaited prefixes : List (List ℕ))
    → IsNamed sent id m → IsKept world m.patterns m.files m.place → IsGoodGathering world (idle m) query target awaited prefixes → ListsWith sent m.patterns query
    → IsSound world sent id (gathers m query target awaited prefixes).0
gathers_sound world sent id m query target [] [] name kept good lists =
    record {
      name = name;
      kept =
          record {
            outside = kept.outside;
            placed = λ place e. subst (IsPlace world) (same_Some target place e) good.reached;
            values = λ place p e wanted. subst (λ t. Stands world t.generation t.sequence p (file_at m.files p)) (same_Some target place e) (good.gathered p wanted refl refl);
          };
      round = tt;
    }
gathers_sound world sent id m query target [] (prefix ∷ prefixes) name kept good lists = record { name = name; kept = kept; round = (good, lists) }
gathers_sound world sent id m query target (p ∷ ps) prefixes name kept good lists = record { name = name; kept = kept; round = (good, lists) }

taken_sound : (world : WorldState) (sent : List Request) (id : ℕ) (m : MirrorState) (b : Bool) (taken : MirrorState × Outcome) → IsSound world sent id m
    → (b ≡ true → IsSound world sent id taken.0) → IsSound world sent id (taken_if b m taken).0
taken_sound world sent id m true taken is made = made refl
taken_sound world sent id m false taken is made = is

-- the list of all paths
basis_sound : (world : WorldState) (sent : List Request) (id : ℕ) (m : MirrorState) (asked query : Query) (patterns : Patterns) (position : Position) (ps : List (List ℕ))
    → IsSound world sent id m → IsGoodAsk sent (idle m) (Basis asked patterns) → IsTrueOf world sent (BasisIs query position ps) → query ≡ asked
    → IsSound world sent id (gathers (emptied m) asked position (distinct ps) []).0
basis_sound world sent id m asked query patterns position ps is good true_of same =
    gathers_sound world sent id (emptied m) asked position (distinct ps) [] is.name (blank world m.patterns)
    (record {
      asks = ap query_of good.asks ∙ list_query (query_numbered m m.last) m.place m.patterns;
      reached = told.place;
      outside = λ p out. among_distinct p ps ∙ told.refused p (ap (λ f. admits f p) filters ∙ out);
      gathered = λ p wanted none outside.
          subst (Stands world position.generation position.sequence p) (sym (file_at-none p)) (told.absent p (ap (λ f. admits f p) filters ∙ wanted) (sym (among_distinct p ps) ∙ none));
      later = λ place e. none_placed place e;
    })
    (λ prefix own there. absurd (let bad : Below asked prefix own ≡ Basis asked patterns = good.alone (Below asked prefix own) there refl in cc))
  where
    open true_of use {given, told}

    filters : given ≡ m.patterns
    filters = ap patterns_of (good.alone (Basis query given) true_of.asked same ∙ good.asks) ∙ list_patterns (query_numbered m m.last) m.place m.patterns

-- the list of what changed
changes_sound : (world : WorldState) (sent : List Request) (id : ℕ) (m : MirrorState) (asked query : Query) (since : Position) (patterns : Patterns) (target : Position) (marked : List Marked)
    (prefixes : List (List ℕ))
    → IsSound world sent id m → IsGoodAsk sent (idle m) (Poll asked since patterns) → IsTrueOf world sent (ChangesAre query target marked prefixes) → query ≡ asked
    → IsSound world sent id (gathers m asked target (distinct (paths_of marked)) (distinct prefixes)).0
changes_sound world sent id m asked query since patterns target marked prefixes is good true_of same =
    gathers_sound world sent id m asked target (distinct (paths_of marked)) (distinct prefixes) is.name is.kept
    (record {
      asks = ap query_of good.asks ∙ list_query (query_numbered m m.last) m.place m.patterns;
      reached = told.place;
      outside = λ p out. among_distinct p (paths_of marked) ∙ told.refused p (ap (λ f. admits f p) filters ∙ out);
      gathered = λ p wanted none outside.
          told.stays p (file_at m.files p) (ap (λ f. admits f p) filters ∙ wanted) (sym (among_distinct p (paths_of marked)) ∙ none) (below_distinct p prefixes outside)
          (is.kept.values given.0 p (sym place_is) wanted);
      later = λ place e. subst (λ s. (s.generation ≡ target.generation) × (s.sequence ≤ target.sequence)) (same_Some given.0 place (place_is ∙ e)) (told.alike, told.before);
    })
    (λ prefix own there. absurd (let bad : Below asked prefix own ≡ Poll asked since patterns = good.alone (Below asked prefix own) there refl in cc))
  where
    open true_of use {given, told}

    one : Poll query given.0 given.1 ≡ list_request (query_numbered m m.last) m.place m.patterns
    one = good.alone (Poll query given.0 given.1) true_of.asked same ∙ good.asks

    filters : given.1 ≡ m.patterns
    filters = ap patterns_of one ∙ list_patterns (query_numbered m m.last) m.place m.patterns

    place_is : Some given.0 ≡ m.place
    place_is = ap since_of one ∙ list_since (query_numbered m m.last) m.place m.patterns

-- what holds since a number holds since an earlier one
since_earlier : (world : WorldState) (generation other number earlier : ℕ) (p : List ℕ) (file : Option Content) → generation ≡ other → earlier ≤ number
    → Stands world generation number p file → Stands world other earlier p file
since_earlier world generation other number earlier p file same le is =
    record { row = is.row; is_row = is.is_row; alike = is.alike ∙ same; after = let low = is.after in omega arith; value = is.value }

-- a content
content_sound : (world : WorldState) (sent : List Request) (id : ℕ) (m : MirrorState) (asked : Query) (target position : Position) (awaited prefixes : List (List ℕ)) (path : List ℕ) (content : Option Content)
    → IsSound world sent id m → IsGoodGathering world (idle m) asked target awaited prefixes → ListsWith sent m.patterns asked
    → Stands world position.generation position.sequence path content → position.generation ≡ target.generation → target.sequence ≤ position.sequence → is_among path awaited ≡ true
    → IsSound world sent id (fetched m asked target awaited prefixes path content).0
content_sound world sent id m asked target position awaited prefixes path content is good lists told same le there =
    gathers_sound world sent id (record m { files = put_option m.files path content }) asked target (without path awaited) prefixes is.name
    (record {
      outside = λ p out. put_option-at m.files path content p ∙ unwanted p out (same_path p path) refl;
      placed = is.kept.placed;
      values = λ place p e wanted.
          subst (Stands world place.generation place.sequence p) (sym (put_option-at m.files path content p))
          (by place.generation place.sequence p (let gen = (good.later place e).0 in gen) (let low = (good.later place e).1 in low) (same_path p path) refl (λ apart. is.kept.values place p e wanted));
    })
    (record {
      asks = good.asks;
      reached = good.reached;
      outside = λ p out. among_without p path awaited ∙ ap (λ b. not (same_path p path) && b) (good.outside p out) ∙ and-false (not (same_path p path));
      gathered = λ p wanted none outside.
          subst (Stands world target.generation target.sequence p) (sym (put_option-at m.files path content p))
          (by target.generation target.sequence p refl (omega arith) (same_path p path) refl (λ apart. good.gathered p wanted (left p apart none) outside));
      later = good.later;
    })
    lists
  where
    unwanted : (p : List ℕ) → admits m.patterns p ≡ false → (b : Bool) → same_path p path ≡ b → cond b content (file_at m.files p) ≡ None
    unwanted p out true e =
        absurd (let bad : true ≡ false = sym there ∙ ap (λ q. is_among q awaited) (sym (same_path-is p path e)) ∙ good.outside p out in cc)
    unwanted p out false e = is.kept.outside p out

    by : (generation number : ℕ) (p : List ℕ) → generation ≡ target.generation → number ≤ target.sequence → (b : Bool) → same_path p path ≡ b
        → (same_path p path ≡ false → Stands world generation number p (file_at m.files p)) → Stands world generation number p (cond b content (file_at m.files p))
    by generation number p gen low true e old =
        since_earlier world position.generation generation position.sequence number p content (same ∙ sym gen) (omega arith)
        (subst (λ q. Stands world position.generation position.sequence q content) (sym (same_path-is p path e)) told)
    by generation number p gen low false e old = old e

    left : (p : List ℕ) → same_path p path ≡ false → is_among p (without path awaited) ≡ false → is_among p awaited ≡ false
    left p apart none = sym (ap (λ b. not b && is_among p awaited) apart) ∙ sym (among_without p path awaited) ∙ none

-- a list of what is below a directory
list_sound : (world : WorldState) (sent : List Request) (id : ℕ) (m : MirrorState) (asked query : Query) (target position : Position) (awaited prefixes : List (List ℕ)) (prefix : List ℕ) (ps : List (List ℕ))
    → IsSound world sent id m → IsGoodGathering world (idle m) asked target awaited prefixes → ListsWith sent m.patterns asked
    → IsTrueOf world sent (ListIs query position prefix ps) → query ≡ asked → position.generation ≡ target.generation → target.sequence ≤ position.sequence
    → IsSound world sent id (listed_below m asked target awaited prefixes prefix ps).0
list_sound world sent id m asked query target position awaited prefixes prefix ps is good lists true_of same gen le =
    gathers_sound world sent id (record m { files = listed_files m.files prefix ps }) asked target (distinct (awaited ++ ps)) (without prefix prefixes) is.name
    (record {
      outside = λ p out. at p ∙ still_none (stays p) (file_at m.files p) (is.kept.outside p out);
      placed = is.kept.placed;
      values = λ place p e wanted.
          subst (Stands world place.generation place.sequence p) (sym (at p))
          (by place.generation place.sequence p (let first = (good.later place e).0 in first) (let low = (good.later place e).1 in low) wanted (lies_below p prefix) (is_among p ps) refl refl
          (λ keeps. is.kept.values place p e wanted));
    })
    (record {
      asks = good.asks;
      reached = good.reached;
      outside = λ p out. among_both p ∙ or_from _ _ (good.outside p out) (told.refused p (ap (λ f. admits f p) filters ∙ out));
      gathered = λ p wanted none outside.
          let each = or_parts _ _ (sym (among_both p) ∙ none) in
          subst (Stands world target.generation target.sequence p) (sym (at p))
          (by target.generation target.sequence p refl (omega arith) wanted (lies_below p prefix) (is_among p ps) refl refl
          (λ keeps. let apart = beside (lies_below p prefix) (is_among p ps) keeps each.1 in good.gathered p wanted each.0 (sym (below_without p prefix prefixes apart) ∙ outside)));
      later = good.later;
    })
    lists
  where
    open true_of use {given, told}

    filters : given ≡ m.patterns
    filters = lists prefix given (subst (λ q. Contains sent (Below q prefix given)) same true_of.asked)

    stays : List ℕ → Bool
    stays p = not (lies_below p prefix) || is_among p ps

    at : (p : List ℕ) → file_at (listed_files m.files prefix ps) p ≡ cond (stays p) (file_at m.files p) None
    at p = fin.get-retain_keys m.files (λ q. not (lies_below q prefix) || is_among q ps) p (λ q e. ap (λ r. not (lies_below r prefix) || is_among r ps) (sym (same_order p q e)))

    still_none : (b : Bool) (file : Option Content) → file ≡ None → cond b file None ≡ None
    still_none true file e = e
    still_none false file e = refl

    among_both : (p : List ℕ) → is_among p (distinct (awaited ++ ps)) ≡ (is_among p awaited || is_among p ps)
    among_both p = among_distinct p (awaited ++ ps) ∙ list_any-append (λ q. same_path p q) awaited ps

    beside : (a b : Bool) → (not a || b) ≡ true → b ≡ false → a ≡ false
    beside true b e f = sym e ∙ f
    beside false b e f = refl

    by : (generation number : ℕ) (p : List ℕ) → generation ≡ target.generation → number ≤ target.sequence → admits m.patterns p ≡ true
        → (under named : Bool) → lies_below p prefix ≡ under → is_among p ps ≡ named
        → ((not under || named) ≡ true → Stands world generation number p (file_at m.files p)) → Stands world generation number p (cond (not under || named) (file_at m.files p) None)
    by generation number p first low wanted false named u e old = old refl
    by generation number p first low wanted true true u e old = old refl
    by generation number p first low wanted true false u e old =
        since_earlier world position.generation generation position.sequence number p None (gen ∙ sym first) (omega arith)
        (told.absent p (ap (λ f. admits f p) filters ∙ wanted) u e)

ended : (world : WorldState) (sent : List Request) (id : ℕ) (m : MirrorState) → IsSound world sent id m → IsSound world sent id (record m { round = Idle })
ended world sent id m is = record { name = is.name; kept = is.kept; round = tt }

unplaced : (world : WorldState) (sent : List Request) (id : ℕ) (m : MirrorState) → IsSound world sent id m → IsSound world sent id (record m { place = None; round = Idle })
unplaced world sent id m is =
    record {
      name = is.name;
      kept = record { outside = is.kept.outside; placed = λ place e. none_placed place e; values = λ place p e wanted. none_placed place e };
      round = tt;
    }

refused_sound : (world : WorldState) (sent : List Request) (id : ℕ) (m : MirrorState) (cause : Cause) → IsSound world sent id m → IsSound world sent id (refused m cause).0
refused_sound world sent id m (Stale generation) is = unplaced world sent id m is
refused_sound world sent id m (Ahead head) is = unplaced world sent id m is
refused_sound world sent id m (Truncated floor) is = unplaced world sent id m is
refused_sound world sent id m TooLarge is = ended world sent id m is

counted_parts : (asked : Query) (target : Position) (awaited : List (List ℕ)) (query : Query) (position : Position) (path : List ℕ) → counts asked target awaited query position path ≡ true
    → (query ≡ asked) × (position.generation ≡ target.generation) × (target.sequence ≤ position.sequence) × (is_among path awaited ≡ true)
counted_parts asked target awaited query position path e =
    let last = and_parts _ _ e in
    let third = and_parts _ _ last.0 in
    let second = and_parts _ _ third.0 in
    (query_same query asked second.0, eqb-true _ _ second.1, leb-true _ _ third.1, last.1)

delivered_sound : (world : WorldState) (sent : List Request) (id : ℕ) (m : MirrorState) (round : Round) (reply : Reply) → IsSound world sent id m → IsGoodRound world sent (idle m) round
    → IsTrueOf world sent reply → IsSound world sent id (delivered_in m round reply).0
delivered_sound world sent id m (Asked (Basis asked patterns)) (BasisIs query position ps) is good told =
    taken_sound world sent id m (same_query query asked) _ is (λ e. basis_sound world sent id m asked query patterns position ps is good told (query_same query asked e))
delivered_sound world sent id m (Asked (Poll asked since patterns)) (ChangesAre query target marked prefixes) is good told =
    taken_sound world sent id m (same_query query asked) _ is
    (λ e. changes_sound world sent id m asked query since patterns target marked prefixes is good told (query_same query asked e))
delivered_sound world sent id m (Asked request) (Refused query cause) is good told =
    taken_sound world sent id m (same_query query (query_of request)) _ is (λ e. refused_sound world sent id m cause is)
delivered_sound world sent id m (Gathering asked target awaited prefixes) (ContentIs query position path content) is good told =
    taken_sound world sent id m (counts asked target awaited query position path) _ is
    (λ e. let parts = counted_parts asked target awaited query position path e in
    content_sound world sent id m asked target position awaited prefixes path content is good.0 good.1 told parts.1 parts.2 parts.3)
delivered_sound world sent id m (Gathering asked target awaited prefixes) (ListIs query position prefix ps) is good told =
    taken_sound world sent id m (counts asked target prefixes query position prefix) _ is
    (λ e. let parts = counted_parts asked target prefixes query position prefix e in
    list_sound world sent id m asked query target position awaited prefixes prefix ps is good.0 good.1 told parts.0 parts.1 parts.2)
delivered_sound world sent id m (Gathering asked target awaited prefixes) (Refused query cause) is good told =
    taken_sound world sent id m (same_query query asked && ends_round prefixes cause) _ is (λ e. ended world sent id m is)
delivered_sound world sent id m round reply is good told = is

pub sound_delivered : (world : WorldState) (sent : List Request) (id : ℕ) (m : MirrorState) (reply : Reply) → IsSound world sent id m → IsTrueOf world sent reply
    → IsSound world sent id (delivered m reply).0
unfolding delivered
sound_delivered world sent id m reply is told = delivered_sound world sent id m m.round reply is is.round told
