-- What every reply that a mount ever gave goes on to say truly of its world, whenever it comes.
use Rattle.std.proofs.Common.{◌≡◌, ℕ, ◌<◌, ◌≤◌, ◌⊎◌, inl, inr, Bool, true, false, not, ◌&&◌, nat_lt, List, ◌++◌, length, filter, Option, Some, None, refl, sym, ap, subst, ◌∙◌, arith}
use Rattle.std.specs.Prelude.{Contains, ◌==◌, if◌then◌else◌}
use Rattle.std.specs.FinMap as fin
use Rattle.std.proofs.lemmas.Bool.{eqb-false, eqb-true, ltb-false, ltb-true, or_from}
use Rattle.std.proofs.lemmas.Map.Views.{any-filter_same}
use Rattle.std.proofs.lemmas.List.Elements.{Contains-append_left}
use Rattle.eden_ids.specs.declared.content.Content.{Content}
use Rattle.eden_ids.specs.FileMaps.{file_at, has, path_set, paths, same_path}
use Rattle.eden_ids.specs.Paths.{lies_below}
use Rattle.eden_ids.proofs.FileMapLemmas.{has-listing, same_path-is}
use Rattle.eden_globs.specs.Filters.{Patterns, admits}
use Rattle.eden_history.specs.declared.answer.SinceFault.{SinceFault}
use Rattle.eden_history.specs.declared.answer.SinceFault.TheVariants as since_fault
use Rattle.eden_messages.specs.declared.message.Cause.TheVariants.{TooLarge}
use Rattle.eden_messages.specs.declared.message.Query.{Query}
use Rattle.eden_messages.specs.declared.message.Reply.{Reply}
use Rattle.eden_messages.specs.declared.message.Reply.TheVariants.{BasisIs, ChangesAre, ContentIs, Refused, ListIs}
use Rattle.eden_messages.specs.declared.message.Request.{Request}
use Rattle.eden_messages.specs.declared.message.Request.TheVariants.{Basis, Poll, Fetch, List as Below}
use Rattle.eden_history.specs.declared.position.Position.{Position}
use Rattle.eden_objects.specs.Objects.{Held}
use Rattle.eden_history.specs.Worlds.{Event, WorldState, commits_of, now, position_of}
use Rattle.eden_history.specs.Said.{paths_said}
use Rattle.eden_history.specs.Changes.{below, below_any, named_since, prefixes_since, prefixes_told, said_since}
use Rattle.eden_history.specs.Legal.{IsLegal}
use Rattle.eden_history.specs.Marks.{marked_since}
use Rattle.eden_messages.specs.Mirrors.{is_among}
use Rattle.eden_history.specs.Imports.{over_held}
use Rattle.eden_history.specs.Outcome.{outcome}
use Rattle.eden_history.specs.Outcome.Outcome.{Next}
use Rattle.eden_history.specs.Recorded.{floor_of}
use Rattle.eden_history.specs.Marks.{admitted}
use Rattle.eden_messages.specs.Replies.{admitted_paths, bounded, polled, reply_of}
use Rattle.eden_history.specs.Rows.{IsPlace, IsRow, Stands}
use Rattle.eden_messages.specs.Spells.{paths_of, reply_bytes}
use Rattle.eden_stream.specs.Frames.{body_limit}
use Rattle.eden_history.specs.Status.{status, status_of}
use Rattle.eden_messages.proofs.Replying.{admitted_listed, marked_paths}
use Rattle.eden_history.proofs.Following.{Follows, event_follows}
use Rattle.eden_history.proofs.Growing.{grown}
use Rattle.eden_history.proofs.RenameLaws.{absent}
use Rattle.eden_history.proofs.Kept.{below_listed, still}
use Rattle.eden_headline.proofs.Keeping.{GoesOn, now_is_place, now_is_row, on_grown, on_over, place_in_time, stands_now}
use Rattle.std.proofs.Math.Bool.{and-false}

-- ---- what is true of a reply

-- at the position and later no file was at an admitted path that is not listed
pub record BasisTells (world : WorldState) (patterns : Patterns) (position : Position) (ps : List (List ℕ)) : Type 0 where
  pub place : IsPlace world position
  pub refused : (p : List ℕ) → admits patterns p ≡ false → is_among p ps ≡ false
  pub absent : (p : List ℕ) → admits patterns p ≡ true → is_among p ps ≡ false → Stands world position.generation position.sequence p None

-- what was at an admitted path that is not listed nor below a listed directory, since the poll's position, was there at the target or
-- later
pub record PollTells (world : WorldState) (since : Position) (patterns : Patterns) (target : Position) (ps prefixes : List (List ℕ)) : Type 0 where
  pub place : IsPlace world target
  pub alike : since.generation ≡ target.generation
  pub before : since.sequence ≤ target.sequence
  pub refused : (p : List ℕ) → admits patterns p ≡ false → is_among p ps ≡ false
  pub stays : (p : List ℕ) (file : Option Content) → admits patterns p ≡ true → is_among p ps ≡ false → below_any prefixes p ≡ false
      → Stands world since.generation since.sequence p file → Stands world target.generation target.sequence p file

-- at the position or later no file was at an admitted path below the directory that is not listed
pub record ListTells (world : WorldState) (patterns : Patterns) (position : Position) (prefix : List ℕ) (ps : List (List ℕ)) : Type 0 where
  pub refused : (p : List ℕ) → admits patterns p ≡ false → is_among p ps ≡ false
  pub absent : (p : List ℕ) → admits patterns p ≡ true → lies_below p prefix ≡ true → is_among p ps ≡ false
      → Stands world position.generation position.sequence p None

-- it answers some request that was sent, and this holds of what was given there
pub record Answers {A : Type 0} (sent : List Request) (make : A → Request) (Tells : A → Type 0) : Type 0 where
  pub given : A
  pub asked : Contains sent (make given)
  pub told : Tells given

abbrev pub IsTrueOf : WorldState → List Request → Reply → Type 0
IsTrueOf world sent (BasisIs query position ps) = Answers sent (λ patterns. Basis query patterns) (λ patterns. BasisTells world patterns position ps)
IsTrueOf world sent (ChangesAre query target marked prefixes) =
    Answers sent (λ (given : Position × Patterns). Poll query given.0 given.1) (λ given. PollTells world given.0 given.1 target (paths_of marked) prefixes)
IsTrueOf world sent (ContentIs query position path content) = Stands world position.generation position.sequence path content
IsTrueOf world sent (Refused query cause) = Unit {0}
IsTrueOf world sent (ListIs query position prefix ps) = Answers sent (λ patterns. Below query prefix patterns) (λ patterns. ListTells world patterns position prefix ps)

-- ---- it stays true

more_sent : {A : Type 0} {make : A → Request} {Tells : A → Type 0} (sent more : List Request) → Answers sent make Tells → Answers (sent ++ more) make Tells
more_sent sent more is = record { given = is.given; asked = Contains-append_left sent more _ is.asked; told = is.told }

pub true_of_more : (world : WorldState) (sent more : List Request) (reply : Reply) → IsTrueOf world sent reply → IsTrueOf world (sent ++ more) reply
true_of_more world sent more (BasisIs query position ps) is = more_sent sent more is
true_of_more world sent more (ChangesAre query target marked prefixes) is = more_sent sent more is
true_of_more world sent more (ContentIs query position path content) is = is
true_of_more world sent more (Refused query cause) is = tt
true_of_more world sent more (ListIs query position prefix ps) is = more_sent sent more is

-- what was since one place and so since another still does in the next world
abbrev pub StaysOn : WorldState → WorldState → Type 0
StaysOn world next = (since target : Position) (p : List ℕ) (file : Option Content) → IsPlace world target → since.generation ≡ target.generation
    → (Stands world since.generation since.sequence p file → Stands world target.generation target.sequence p file)
    → Stands next since.generation since.sequence p file → Stands next target.generation target.sequence p file

-- a row that is new since a place of its generation comes after it
new_row : (world : WorldState) (event : Event) (target : Position) (p : List ℕ) (file : Option Content) → IsLegal world → IsPlace world target
    → outcome (commits_of world) (now world) event.change ≡ Next event → event.row.generation ≡ target.generation → file_at event.row.files p ≡ file
    → Stands (grown world event) target.generation target.sequence p file
new_row world event target p file legal place made same value =
    by (event_follows (commits_of world) world.opening world.past event (made, legal.1)) (place_in_time world target legal place)
  where
    found : target.sequence ≤ event.row.sequence → Stands (grown world event) target.generation target.sequence p file
    found after = record { row = event.row; is_row = inl refl; alike = same; after = after; value = value }

    by : Follows (now world) event.row → (target.generation < (now world).generation) ⊎ ((target.generation ≡ (now world).generation) × (target.sequence ≤ (now world).sequence))
        → Stands (grown world event) target.generation target.sequence p file
    by (inl next) (inl lt) = absurd (let g = next.0 in omega arith)
    by (inl next) (inr both) = let n = next.1 in let le = both.1 in found (omega arith)
    by (inr lower) (inl lt) = absurd (omega arith)
    by (inr lower) (inr both) = absurd (let g = both.0 in omega arith)

pub stays_grown : (world : WorldState) (event : Event) → IsLegal world → outcome (commits_of world) (now world) event.change ≡ Next event → StaysOn world (grown world event)
stays_grown world event legal made since target p file place same stays is = by is.is_row
  where
    by : ((is.row ≡ event.row) ⊎ IsRow world is.row) → Stands (grown world event) target.generation target.sequence p file
    by (inl new) = new_row world event target p file legal place made (ap (λ r. r.generation) (sym new) ∙ is.alike ∙ same) (ap (λ r. file_at r.files p) (sym new) ∙ is.value)
    by (inr old) =
        (on_grown world event).stands target.generation target.sequence p file
        (stays (record { row = is.row; is_row = old; alike = is.alike; after = is.after; value = is.value }))

-- the rows of a world that is given back its objects are its own
pub stays_over : (world : WorldState) (held : List Held) → StaysOn world (over_held world held)
stays_over world held since target p file place same stays stood =
    (on_over world held).stands target.generation target.sequence p file (stays ((on_over (over_held world held) world.held).stands since.generation since.sequence p file stood))

told_on : {A : Type 0} {sent : List Request} {make : A → Request} {Tells Next : A → Type 0} → Answers sent make Tells → ((given : A) → Tells given → Next given) → Answers sent make Next
told_on is step = record { given = is.given; asked = is.asked; told = step is.given is.told }

-- what is true of a reply is true of it of the next world
pub true_on : (world next : WorldState) (sent : List Request) → GoesOn world next → StaysOn world next → (reply : Reply) → IsTrueOf world sent reply → IsTrueOf next sent reply
true_on world next sent on stays (BasisIs query position ps) is =
    told_on is (λ patterns told. record {
      place = on.place position told.place;
      refused = told.refused;
      absent = λ p a none. on.stands position.generation position.sequence p None (told.absent p a none);
    })
true_on world next sent on stays (ChangesAre query target marked prefixes) is =
    told_on is (λ given told. record {
      place = on.place target told.place;
      alike = told.alike;
      before = told.before;
      refused = told.refused;
      stays = λ p file a none outside. stays given.0 target p file told.place told.alike (told.stays p file a none outside);
    })
true_on world next sent on stays (ContentIs query position path content) is = on.stands position.generation position.sequence path content is
true_on world next sent on stays (Refused query cause) is = tt
true_on world next sent on stays (ListIs query position prefix ps) is =
    told_on is (λ patterns told. record {
      refused = told.refused;
      absent = λ p a under none. on.stands position.generation position.sequence p None (told.absent p a under none);
    })

-- ---- lists of paths

among_filter : (test : List ℕ → Bool) (p : List ℕ) (ps : List (List ℕ)) → is_among p (filter test ps) ≡ (test p && is_among p ps)
among_filter test p ps = any-filter_same (λ q. same_path p q) test (test p) (λ k e. ap test (sym (same_path-is p k e))) ps

-- a path is listed in the reply to a poll where it is admitted and named since
pub among_changes : (world : WorldState) (since : ℕ) (patterns : Patterns) (p : List ℕ)
    → is_among p (paths_of (admitted patterns (marked_since world since)))
    ≡ (admits patterns p && has (named_since (now world).generation since (now world).sequence world.opening world.past) p)
among_changes world since patterns p =
    ap (is_among p) (admitted_listed patterns (marked_since world since))
    ∙ among_filter (admits patterns) p (paths_of (marked_since world since))
    ∙ ap (λ ps. admits patterns p && is_among p ps) (marked_paths world since)
    ∙ ap (λ b. admits patterns p && b) (sym (has-listing (path_set (paths_said (said_since world since))) p))

-- ---- what is replied now is true

turned_down : (patterns : Patterns) (p : List ℕ) (b : Bool) → admits patterns p ≡ false → (admits patterns p && b) ≡ false
turned_down patterns p b out = ap (λ c. c && b) out

left_over : (a b : Bool) → a ≡ true → (a && b) ≡ false → b ≡ false
left_over a b is none = sym (ap (λ c. c && b) is) ∙ none

bounded_true : (world : WorldState) (sent : List Request) (query : Query) (reply : Reply) → IsTrueOf world sent reply → IsTrueOf world sent (bounded query reply)
unfolding bounded
bounded_true world sent query reply is = by (nat_lt body_limit (length (reply_bytes reply)))
  where
    by : (b : Bool) → IsTrueOf world sent (if b then Refused query TooLarge else reply)
    by true = tt
    by false = is

-- a path is among those listed of a world where it is admitted and holds a file
among_admitted : (world : WorldState) (patterns : Patterns) (p : List ℕ)
    → is_among p (admitted_paths patterns (now world).files) ≡ (admits patterns p && is_among p (paths (now world).files))
among_admitted world patterns p = among_filter (admits patterns) p (paths (now world).files)

none_refused : (world : WorldState) (patterns : Patterns) (p : List ℕ) → admits patterns p ≡ false → is_among p (admitted_paths patterns (now world).files) ≡ false
none_refused world patterns p out = among_admitted world patterns p ∙ turned_down patterns p (is_among p (paths (now world).files)) out

-- at a path that is admitted and not listed there is no file now
absent_now : (world : WorldState) (patterns : Patterns) (p : List ℕ) → admits patterns p ≡ true → is_among p (admitted_paths patterns (now world).files) ≡ false
    → Stands world (now world).generation (now world).sequence p None
absent_now world patterns p wanted none = subst (Stands world (now world).generation (now world).sequence p) nothing (stands_now world p)
  where
    nothing : file_at (now world).files p ≡ None
    nothing =
        absent (file_at (now world).files p)
        (fin.contains_key-keys (now world).files p ∙ left_over (admits patterns p) (is_among p (paths (now world).files)) wanted (sym (among_admitted world patterns p) ∙ none))

basis_true : (world : WorldState) (sent : List Request) (query : Query) (patterns : Patterns) → Contains sent (Basis query patterns)
    → IsTrueOf world sent (BasisIs query (position_of (now world)) (admitted_paths patterns (now world).files))
basis_true world sent query patterns asked =
    record {
      given = patterns;
      asked = asked;
      told = record { place = now_is_place world; refused = λ p out. none_refused world patterns p out; absent = λ p wanted none. absent_now world patterns p wanted none };
    }

list_true : (world : WorldState) (sent : List Request) (query : Query) (prefix : List ℕ) (patterns : Patterns) → Contains sent (Below query prefix patterns)
    → IsTrueOf world sent (ListIs query (position_of (now world)) prefix (below prefix (admitted_paths patterns (now world).files)))
list_true world sent query prefix patterns asked =
    record {
      given = patterns;
      asked = asked;
      told =
          record {
            refused = λ p out. among_below p ∙ ap (λ b. lies_below p prefix && b) (none_refused world patterns p out) ∙ and-false (lies_below p prefix);
            absent = λ p wanted under none. absent_now world patterns p wanted
                (left_over (lies_below p prefix) (is_among p (admitted_paths patterns (now world).files)) under (sym (among_below p) ∙ none));
          };
    }
  where
    among_below : (p : List ℕ) → is_among p (below prefix (admitted_paths patterns (now world).files)) ≡ (lies_below p prefix && is_among p (admitted_paths patterns (now world).files))
    among_below p = among_filter (λ q. lies_below q prefix) p (admitted_paths patterns (now world).files)

-- ---- of positions

-- what a position's status is decided by
pub by_status : (Holds : Option SinceFault → Type 0) (generation head floor : ℕ) (position : Position)
    → ((position.generation ≡ generation → ⊥) → Holds (Some (since_fault.Stale generation)))
    → (position.generation ≡ generation → head < position.sequence → Holds (Some (since_fault.Ahead head)))
    → (position.generation ≡ generation → position.sequence ≤ head → Holds (Some (since_fault.Truncated floor)))
    → (position.generation ≡ generation → position.sequence ≤ head → Holds None)
    → Holds (status generation head floor position)
by_status Holds generation head floor position stale ahead truncated good =
    by (position.generation == generation) (nat_lt head position.sequence) (nat_lt position.sequence floor) refl refl
  where
    by : (same later below : Bool) → (position.generation == generation) ≡ same → nat_lt head position.sequence ≡ later
        → Holds (if not same then Some (since_fault.Stale generation) else if later then Some (since_fault.Ahead head) else if below then Some (since_fault.Truncated floor) else None)
    by false later below s l = stale (eqb-false position.generation generation s)
    by true true below s l = ahead (eqb-true position.generation generation s) (ltb-true head position.sequence l)
    by true false true s l = truncated (eqb-true position.generation generation s) (ltb-false head position.sequence l)
    by true false false s l = good (eqb-true position.generation generation s) (ltb-false head position.sequence l)

poll_true : (world : WorldState) (sent : List Request) (query : Query) (since : Position) (patterns : Patterns) → IsLegal world → Contains sent (Poll query since patterns)
    → IsTrueOf world sent (polled world query since.sequence patterns (status_of world since))
poll_true world sent query since patterns legal asked =
    by_status (λ fault. IsTrueOf world sent (polled world query since.sequence patterns fault)) (now world).generation (now world).sequence (floor_of world) since
    (λ apart. tt) (λ same late. tt) (λ same before. tt) (λ same before. bounded_true world sent query _ (record { given = (since, patterns); asked = asked; told = told same before }))
  where
    told : since.generation ≡ (now world).generation → since.sequence ≤ (now world).sequence
        → PollTells world since patterns (position_of (now world)) (paths_of (admitted patterns (marked_since world since.sequence))) (prefixes_since world since.sequence)
    told same before =
        record {
          place = now_is_place world;
          alike = same;
          before = before;
          refused = λ p out. among_changes world since.sequence patterns p ∙ turned_down patterns p _ out;
          stays = λ p file wanted none outside is.
              record {
                row = now world;
                is_row = now_is_row world;
                alike = refl;
                after = omega arith;
                value = sym (still (commits_of world) (now world).generation since.sequence (now world).sequence world.opening world.past is.row p legal.1 is.is_row (is.alike ∙ same) is.after refl (omega arith)
                    (or_from _ _ (left_over (admits patterns p) _ wanted (sym (among_changes world since.sequence patterns p) ∙ none))
                    (below_listed p (prefixes_told (now world).generation since.sequence (now world).sequence world.past) outside))) ∙ is.value;
              };
        }

-- the reply to a request that was sent
pub reply_true : (world : WorldState) (sent : List Request) (request : Request) → IsLegal world → Contains sent request → IsTrueOf world sent (reply_of world request)
reply_true world sent (Basis query patterns) legal asked = bounded_true world sent query _ (basis_true world sent query patterns asked)
reply_true world sent (Fetch query path) legal asked = bounded_true world sent query _ (stands_now world path)
reply_true world sent (Poll query since patterns) legal asked = poll_true world sent query since patterns legal asked
reply_true world sent (Below query prefix patterns) legal asked = bounded_true world sent query _ (list_true world sent query prefix patterns asked)
