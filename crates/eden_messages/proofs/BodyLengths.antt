-- How long the bodies of replies are, and what is done with one that is too long.
use Rattle.std.proofs.Common.{◌≡◌, ℕ, ◌+◌, ◌<◌, true, false, cond, nat_lt, List, [], ◌∷◌, length, get_or, take, Option, Some, None, refl, ap, arith}
use Rattle.std.specs.List.{flat_map}
use Rattle.std.proofs.lemmas.List.{length-append}
use Rattle.std.proofs.lemmas.Bool.{lt-ltb}
use Rattle.std.proofs.lemmas.List.Folds.{length-flat_map-take}
use Rattle.eden_ids.specs.declared.content.Content.{Content}
use Rattle.eden_globs.specs.Filters.{Patterns}
use Rattle.eden_history.specs.declared.mark.Marked.{Marked}
use Rattle.eden_history.specs.declared.position.Position.{Position}
use Rattle.eden_messages.specs.declared.message.Cause.TheVariants.{TooLarge}
use Rattle.eden_messages.specs.declared.message.Query.{Query}
use Rattle.eden_messages.specs.declared.message.Request.TheVariants.{Basis, Poll, Fetch, List as Below}
use Rattle.eden_messages.specs.declared.message.Reply.{Reply}
use Rattle.eden_messages.specs.declared.message.Reply.TheVariants.{BasisIs, ChangesAre, ContentIs, Refused, ListIs}
use Rattle.eden_messages.specs.Replies.{bounded}
use Rattle.eden_messages.specs.Spells.{position_bytes, text_bytes, marked_bytes, excluded_bytes, filter_bytes, content_bytes, request_bytes, reply_bytes, if_small}
use Rattle.eden_stream.specs.Frames.{body_limit}

-- a list whose bytes are too many up to a place has too many
pub front_small : {A : Type 0} (bytes : A → List ℕ) (i : ℕ) (list : List A) (x : A) → i < length list → x ≡ get_or list i x
    → 16777216 < length (flat_map bytes (take i list)) + length (bytes x) → if_small (length (flat_map bytes list)) ≡ None
front_small bytes i list x more is long =
    let all = length-flat_map-take bytes list i x more in
    let same : length (bytes x) ≡ length (bytes (get_or list i x)) = ap (λ y. length (bytes y)) is in
    let many : 16777216 < length (flat_map bytes list) = omega (arith, all, same, long) in
    rw (lt-ltb 16777216 (length (flat_map bytes list)) many) refl

pub paths_front_small : (i : ℕ) (list : List (List ℕ)) (path : List ℕ) → i < length list → path ≡ get_or list i path
    → 16777216 < length (flat_map text_bytes (take i list)) + length (text_bytes path) → if_small (length (flat_map text_bytes list)) ≡ None
paths_front_small i list path more is long = front_small text_bytes i list path more is long

pub list_front_small : (i : ℕ) (list : List Marked) (marked : Marked) → i < length list → marked ≡ get_or list i marked
    → 16777216 < length (flat_map marked_bytes (take i list)) + length (marked_bytes marked) → if_small (length (flat_map marked_bytes list)) ≡ None
list_front_small i list marked more is long = front_small marked_bytes i list marked more is long

pub none_excluded_len : (patterns : List (List ℕ)) → length patterns ≡ 0 → length (excluded_bytes patterns) ≡ 0
none_excluded_len [] none = refl
none_excluded_len (p ∷ ps) none = absurd (omega (arith, none))

pub excluded_len : (patterns : List (List ℕ)) → 0 < length patterns → length (excluded_bytes patterns) ≡ 2 + length (filter_bytes patterns)
excluded_len [] some = absurd (omega (arith, some))
excluded_len (p ∷ ps) some = omega arith

pub basis_request_len : (query : Query) (filter : Patterns)
    → length (request_bytes (Basis query filter)) ≡ 26 + (length (excluded_bytes filter.excluded) + length (filter_bytes filter.included))
basis_request_len query filter = simp length-append (omega arith)

pub poll_len : (query : Query) (since : Position) (filter : Patterns)
    → length (request_bytes (Poll query since filter)) ≡ 26 + length (position_bytes since) + (length (excluded_bytes filter.excluded) + length (filter_bytes filter.included))
poll_len query since filter = simp length-append (omega arith)

pub fetch_len : (query : Query) (path : List ℕ) → length (request_bytes (Fetch query path)) ≡ 26 + length (text_bytes path)
fetch_len query path = simp length-append (omega arith)

pub list_request_len : (query : Query) (prefix : List ℕ) (filter : Patterns)
    → length (request_bytes (Below query prefix filter)) ≡ 26 + length (text_bytes prefix) + (length (excluded_bytes filter.excluded) + length (filter_bytes filter.included))
list_request_len query prefix filter = simp length-append (omega arith)

pub basis_len : (query : Query) (position : Position) (paths : List (List ℕ))
    → length (reply_bytes (BasisIs query position paths)) ≡ 30 + length (position_bytes position) + length (flat_map text_bytes paths)
basis_len query position paths = simp length-append (omega arith)

pub changes_len : (query : Query) (target : Position) (list : List Marked) (prefixes : List (List ℕ))
    → length (reply_bytes (ChangesAre query target list prefixes))
    ≡ 34 + length (position_bytes target) + length (flat_map marked_bytes list) + length (flat_map text_bytes prefixes)
changes_len query target list prefixes = simp length-append (omega arith)

pub content_len : (query : Query) (position : Position) (path : List ℕ) (content : Option Content)
    → length (reply_bytes (ContentIs query position path content)) ≡ 26 + length (position_bytes position) + length (text_bytes path) + length (content_bytes content)
content_len query position path content = simp length-append (omega arith)

pub list_len : (query : Query) (position : Position) (prefix : List ℕ) (paths : List (List ℕ))
    → length (reply_bytes (ListIs query position prefix paths))
    ≡ 30 + length (position_bytes position) + length (text_bytes prefix) + length (flat_map text_bytes paths)
list_len query position prefix paths = simp length-append (omega arith)

-- ---- what is replied in its place

pub kept_small : (query : Query) (reply : Reply) (n : ℕ) → Some n ≡ if_small (length (reply_bytes reply)) → reply ≡ bounded query reply
unfolding bounded
kept_small query reply n e =
    elim (nat_lt body_limit (length (reply_bytes reply))) as (λ b. Some n ≡ cond b None (Some (length (reply_bytes reply))) → reply ≡ cond b (Refused query TooLarge) reply) [
      | true ↦ λ h. absurd cc
      | false ↦ λ h. refl
    ] e

pub refused_large : (query : Query) (reply : Reply) → None ≡ if_small (length (reply_bytes reply)) → Refused query TooLarge ≡ bounded query reply
unfolding bounded
refused_large query reply e =
    elim (nat_lt body_limit (length (reply_bytes reply))) as (λ b. None ≡ cond b None (Some (length (reply_bytes reply))) → Refused query TooLarge ≡ cond b (Refused query TooLarge) reply) [
      | true ↦ λ h. refl
      | false ↦ λ h. absurd cc
    ] e
