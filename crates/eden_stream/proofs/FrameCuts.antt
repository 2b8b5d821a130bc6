-- A stream is cut into frames in one way, and how the first frame of some bytes is found.
use Rattle.std.proofs.Common.{◌≡◌, ℕ, ◌+◌, ◌<◌, ◌≤◌, inl, inr, List, [], ◌∷◌, ◌++◌, length, get_or, take, drop, refl, sym, ap, ◌∙◌, subst, arith, append_assoc, length-append}
use Rattle.std.specs.Int.{w32, from_be_bytes, to_be_bytes}
use Rattle.std.specs.List.{All, flat_map}
use Rattle.std.proofs.lemmas.Bool.{cases_lt}
use Rattle.std.proofs.lemmas.List.{take_at, drop_at, take-append-drop, drop-drop, length-drop, length-take, get_or-take, get_or_past}
use Rattle.std.proofs.lemmas.List.Concat.{flat_map-cons}
use Rattle.std.proofs.lemmas.List.Elements.{All-tail}
use Rattle.std.proofs.lemmas.Nat.{be_bytes_4, from_be_bytes-to_be_bytes_4}
use Rattle.eden_stream.specs.Frames.{IsBody, body_limit, frame, given_length}
use Rattle.eden_stream.specs.FrameLaws.{HasNoFrame, IsCutOneWay, IsPrefixFree}
use Rattle.eden_stream.specs.internal.Fronts.{HasFrame}

length_bytes : (n : ℕ) → length (to_be_bytes w32 n) ≡ 4
length_bytes n = refl

-- a frame's first four bytes are the length of its body
pub given_length-frame : (body more : List ℕ) → IsBody body → given_length (frame body ++ more) ≡ length body
unfolding frame given_length
given_length-frame body more within =
    let size = to_be_bytes w32 (length body) in
    ap (λ bytes. from_be_bytes w32 (take 4 bytes)) (append_assoc size body more)
    ∙ ap (from_be_bytes w32) (take_at size (body ++ more) 4 (length_bytes (length body)))
    ∙ from_be_bytes-to_be_bytes_4 (length body) (omega arith)

-- what follows them
behind-frame : (body more : List ℕ) → drop 4 (frame body ++ more) ≡ body ++ more
unfolding frame
behind-frame body more =
    let size = to_be_bytes w32 (length body) in
    ap (drop 4) (append_assoc size body more) ∙ drop_at size (body ++ more) 4 (length_bytes (length body))

length-frame : (body : List ℕ) → length (frame body) ≡ 4 + length body
unfolding frame
length-frame body = length-append (to_be_bytes w32 (length body)) body ∙ ap (λ n. n + length body) (length_bytes (length body))

pub prefix_free : IsPrefixFree
prefix_free body other more last within also e =
    let same : length body ≡ length other = sym (given_length-frame body more within) ∙ ap given_length e ∙ given_length-frame other last also in
    let behind : body ++ more ≡ other ++ last = sym (behind-frame body more) ∙ ap (drop 4) e ∙ behind-frame other last in (
      sym (take_at body more (length body) refl) ∙ ap (take (length body)) behind ∙ take_at other last (length body) (sym same),
      sym (drop_at body more (length body) refl) ∙ ap (drop (length body)) behind ∙ drop_at other last (length body) (sym same),
    )

-- no rest begins with a whole frame
no_frame : (rest body more : List ℕ) → HasNoFrame rest → IsBody body → rest ≡ frame body ++ more → ⊥
no_frame rest body more (inl (inl short)) within e = omega (arith, short, ap length e, length-append (frame body) more, length-frame body)
no_frame rest body more (inl (inr short)) within e =
    omega (arith, short.1, ap length e, ap given_length e, given_length-frame body more within, length-append (frame body) more, length-frame body)
no_frame rest body more (inr long) within e = omega (arith, long.1, ap given_length e, given_length-frame body more within, within)

cons-rest : (body : List ℕ) (bodies : List (List ℕ)) (rest : List ℕ) → flat_map frame (body ∷ bodies) ++ rest ≡ frame body ++ (flat_map frame bodies ++ rest)
cons-rest body bodies rest = ap (λ bytes. bytes ++ rest) (flat_map-cons frame body bodies) ∙ append_assoc (frame body) (flat_map frame bodies) rest

first_is : (body : List ℕ) (bodies : List (List ℕ)) → All IsBody (body ∷ bodies) → IsBody body
first_is body bodies each = each 0 body (omega arith)

same_cut : (bodies others : List (List ℕ)) (rest last : List ℕ) → All IsBody bodies → All IsBody others → HasNoFrame rest → HasNoFrame last
    → flat_map frame bodies ++ rest ≡ flat_map frame others ++ last → (bodies ≡ others) × (rest ≡ last)
same_cut [] [] rest last each all none done e = (refl, e)
same_cut [] (other ∷ others) rest last each all none done e =
    absurd (no_frame rest other (flat_map frame others ++ last) none (first_is other others all) (e ∙ cons-rest other others last))
same_cut (body ∷ bodies) [] rest last each all none done e =
    absurd (no_frame last body (flat_map frame bodies ++ rest) done (first_is body bodies each) (sym e ∙ cons-rest body bodies rest))
same_cut (body ∷ bodies) (other ∷ others) rest last each all none done e =
    let front = prefix_free body other (flat_map frame bodies ++ rest) (flat_map frame others ++ last) (first_is body bodies each) (first_is other others all)
    (sym (cons-rest body bodies rest) ∙ e ∙ cons-rest other others last) in
    let more = same_cut bodies others rest last (All-tail IsBody body bodies each) (All-tail IsBody other others all) none done front.1 in
    (ap (λ first. first ∷ bodies) front.0 ∙ ap (λ behind. other ∷ behind) more.0, more.1)

pub one_way : IsCutOneWay
one_way stream bodies others rest last cut none again done = same_cut bodies others rest last cut.each again.each none done (sym cut.whole ∙ again.whole)

-- the bytes that a frame's length announces are there
first_bytes : (bytes : List ℕ) → ((i : ℕ) → get_or bytes i 0 < 256) → (i : ℕ) → get_or (take 4 bytes) i 0 < 256
first_bytes bytes fits i =
    elim (cases_lt i 4) [
      | inl l ↦ subst (λ byte. byte < 256) (sym (get_or-take 4 bytes i 0 l)) (fits i)
      | inr l ↦ subst (λ byte. byte < 256) (sym (get_or_past (take 4 bytes) i 0 (omega (arith, length-take 4 bytes)))) (omega arith)
    ]

frame-parts : (body : List ℕ) (first : List ℕ) → to_be_bytes w32 (length body) ≡ first → frame body ≡ first ++ body
unfolding frame
frame-parts body first e = ap (λ size. size ++ body) e

given_length-is : (bytes : List ℕ) → given_length bytes ≡ from_be_bytes w32 (take 4 bytes)
unfolding given_length
given_length-is bytes = refl

pub has_frame : (bytes : List ℕ) (size : ℕ) → ((i : ℕ) → get_or bytes i 0 < 256) → size ≡ given_length bytes → size ≤ body_limit → 4 + size ≤ length bytes → HasFrame bytes size
has_frame bytes size fits tells within room =
    let behind = drop 4 bytes in
    let body = take size behind in
    let first = take 4 bytes in
    let len : length body ≡ size = omega (arith, length-take size behind, length-drop 4 bytes) in
    let four : length first ≡ 4 = omega (arith, length-take 4 bytes) in
    let spelled : to_be_bytes w32 (length body) ≡ first = be_bytes_4 first (length body) four (first_bytes bytes fits) (len ∙ tells ∙ given_length-is bytes) in
    let after : drop size behind ≡ drop (4 + size) bytes = drop-drop size 4 bytes in
    record {
      within = within;
      room = room;
      cut = sym (take-append-drop 4 bytes) ∙ ap (λ part. first ++ part) (sym (take-append-drop size behind) ∙ ap (λ part. body ++ part) after)
          ∙ sym (append_assoc first body (drop (4 + size) bytes)) ∙ ap (λ part. part ++ drop (4 + size) bytes) (sym (frame-parts body first spelled));
    }
