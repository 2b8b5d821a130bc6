-- Bytes that are held of a device, and given from the front.
use Rattle.std.proofs.Common.{◌≡◌, ℕ, ◌+◌, ◌-◌, ◌≤◌, List, ◌++◌, length, take, drop, slice_range, sym, ap, ◌∙◌, arith, length-take, length-take-le, length-drop, take-append-drop, drop-drop}
use Rattle.std.proofs.lemmas.List.{drop-take}
use Rattle.std.proofs.Math.Seq.{take-append_seam}

-- how long a range is
pub range_length : (bytes : List ℕ) (start end : ℕ) → start ≤ end → end ≤ length bytes → length (slice_range bytes start end) ≡ end - start
range_length bytes start end ordered within =
    length-take (end - start) (drop start bytes) ∙ omega (arith, length-drop start bytes)

-- what is left of a range after its first bytes
pub range_rest : (bytes : List ℕ) (start end count : ℕ) → count ≤ end - start → slice_range bytes (start + count) end ≡ drop count (slice_range bytes start end)
range_rest bytes start end count within =
    let whole : count + (end - (start + count)) ≡ end - start = omega (arith, within) in
    ap (take (end - (start + count))) (sym (drop-drop count start bytes))
    ∙ sym (drop-take count (end - (start + count)) (drop start bytes))
    ∙ ap (λ k. drop count (take k (drop start bytes))) whole

-- bytes whose first ones were copied to the front of others are those and the rest
pub given_front : (held copied behind rest : List ℕ) (count : ℕ) → count ≤ length held → copied ≡ take count held → rest ≡ drop count held
    → held ≡ take count (copied ++ behind) ++ rest
given_front held copied behind rest count within front left =
    let long : count ≡ length copied = sym (ap length front ∙ length-take-le count held within) in
    let whole : take count (copied ++ behind) ≡ copied = ap (λ n. take n (copied ++ behind)) long ∙ take-append_seam copied behind in
    sym (take-append-drop count held) ∙ (λ i. sym front i ++ sym left i) ∙ ap (λ bytes. bytes ++ rest) (sym whole)
