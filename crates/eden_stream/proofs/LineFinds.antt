-- A line that has its end, as the steps find it.
use Rattle.std.proofs.Common.{Bool, true, false, cond, ◌-◌, ◌≡◌, ℕ, ◌+◌, ◌≤◌, inl, List, length, get_or, take, drop, refl, sym, ap, ◌∙◌, subst, arith}
use Rattle.std.specs.Prelude.{⊤}
use Rattle.std.specs.Str.Lines.{strip_carriage_return}
use Rattle.std.proofs.Math.Dec.{eqb}
use Rattle.std.proofs.lemmas.List.{length-take-le, take_all, take-take}
use Rattle.eden_stream.specs.Lines.{IsSpoken}
use Rattle.eden_stream.specs.internal.LineSteps.{BreaksAt}
use Rattle.eden_stream.specs.internal.LineSteps.{BeginsWith, FindsLine, Judges}
use Rattle.eden_stream.specs.declared.framing.Next.{Next}
use Rattle.eden_stream.specs.declared.framing.Next.TheVariants.{Item, Skipped, Partial, Faulty}
use Rattle.eden_stream.proofs.Breaks.{breaks_cut}

-- a line less the carriage return at its end is a front of it
abbrev IsFront : List ℕ → List ℕ → Type 0
IsFront front bytes = (length front ≤ length bytes) × (take (length front) bytes ≡ front)

stripped_front : (bytes : List ℕ) (b : Bool) → IsFront (cond b (take (length bytes - 1) bytes) bytes) bytes
stripped_front bytes false = (omega arith, take_all (length bytes) bytes (omega arith))
stripped_front bytes true =
    let n = length bytes - 1 in
    let len : length (take n bytes) ≡ n = length-take-le n bytes (omega arith) in
    (omega (arith, len), ap (λ m. take m bytes) len)

-- and so of any bytes that the line is a front of
line_front : (bytes : List ℕ) (n : ℕ) → n ≤ length bytes → (line : List ℕ) → IsFront line (take n bytes) → (length line ≤ n) × (take (length line) bytes ≡ line)
line_front bytes n within line f =
    let len : length (take n bytes) ≡ n = length-take-le n bytes within in
    let short : length line ≤ n = omega (arith, len, f.0) in
    (short, sym (take-take (length line) n bytes short) ∙ f.1)

item_found : (ended : Bool) (held line left : List ℕ) (place size whole : ℕ) → place ≡ 0 → size ≡ length line → (length line ≤ whole) × (take (length line) held ≡ line) → whole ≤ length held
    → left ≡ drop whole held → IsSpoken line → BeginsWith ended held line left → FindsLine ended held held (Item place size whole)
item_found ended held line left place size whole p s front within e spoken begins =
    let here : take size held ≡ line = ap (λ n. take n held) s ∙ front.1 in (
      refl,
      p,
      omega (arith, s, front.0),
      omega (arith, front.0, spoken.0),
      within,
      subst IsSpoken (sym here) spoken,
      subst (λ (bytes : List ℕ). BeginsWith ended held bytes (drop whole held)) (sym here) (subst (BeginsWith ended held line) e begins),
    )

-- a line that has its end
pub found_whole : (ended : Bool) (held : List ℕ) (end : ℕ) (next : Next ⊤) → BreaksAt held end → Judges (strip_carriage_return (take end held)) (end + 1) next → FindsLine ended held held next
found_whole ended held end (Item place size whole) here j =
    let raw = take end held in
    let front = line_front held end (omega (arith, here.within)) (strip_carriage_return raw) (stripped_front raw (eqb (get_or raw (length raw - 1) 0) 13)) in
    let left : drop (end + 1) held ≡ drop whole held = ap (λ n. drop n held) (sym j.2) in
    item_found ended held (strip_carriage_return raw) (drop (end + 1) held) place size whole j.0 j.1 (omega (arith, front.0, j.2), front.1) (omega (arith, j.2, here.within)) left j.3
    (inl (raw, breaks_cut held end here, here.before, refl))
found_whole ended held end (Skipped whole) here j =
    let raw = take end held in
    let left : drop (end + 1) held ≡ drop whole held = ap (λ n. drop n held) (sym j.0) in (
      refl,
      omega (arith, j.0),
      omega (arith, j.0, here.within),
      (strip_carriage_return raw, j.1, subst (BeginsWith ended held (strip_carriage_return raw)) left (inl (raw, breaks_cut held end here, here.before, refl))),
    )
found_whole ended held end Partial here j = absurd j
found_whole ended held end (Faulty fault) here j =
    let raw = take end held in
    (refl, inl (strip_carriage_return raw, drop (end + 1) held, j, inl (raw, breaks_cut held end here, here.before, refl)))
