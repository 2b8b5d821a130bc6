-- How a device's counts move: of the calls that it was given, and of those that failed.
use Rattle.std.specs.Prelude.{◌≡◌, ℕ, ◌+◌, ◌-◌, ◌^◌, ◌<◌, ◌≤◌, min, List, length, Result, MatchResult}

-- the next count: one more, or the same if it is the largest u64 already
abbrev pub one_more : ℕ → ℕ
one_more count = min (count + 1) (2 ^ 64 - 1)

-- a read, or a flush, that gave an error counts as failed, and no other does
abbrev pub CountsRead : {A E : Type 0} → ℕ → ℕ → Result A E → Type 0
CountsRead old new result = MatchResult result (λ _. new ≡ old) (λ _. new ≡ one_more old)

-- a write that gave an error, or took none of some bytes, counts as failed, and no other does
abbrev pub CountsWrite : {E : Type 0} → ℕ → ℕ → Result ℕ E → List ℕ → Type 0
CountsWrite old new result bytes = MatchResult result
    (λ taken. (0 < taken → new ≡ old) × (taken ≡ 0 → 0 < length bytes → new ≡ one_more old) × (length bytes ≡ 0 → new ≡ old))
    (λ _. new ≡ one_more old)

-- a count rose by n or more, or is the largest u64
abbrev pub RoseBy : ℕ → ℕ → ℕ → Type 0
RoseBy n old new = min (old + n) (2 ^ 64 - 1) ≤ new

-- a count rose, or is the largest u64
abbrev pub Rose : ℕ → ℕ → Type 0
Rose old new = RoseBy 1 old new

-- a count did not fall, of those that a u64 holds
abbrev pub Grew : ℕ → ℕ → Type 0
Grew old new = RoseBy 0 old new
