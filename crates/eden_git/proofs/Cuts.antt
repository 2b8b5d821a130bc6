-- Cutting bytes at the first that is some byte.
use Rattle.std.proofs.Common.{◌≡◌, refl, ap, ℕ, zero, suc, ◌+◌, ◌-◌, ◌<◌, ◌≤◌, Bool, true, false, cond, List, [], ◌∷◌, take, drop, length, Option, Some, None, nat_eq, slice_index, arith}
use Rattle.std.proofs.lemmas.List.{take_rest}
use Rattle.eden_git.specs.Trees.{cut, before_more}

-- a byte is at none of the first places
abbrev Misses : ℕ → List ℕ → ℕ → Type 0
Misses byte bytes end = (k : ℕ) → 0 ≤ k → k < end → ¬ (nat_eq (slice_index bytes k) byte ≡ true)

behind_first : (byte x end : ℕ) (bytes : List ℕ) → Misses byte (x ∷ bytes) (suc end) → Misses byte bytes end
behind_first byte x end bytes misses k low high = misses (suc k) (omega arith) (omega arith)

stepped : (byte x end : ℕ) (bytes : List ℕ) (parts : Option (List ℕ × List ℕ)) → Misses byte (x ∷ bytes) (suc end) → cut byte bytes ≡ parts
    → cut byte (x ∷ bytes) ≡ before_more x parts
stepped byte x end bytes parts misses rest = by (nat_eq x byte) (misses 0 (omega arith) (omega arith))
  where
    by : (t : Bool) → ¬ (t ≡ true) → cond t (Some ([], bytes)) (before_more x (cut byte bytes)) ≡ before_more x parts
    by true not = absurd (not refl)
    by false not = ap (before_more x) rest

pub not_cut : (byte : ℕ) (bytes : List ℕ) → Misses byte bytes (length bytes) → cut byte bytes ≡ None
not_cut byte [] misses = refl
not_cut byte (x ∷ bytes) misses = stepped byte x (length bytes) bytes None misses (not_cut byte bytes (behind_first byte x (length bytes) bytes misses))

cut_there : (byte at : ℕ) (bytes : List ℕ) → at < length bytes → Misses byte bytes at → nat_eq (slice_index bytes at) byte ≡ true
    → cut byte bytes ≡ Some (take at bytes, drop (suc at) bytes)
cut_there byte at [] within misses is = absurd (omega arith)
cut_there byte zero (x ∷ bytes) within misses is = rw is refl
cut_there byte (suc at) (x ∷ bytes) within misses is =
    stepped byte x at bytes (Some (take at bytes, drop (suc at) bytes)) misses (cut_there byte at bytes (omega arith) (behind_first byte x at bytes misses) is)

pub cut_at : (byte at : ℕ) (bytes : List ℕ) → at < length bytes → Misses byte bytes at → nat_eq (slice_index bytes at) byte ≡ true
    → Some (take at bytes, take (length bytes - (at + 1)) (drop (at + 1) bytes)) ≡ cut byte bytes
cut_at byte at bytes within misses is =
    let next : at + 1 ≡ suc at = omega arith in
    rw (take_rest bytes (at + 1), next, cut_there byte at bytes within misses is) refl
