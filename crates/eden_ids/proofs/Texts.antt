-- What a type says of the bytes that it holds, place by place and all together.
use Rattle.std.proofs.Common.{ℕ, zero, suc, ◌<◌, List, [], ◌∷◌, get_or, arith}
use Rattle.eden_ids.specs.Texts.{AreBytes}

pub bytes_are : (bytes : List ℕ) → ((i : ℕ) → get_or bytes i 0 < 256) → AreBytes bytes
bytes_are [] below = tt
bytes_are (b ∷ bytes) below = (below 0, bytes_are bytes (λ i. below (suc i)))

pub bytes_at : (bytes : List ℕ) → AreBytes bytes → (i : ℕ) → get_or bytes i 0 < 256
bytes_at [] are i = omega arith
bytes_at (b ∷ bytes) are zero = are.0
bytes_at (b ∷ bytes) are (suc i) = bytes_at bytes are.1 i
