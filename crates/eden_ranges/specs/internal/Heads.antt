-- The first bytes of a path as a number, by which mentions are sorted first.
use Rattle.std.specs.Prelude.{◌≡◌, ℕ, suc, zero, ◌+◌, ◌*◌, List, [], ◌∷◌}
use Rattle.eden_ids.specs.Texts.{AreBytes}
use Rattle.eden_ranges.specs.declared.sorting.Headed.{Headed}

-- how many numbers n bytes have
abbrev pub worth : ℕ → ℕ
worth zero = 1
worth (suc n) = worth n * 256

-- the first n bytes as a number, the first one highest; a missing one counts as 0
abbrev pub head_from : ℕ → List ℕ → ℕ
head_from zero bytes = 0
head_from (suc n) [] = 0
head_from (suc n) (byte ∷ bytes) = byte * worth n + head_from n bytes

-- what headed mentions are sorted by
abbrev pub key : Headed → List ℕ
key headed = headed.head ∷ headed.mention.path.now

-- the head is that of the path
pub record IsHeaded (headed : Headed) : Type 0 where
  pub head : headed.head ≡ head_from 8 headed.mention.path.now
  pub bytes : AreBytes headed.mention.path.now
