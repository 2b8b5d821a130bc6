-- A writer that keeps its bytes, and then writes.
use Rattle.std.proofs.Common.{ℕ, List, ◌++◌, Option, None, Some, Result, Ok, Err, refl, ap, ◌∙◌}
use Rattle.std.specs.Prelude.{IsErr}
use Rattle.std.specs.Io.KnownBytes.{Appends, Keeps, WriteAppends}

pub keeps_at_first : (a : Option (List ℕ)) → Keeps a a
keeps_at_first None = tt
keeps_at_first (Some xs) = refl

keeps_on : (a b c : Option (List ℕ)) → Keeps a b → Keeps b c → Keeps a c
keeps_on None b c first next = tt
keeps_on (Some xs) None c first next = absurd first
keeps_on (Some xs) (Some ys) None first next = absurd next
keeps_on (Some xs) (Some ys) (Some zs) first next = next ∙ first

appends_on : (a b c : Option (List ℕ)) (bs : List ℕ) → Keeps a b → Appends b c bs → Appends a c bs
appends_on None b c bs first next = tt
appends_on (Some xs) None c bs first next = absurd first
appends_on (Some xs) (Some ys) None bs first next = absurd next
appends_on (Some xs) (Some ys) (Some zs) bs first next = next ∙ ap (λ l. l ++ bs) first

module _ {E : Type 0} (a b c : Option (List ℕ)) (buf : List ℕ) where
  pub writes_on : (r : Result ℕ E) → Keeps a b → WriteAppends b c r buf → WriteAppends a c r buf
  writes_on (Ok n) first next = appends_on a b c _ first next
  writes_on (Err e) first next = keeps_on a b c first next

  -- a write that failed has written nothing
  pub fails_on : (r : Result ℕ E) → Keeps a b → WriteAppends b c r buf → IsErr r → Keeps a c
  fails_on (Ok n) first next failed = absurd cc
  fails_on (Err e) first next failed = keeps_on a b c first next
