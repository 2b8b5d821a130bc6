-- How a stream of bytes is cut into items, such as lines or frames, while it comes.
use Rattle.std.specs.Prelude.{Bool, true, false, ℕ, ◌+◌, ◌<◌, ◌≤◌, List, [], ◌∷◌, ◌++◌, length, take, drop}
use Rattle.eden_stream.specs.declared.framing.Next.{Next}
use Rattle.eden_stream.specs.declared.framing.Next.TheVariants.{Item, Skipped, Partial, Faulty}

-- What a way of cutting says. `ended` is whether no more bytes come, `items` those that are cut
-- off, and `held` what is kept of the bytes after them.
pub record Grammar (E : Type 0) : Type 1 where
  -- the stream so far is these items, and what is kept of the rest
  pub cut : Bool → List ℕ → List (List ℕ) → List ℕ → Type 0
  -- the item asks for an answer
  pub item : List ℕ → Type 0
  -- the item asks for none
  pub silent : List ℕ → Type 0
  -- no item ends in what is kept, and none is faulty so far
  pub partial : Bool → List ℕ → Type 0
  -- what is kept can't become an item, for this fault
  pub faulty : Bool → List ℕ → List (List ℕ) → List ℕ → E → Type 0

-- Every way of cutting starts with no item, keeps what comes, and takes the end as it is.
pub record IsGrammar {E : Type 0} (grammar : Grammar E) : Type 0 where
  pub start : grammar.cut false [] [] []
  pub grows : (stream : List ℕ) (items : List (List ℕ)) (held got : List ℕ) → grammar.cut false stream items held → grammar.cut false (stream ++ got) items (held ++ got)
  pub ends : (stream : List ℕ) (items : List (List ℕ)) (held : List ℕ) → grammar.cut false stream items held → grammar.cut true stream items held

-- The kept bytes begin with an item, which has `size` bytes from `place` on, and ends where `whole`
-- bytes do.
pub record HasItem {E : Type 0} (grammar : Grammar E) (ended : Bool) (held : List ℕ) (place size whole : ℕ) : Type 0 where
  pub some : 0 < whole
  pub within : whole ≤ length held
  pub inside : place + size ≤ whole
  pub item : grammar.item (take size (drop place held))
  pub takes : (stream : List ℕ) (items : List (List ℕ)) → grammar.cut ended stream items held
      → grammar.cut ended stream (items ++ take size (drop place held) ∷ []) (drop whole held)

-- The kept bytes begin with an item that asks for no answer, and ends where `whole` bytes do.
pub record HasSilent {E : Type 0} (grammar : Grammar E) (ended : Bool) (held : List ℕ) (whole : ℕ) : Type 0 where
  pub some : 0 < whole
  pub within : whole ≤ length held
  pub takes : (stream : List ℕ) (items : List (List ℕ)) → grammar.cut ended stream items held
      → (item : List ℕ) × grammar.silent item × grammar.cut ended stream (items ++ item ∷ []) (drop whole held)

-- What the kept bytes begin with.
abbrev pub Finds : {E : Type 0} → Grammar E → Bool → List ℕ → Next E → Type 0
Finds grammar ended held (Item place size whole) = HasItem grammar ended held place size whole
Finds grammar ended held (Skipped whole) = HasSilent grammar ended held whole
Finds grammar ended held Partial = grammar.partial ended held
Finds grammar ended held (Faulty fault) = (stream : List ℕ) (items : List (List ℕ)) → grammar.cut ended stream items held → grammar.faulty ended stream items held fault
