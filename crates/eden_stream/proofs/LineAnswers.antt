-- What is found of lines is what the pump asks.
use Rattle.std.proofs.Common.{Bool, ℕ, inl, inr, ◌<◌, ◌≤◌, ◌⊎◌, List, [], ◌∷◌, ◌++◌, length, take, drop, sym, subst, arith}
use Rattle.std.specs.Prelude.{⊤}
use Rattle.eden_stream.specs.Grammars.{Finds, HasItem}
use Rattle.eden_stream.specs.LineGrammar.{CutsLines, IsBeforeLong, line_grammar}
use Rattle.eden_stream.specs.Lines.{IsSpoken, IsTooLong}
use Rattle.eden_stream.specs.internal.LineSteps.{BeginsWith, FindsLine, IsLongUnended}
use Rattle.eden_stream.specs.declared.framing.Next.{Next}
use Rattle.eden_stream.specs.declared.framing.Next.TheVariants.{Item, Skipped, Partial, Faulty}
use Rattle.eden_stream.proofs.LineCuts.{before_long, cut_shortened, same_line, same_skipped, still_unended, takes_first}

finds_item : (ended : Bool) (held : List ℕ) (size whole : ℕ) → size ≤ whole → 0 < whole → whole ≤ length held → IsSpoken (take size held)
    → BeginsWith ended held (take size held) (drop whole held) → HasItem line_grammar ended held 0 size whole
finds_item ended held size whole inside some within spoken begins = record {
  some = some;
  within = within;
  inside = omega (arith, inside);
  item = spoken;
  takes = λ stream items cut.
      let next = takes_first ended stream items held (take size held) (drop whole held) cut begins in
      subst (λ (item : List ℕ). CutsLines ended stream (items ++ item ∷ []) (drop whole held)) (same_line next.0 (take size held) next.1 spoken.1) next.2;
}

-- a line that is too long, with its end or without
finds_long : (ended : Bool) (stream : List ℕ) (items : List (List ℕ)) (held : List ℕ) → CutsLines ended stream items held
    → ((line : List ℕ) × (left : List ℕ) × IsTooLong line × BeginsWith ended held line left) ⊎ IsLongUnended held → IsBeforeLong ended stream items
finds_long ended stream items held cut (inl f) =
    let next = takes_first ended stream items held f.0 f.1 cut f.3 in
    (next.0, subst IsTooLong (sym (same_line next.0 f.0 next.1 f.2.1)) f.2, inl (f.1, next.2))
finds_long ended stream items held cut (inr f) = (held, (omega (arith, f.2), f.1), inr (before_long ended stream items held cut f))

pub line_finds : (ended : Bool) (held now : List ℕ) (next : Next ⊤) → FindsLine ended held now next → Finds line_grammar ended now next
line_finds ended held now (Item place size whole) f =
    subst (λ (bytes : List ℕ). HasItem line_grammar ended bytes place size whole) (sym f.0)
    (subst (λ (n : ℕ). HasItem line_grammar ended held n size whole) (sym f.1) (finds_item ended held size whole f.2 f.3 f.4 f.5 f.6))
line_finds ended held now (Skipped whole) f = record {
  some = f.1;
  within = subst (λ (bytes : List ℕ). whole ≤ length bytes) (sym f.0) f.2;
  takes = λ stream items cut.
      let line = f.3.0 in
      let next = takes_first ended stream items held line (drop whole held) (subst (CutsLines ended stream items) f.0 cut) f.3.2 in
      (next.0, same_skipped next.0 line next.1 f.3.1, subst (λ (bytes : List ℕ). CutsLines ended stream (items ++ next.0 ∷ []) (drop whole bytes)) (sym f.0) next.2);
}
line_finds ended held now Partial f = (still_unended held now f.0 f.1, f.2)
line_finds ended held now (Faulty fault) f = λ stream items cut. finds_long ended stream items held (subst (CutsLines ended stream items) f.0 cut) f.1

pub line_kept : (ended : Bool) (held now : List ℕ) (next : Next ⊤) → FindsLine ended held now next → (stream : List ℕ) (items : List (List ℕ))
    → CutsLines ended stream items held → CutsLines ended stream items now
line_kept ended held now (Item place size whole) f stream items cut = subst (CutsLines ended stream items) (sym f.0) cut
line_kept ended held now (Skipped whole) f stream items cut = subst (CutsLines ended stream items) (sym f.0) cut
line_kept ended held now Partial f stream items cut = cut_shortened ended stream items held now f.0 f.1 cut
line_kept ended held now (Faulty fault) f stream items cut = subst (CutsLines ended stream items) (sym f.0) cut
