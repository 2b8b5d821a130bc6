-- Marks after one more ticket.
use Rattle.std.proofs.Common.{◌≡◌, ◌≢◌, ◌<◌, ◌⊎◌, ℕ, zero, suc, ◌-◌, Bool, true, false, List, [], ◌∷◌, ◌++◌, length, get_or, set, replicate, refl, sym, ◌∙◌, ap, subst, inl, inr, arith}
use Rattle.std.specs.Prelude.{IsTrue, Contains, All, ◌==◌}
use Rattle.std.specs.Bool.{Decides}
use Rattle.std.proofs.lemmas.Bool.Decides.{Decides-eqb}
use mathlib.Core.Bool.{true≢false}
use Rattle.std.proofs.lemmas.List.{get_or-set_same, get_or-set_other}
use Rattle.std.proofs.lemmas.List.Elements.{Contains-push, Contains-push_cases, Contains-append_left}
use Rattle.eden_logs.specs.declared.call.CallAnswer.{CallAnswer}
use Rattle.eden_logs.specs.declared.history.HistoryEntry.{HistoryEntry}
use Rattle.eden_logs.specs.declared.log.LogEntry.{LogEntry}
use Rattle.eden_logs.specs.Logs.{AllGood, IsNumber}
use Rattle.eden_shared.specs.internal.Marks.{Marks, is_marked}
use Rattle.eden_logs.proofs.Covered.{under_number}

-- a ticket's mark after one was set
set_mark : (marks : List Bool) (place : ℕ) → place < length marks → is_marked (set marks place true) (suc place) ≡ true
set_mark marks place h = get_or-set_same marks place true false h

other_mark : (marks : List Bool) (place : ℕ) (ticket : ℕ) → ticket ≢ suc place → is_marked (set marks place true) ticket ≡ is_marked marks ticket
other_mark marks place zero h = refl
other_mark marks place (suc k) h = get_or-set_other marks place k true false (λ e. h (ap suc e))

same_or_other : (a b : ℕ) → (a ≡ b) ⊎ (a ≢ b)
same_or_other a b = by (a == b) (Decides-eqb a b) where
  by : (r : Bool) → Decides r (a ≡ b) → (a ≡ b) ⊎ (a ≢ b)
  by true d = inl (d.0 refl)
  by false d = inr (λ e. absurd (true≢false (sym (d.1 e))))

pub marks_more : (marks : List Bool) (ticket : ℕ) (earlier : List ℕ) → IsNumber (length marks) ticket → Marks marks earlier
    → Marks (set marks (ticket - 1) true) (earlier ++ ticket ∷ [])
marks_more marks ticket earlier number is = record { there = there; marked = marked } where
  place : ℕ
  place = ticket - 1

  next : ticket ≡ suc place
  next = omega (arith, number.first)

  within : place < length marks
  within = omega (arith, number.first, number.last)

  there : (q : ℕ) → IsTrue (is_marked (set marks place true) q) → Contains (earlier ++ ticket ∷ []) q
  there q h = by (same_or_other q ticket) where
    by : (q ≡ ticket) ⊎ (q ≢ ticket) → Contains (earlier ++ ticket ∷ []) q
    by (inl e) = subst (λ (x : ℕ). Contains (earlier ++ ticket ∷ []) x) (sym e) (Contains-push earlier ticket)
    by (inr n) = Contains-append_left earlier (ticket ∷ []) q (is.there q (sym (other_mark marks place q (λ e. n (e ∙ sym next))) ∙ h))

  marked : (q : ℕ) → Contains (earlier ++ ticket ∷ []) q → IsTrue (is_marked (set marks place true) q)
  marked q h = by (same_or_other q ticket) where
    before : Contains earlier q ⊎ (ticket ≡ q) → q ≢ ticket → Contains earlier q
    before (inl c) n = c
    before (inr e) n = absurd (n (sym e))

    by : (q ≡ ticket) ⊎ (q ≢ ticket) → IsTrue (is_marked (set marks place true) q)
    by (inl e) = subst (λ (x : ℕ). IsTrue (is_marked (set marks place true) x)) (sym (e ∙ next)) (set_mark marks place within)
    by (inr n) = other_mark marks place q (λ e. n (e ∙ sym next)) ∙ is.marked q (before (Contains-push_cases earlier ticket q h) n)

-- with no mark set, no ticket is marked
pub unmarked : (count : ℕ) → Marks (replicate count false) []
unmarked count = record { there = λ q h. absurd (true≢false (sym h ∙ none count q)); marked = λ q h. absurd (nowhere q h) } where
  none : (n q : ℕ) → is_marked (replicate n false) q ≡ false
  none n zero = refl
  none zero (suc k) = refl
  none (suc n) (suc zero) = refl
  none (suc n) (suc (suc k)) = none n (suc k)

  nowhere : (q : ℕ) → Contains [] q → ⊥
  nowhere q h = omega (arith, h.1)

-- ---- the tickets of a good log are numbers of the history

pub good_numbers : (history : List HistoryEntry) (answers : List CallAnswer) (earlier : List ℕ) (caller : ℕ) (last : ℕ) (entries : List LogEntry) (count : ℕ) → count ≡ length history
    → AllGood history answers earlier caller last entries → All (λ (noted : LogEntry). IsNumber count noted.ticket) entries
good_numbers history answers earlier caller last entries count same good =
    each last entries good where
      each : (last : ℕ) (es : List LogEntry) → AllGood history answers earlier caller last es → (k : ℕ) (d : LogEntry) → k < length es → IsNumber count (get_or es k d).ticket
      each last [] good k d h = absurd (omega arith)
      each last (noted ∷ rest) good zero d h =
          subst (λ (n : ℕ). IsNumber n noted.ticket) (sym same) (under_number history noted.ticket good.0.known.entry good.0.known.there)
      each last (noted ∷ rest) good (suc k) d h = each noted.ticket rest good.1 k d (omega arith)
