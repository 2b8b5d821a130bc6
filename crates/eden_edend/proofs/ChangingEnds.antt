-- How the changing of lines ends, by how the telling of them does.
use Rattle.std.proofs.Common.{◌≡◌, ◌≢◌, ℕ, inl, inr, List, Option, Result, Ok, Err, refl, ap}
use Rattle.eden_history.specs.declared.change.Change.{Change}
use Rattle.eden_script.specs.declared.label.Binding.{Binding}
use Rattle.eden_stream.specs.LineEnds.{EndsTellingLines, StopsAfterLines, StopsAtBadLine, StopsBetweenLines, LosesNext, RefusesNext}
use Rattle.eden_stream.specs.declared.lines.RunFault.{RunFault}
use Rattle.eden_stream.specs.declared.lines.RunFault.TheVariants.{BadLine, Read, Write, TurnsSpent, NoMemory}
use Rattle.eden_edend.specs.Changings.{ChangesBetweenLines, ChangesSome, ChangesToBadLine, EndsChanging, LineMakes, LosesRead, number_after}
use Rattle.eden_edend.specs.internal.ChangeStory.{changing_story, numbered}

module _ {C : Type 0} (made lost : C → Change → C → Type 0) (labels : List Binding) (from : ℕ) (r0 r1 w0 w1 : Option (List ℕ)) (old new : C) where
  at_bad_line : (line : ℕ) (e : StopsAtBadLine (RefusesNext (changing_story made lost labels old new)) r0 r1 w0 w1 line)
      → ChangesToBadLine (LineMakes made labels) from r0 r1 old new (number_after from line)
  at_bad_line line e = record {
    stream = e.stream;
    good = e.good;
    bad = e.bad;
    read = e.read;
    judged = e.judged;
    along = elim e.says [ inl f ↦ f.0 | inr f ↦ f.0 ];
    refused = elim e.says [ inl f ↦ inl f.1 | inr f ↦ inr f.1 ];
    number_is = ap (number_after from) e.number_is;
  }

  between : StopsBetweenLines (changing_story made lost labels old new).told r0 r1 w0 w1 → ChangesBetweenLines (LineMakes made labels) r0 r1 old new
  between e = record {
    stream = e.stream;
    whole = e.whole;
    rest = e.rest;
    read = e.read;
    split = e.split;
    ends_lines = e.ends_lines;
    unended = e.unended;
    along = e.says;
  }

  some : (e : StopsAfterLines (LosesNext (changing_story made lost labels old new) r1) r0 r1 w0 w1)
      → LosesNext (changing_story made lost labels old new) r1 e.stream e.good e.text → ChangesSome (LineMakes made labels) (LosesRead lost labels) r0 r1 old new
  some e (inl f) = record { stream = e.stream; good = e.good; mid = new; read = e.read; first = e.first; along = f; last = inl refl }
  some e (inr f) = record {
    stream = e.stream;
    good = e.good;
    mid = f.2.0;
    read = e.read;
    first = e.first;
    along = f.2.1;
    last = elim (f.2.2) [ inl same ↦ inl same | inr loses ↦ inr (f.0, f.1, loses) ];
  }

  pub changing_ends : (outcome : Result ℕ RunFault) → outcome ≢ Err Write → EndsTellingLines (changing_story made lost labels old new) r0 r1 w0 w1 outcome
      → EndsChanging made lost labels from r0 r1 old new (numbered from outcome)
  changing_ends (Ok count) apart e = record { stream = e.stream; read = e.read; at_end = e.at_end; along = e.says; number_is = ap (number_after from) e.count_is }
  changing_ends (Err (BadLine line)) apart e = at_bad_line line e
  changing_ends (Err Read) apart e = between e
  changing_ends (Err TurnsSpent) apart e = between e
  changing_ends (Err NoMemory) apart e = some e e.says
  changing_ends (Err Write) apart e = absurd (apart refl)

-- each of these faults is reported as itself
pub own_fault : (from : ℕ) (outcome : Result ℕ RunFault) → record {
  read : numbered from outcome ≡ Err Read → outcome ≡ Err Read;
  turns_spent : numbered from outcome ≡ Err TurnsSpent → outcome ≡ Err TurnsSpent;
}
own_fault from (Ok count) = record { read = λ e. cc; turns_spent = λ e. cc }
own_fault from (Err (BadLine line)) = record { read = λ e. cc; turns_spent = λ e. cc }
own_fault from (Err Read) = record { read = λ e. refl; turns_spent = λ e. cc }
own_fault from (Err Write) = record { read = λ e. cc; turns_spent = λ e. cc }
own_fault from (Err TurnsSpent) = record { read = λ e. cc; turns_spent = λ e. refl }
own_fault from (Err NoMemory) = record { read = λ e. cc; turns_spent = λ e. cc }
