-- How the answering of lines ends, by how the pumping of them does.
use Rattle.std.proofs.Common.{◌≡◌, Bool, true, false, ℕ, ◌+◌, ◌⊎◌, inl, inr, List, [], ◌∷◌, ◌++◌, length, Option, Result, Ok, Err, refl, sym, ap, ◌∙◌, subst, arith, append-nil}
use Rattle.std.specs.Prelude.{⊤}
use Rattle.std.specs.Io.KnownBytes.{Appends, IsAtEnd}
use Rattle.std.proofs.lemmas.List.{take_at}
use Rattle.eden_stream.specs.LineEnds.{EndsTellingLines, LosesNext, RefusesNext, StopsAtBadLine, StopsBetweenLines}
use Rattle.eden_stream.specs.LineGrammar.{CutsLines, line_grammar}
use Rattle.eden_stream.specs.Lines.{AreBeforeLong, AreFirstLines, HasNoBreak}
use Rattle.eden_stream.specs.Pumps as pumps
use Rattle.eden_stream.specs.Pumps.{Faults, Halts, Losses, Ran}
use Rattle.eden_stream.specs.Stories.{Story}
use Rattle.eden_stream.specs.internal.LineSteps.{run_as}
use Rattle.eden_stream.specs.declared.lines.RunFault.TheVariants as faults
use Rattle.eden_stream.specs.declared.pump.Stop.{Stop}
use Rattle.eden_stream.specs.declared.pump.Stop.TheVariants.{Item, Read, Write, TurnsSpent, NoMemory}
use Rattle.eden_stream.proofs.LineCuts.{all_lines, first_lines, rest_unended}

module _ (story : Story ⊤) (stops : (items : List (List ℕ)) (text : List ℕ) → story.told items text → story.lost items text) (r0 r1 w0 w1 : Option (List ℕ)) where
  all_written : (sent : List ℕ) → Appends w0 w1 sent → Appends w0 w1 (sent ++ [])
  all_written sent written = subst (Appends w0 w1) (sym (append-nil sent)) written

  at_bad_line : (Says : List ℕ → List (List ℕ) → List ℕ → Type 0) (ended : Bool) (count number : ℕ) (held bad : List ℕ) → number ≡ count + 1
      → (ran : Ran line_grammar Says r0 r1 w0 w1 ended count held []) → AreFirstLines r1 ran.stream (ran.items ++ bad ∷ []) ⊎ AreBeforeLong ran.stream ran.items bad
      → RefusesNext story ran.items bad (ran.sent ++ []) → StopsAtBadLine (RefusesNext story) r0 r1 w0 w1 number
  at_bad_line Says ended count number held bad number_is ran judged says = record {
    stream = ran.stream;
    good = ran.items;
    bad = bad;
    text = ran.sent ++ [];
    read = ran.read;
    judged = judged;
    says = says;
    number_is = omega (arith, number_is, ran.count_is);
    written = all_written ran.sent ran.written;
  }

  long_judged : (ended : Bool) (stream : List ℕ) (items : List (List ℕ)) (line : List ℕ) → (ended ≡ true → IsAtEnd r1)
      → ((left : List ℕ) × CutsLines ended stream (items ++ line ∷ []) left) ⊎ AreBeforeLong stream items line
      → AreFirstLines r1 stream (items ++ line ∷ []) ⊎ AreBeforeLong stream items line
  long_judged ended stream items line at_end (inl cut) = inl (first_lines r1 ended stream (items ++ line ∷ []) cut.0 at_end cut.1)
  long_judged ended stream items line at_end (inr before) = inr before

  faulted : (ended : Bool) (count number : ℕ) (held : List ℕ) (fault : ⊤) → number ≡ count + 1
      → (ran : Ran line_grammar (Faults line_grammar story ended held fault) r0 r1 w0 w1 ended count held [])
      → Faults line_grammar story ended held fault ran.stream ran.items (ran.sent ++ []) → StopsAtBadLine (RefusesNext story) r0 r1 w0 w1 number
  faulted ended count number held fault number_is ran (inl f) =
      let long = f.1 in
      at_bad_line _ ended count number held long.0 number_is ran (long_judged ended ran.stream ran.items long.0 ran.at_end long.2) (inr (f.0, long.1))
  faulted ended count number held fault number_is ran (inr f) =
      let bad = f.1 in
      at_bad_line _ ended count number held bad.0 number_is ran (inl (first_lines r1 ended ran.stream (ran.items ++ bad.0 ∷ []) bad.1 ran.at_end bad.2)) (inl (f.0, bad.3))

  between : (Says : List ℕ → List (List ℕ) → List ℕ → Type 0) (count : ℕ) (held : List ℕ) → HasNoBreak held → (ran : Ran line_grammar Says r0 r1 w0 w1 false count held [])
      → story.told ran.items (ran.sent ++ []) → CutsLines false ran.stream ran.items held → StopsBetweenLines story.told r0 r1 w0 w1
  between Says count held unended ran says (inl behind) = record {
    stream = ran.stream;
    whole = behind.whole;
    rest = behind.rest;
    text = ran.sent ++ [];
    read = ran.read;
    split = behind.split;
    ends_lines = behind.ends_lines;
    unended = rest_unended behind.rest held behind.kept unended;
    says = subst (λ (items : List (List ℕ)). story.told items (ran.sent ++ [])) behind.items_are says;
    written = all_written ran.sent ran.written;
  }
  between Says count held unended ran says (inr done) = absurd cc

  loses : (ended : Bool) (stream : List ℕ) (items : List (List ℕ)) (text : List ℕ) → (ended ≡ true → IsAtEnd r1) → Losses line_grammar story ended stream items text
      → LosesNext story r1 stream items text
  loses ended stream items text at_end (inl lost) = inl lost
  loses ended stream items text at_end (inr spent) = inr (spent.0, first_lines r1 ended stream (items ++ spent.0 ∷ []) spent.1 at_end spent.2, spent.3)

  halts : (ended : Bool) (stream : List ℕ) (items : List (List ℕ)) (text : List ℕ) → (ended ≡ true → IsAtEnd r1) → Halts line_grammar story ended stream items text
      → LosesNext story r1 stream items text
  halts ended stream items text at_end (inl told) = inl (stops items text told)
  halts ended stream items text at_end (inr spent) = inr (spent.0, first_lines r1 ended stream (items ++ spent.0 ∷ []) spent.1 at_end spent.2, spent.3)

  pub tell_ends : (outcome : Result ℕ (Stop ⊤)) → pumps.Ends line_grammar story r0 r1 w0 w1 outcome → EndsTellingLines story r0 r1 w0 w1 (run_as outcome)
  tell_ends (Ok count) e =
      let ran = e.2 in
      let all = all_lines true ran.stream ran.items e.0 (e.1.1 refl) ran.cut in
      record {
        stream = ran.stream;
        text = ran.sent ++ [];
        read = ran.read;
        at_end = ran.at_end refl;
        says = subst (λ (items : List (List ℕ)). story.told items (ran.sent ++ [])) (sym all) ran.says;
        count_is = ran.count_is ∙ ap length (sym all);
        written = all_written ran.sent ran.written;
      }
  tell_ends (Err (Item number fault)) e = faulted e.0 e.1 number e.2 fault e.3 e.4 e.4.says
  tell_ends (Err Read) e = between _ e.0 e.1 e.2.0 e.3 e.3.says e.3.cut
  tell_ends (Err TurnsSpent) e = between _ e.0 e.1 e.2.0 e.3 e.3.says e.3.cut
  tell_ends (Err NoMemory) e =
      let ran = e.3 in
      record {
        stream = ran.stream;
        good = ran.items;
        text = ran.sent ++ [];
        read = ran.read;
        first = first_lines r1 e.0 ran.stream ran.items e.2 ran.at_end ran.cut;
        says = halts e.0 ran.stream ran.items (ran.sent ++ []) ran.at_end ran.says;
        written = all_written ran.sent ran.written;
      }
  tell_ends (Err Write) e =
      let ran = e.4 in
      let waiting = e.3 in
      record {
        stream = ran.stream;
        good = ran.items;
        text = ran.sent ++ waiting;
        taken = length ran.sent;
        read = ran.read;
        first = first_lines r1 e.0 ran.stream ran.items e.2 ran.at_end ran.cut;
        says = loses e.0 ran.stream ran.items (ran.sent ++ waiting) ran.at_end ran.says;
        written = subst (Appends w0 w1) (sym (take_at ran.sent waiting (length ran.sent) refl)) ran.written;
      }

-- each of these ends is reported as itself
pub own_end : (outcome : Result ℕ (Stop ⊤)) → record {
  read : run_as outcome ≡ Err faults.Read → outcome ≡ Err Read;
  write : run_as outcome ≡ Err faults.Write → outcome ≡ Err Write;
  turns_spent : run_as outcome ≡ Err faults.TurnsSpent → outcome ≡ Err TurnsSpent;
}
own_end (Ok count) = record { read = λ e. cc; write = λ e. cc; turns_spent = λ e. cc }
own_end (Err (Item number fault)) = record { read = λ e. cc; write = λ e. cc; turns_spent = λ e. cc }
own_end (Err Read) = record { read = λ e. refl; write = λ e. cc; turns_spent = λ e. cc }
own_end (Err Write) = record { read = λ e. cc; write = λ e. refl; turns_spent = λ e. cc }
own_end (Err TurnsSpent) = record { read = λ e. cc; write = λ e. cc; turns_spent = λ e. refl }
own_end (Err NoMemory) = record { read = λ e. cc; write = λ e. cc; turns_spent = λ e. cc }
