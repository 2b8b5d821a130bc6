-- How lines ended, whatever they changed.
use Rattle.std.proofs.Common.{ℕ, List, [], ◌∷◌, Option, Result, Ok, Err, refl, inl, inr}
use Rattle.std.specs.Prelude.{⊤}
use Rattle.eden_edend.specs.Changings.{Along, ChangesBetweenLines, EndsChanging, LineMakes, Loses, LosesRead, Makes}
use Rattle.eden_history.specs.declared.change.Change.{Change}
use Rattle.eden_script.specs.Sessions.{change_of}
use Rattle.eden_script.specs.declared.label.Binding.{Binding}
use Rattle.eden_script.specs.declared.told.Refusal.{Refusal}
use Rattle.eden_serve.specs.Endings.{Ran}
use Rattle.eden_stream.specs.declared.lines.RunFault.{RunFault}
use Rattle.eden_stream.specs.declared.lines.RunFault.TheVariants.{BadLine, Read, Write, TurnsSpent, NoMemory}

abbrev Any : ⊤ → Change → ⊤ → Type 0
Any old change new = ⊤

makes_any : (change : Result Change Refusal) → Makes Any change tt tt
makes_any (Ok change) = tt
makes_any (Err cause) = refl

module _ {C : Type 0} (made lost : C → Change → C → Type 0) (labels : List Binding) where
  loses_any : (change : Result Change Refusal) (old new : C) → Loses lost change old new → Loses Any change tt tt
  loses_any (Ok change) old new loses = tt
  loses_any (Err cause) old new loses = absurd loses

  line_any : (line : List ℕ) (old new : C) → LineMakes made labels line old new → LineMakes Any labels line tt tt
  line_any line old new (inl skipped) = inl (skipped.0, refl)
  line_any line old new (inr makes) =
      inr (record { change = makes.change; spoken = makes.spoken; read = makes.read; makes = makes_any (change_of labels makes.change) })

  along_any : (lines : List (List ℕ)) (old new : C) → Along (LineMakes made labels) lines old new → Along (LineMakes Any labels) lines tt tt
  along_any [] old new along = refl
  along_any (line ∷ lines) old new along = (tt, line_any line old along.0 along.1, along_any lines along.0 new along.2)

  losing_any : (line : List ℕ) (old new : C) → LosesRead lost labels line old new → LosesRead Any labels line tt tt
  losing_any line old new loses = record { change = loses.change; read = loses.read; loses = loses_any (change_of labels loses.change) old new loses.loses }

  between : (r0 r1 : Option (List ℕ)) (old new : C) → ChangesBetweenLines (LineMakes made labels) r0 r1 old new → ChangesBetweenLines (LineMakes Any labels) r0 r1 tt tt
  between r0 r1 old new some = record {
    stream = some.stream;
    whole = some.whole;
    rest = some.rest;
    read = some.read;
    split = some.split;
    ends_lines = some.ends_lines;
    unended = some.unended;
    along = along_any _ old new some.along;
  }

  pub ran : (from : ℕ) (r0 r1 : Option (List ℕ)) (old new : C) (result : Result ℕ RunFault) → EndsChanging made lost labels from r0 r1 old new result → Ran labels from r0 result
  ran from r0 r1 old new (Ok number) all =
      (r1, record { stream = all.stream; read = all.read; at_end = all.at_end; along = along_any _ old new all.along; number_is = all.number_is })
  ran from r0 r1 old new (Err (BadLine number)) bad = (
    r1,
    record {
      stream = bad.stream;
      good = bad.good;
      bad = bad.bad;
      read = bad.read;
      judged = bad.judged;
      along = along_any _ old new bad.along;
      refused = bad.refused;
      number_is = bad.number_is;
    },
  )
  ran from r0 r1 old new (Err Read) some = (r1, between r0 r1 old new some)
  ran from r0 r1 old new (Err TurnsSpent) some = (r1, between r0 r1 old new some)
  ran from r0 r1 old new (Err NoMemory) some = (
    r1,
    record {
      stream = some.stream;
      good = some.good;
      mid = tt;
      read = some.read;
      first = some.first;
      along = along_any _ old some.mid some.along;
      last = elim some.last [ inl same ↦ inl refl | inr lost ↦ inr (lost.0, lost.1, losing_any lost.0 some.mid new lost.2) ];
    },
  )
  ran from r0 r1 old new (Err Write) never = absurd never
