-- How a run of a script ends, by how the answering of its lines does.
use Rattle.std.proofs.Common.{◌≡◌, ℕ, inl, inr, List, [], ◌∷◌, ◌++◌, Option, None, Some, Result, Ok, Err, refl, sym, ap, ◌∙◌}
use Rattle.eden_stream.specs.Answers.{RefusesLine}
use Rattle.eden_stream.specs.Ends.{Ends, LeavesMachine}
use Rattle.eden_stream.specs.LineEnds.{EndsTellingLines, LosesNext, RefusesNext, StopsAtBadLine}
use Rattle.eden_stream.specs.Scripts.{GoesOn, IsScript, in_front}
use Rattle.eden_stream.specs.internal.LineLaws.{story_laws}
use Rattle.eden_stream.specs.internal.LineSteps.{HasRefused, line_story}
use Rattle.eden_stream.specs.declared.lines.RunFault.TheVariants.{BadLine, Read, Write, TurnsSpent, NoMemory}
use Rattle.eden_stream.specs.declared.lines.RunFault.{RunFault}
use Rattle.eden_stream.proofs.LineSays.{answers_all, stops_after_lines, stops_at_bad_line, stops_between_lines, stops_in_text}

nothing-front : (text : Option (List ℕ)) → text ≡ in_front [] text
nothing-front None = refl
nothing-front (Some text) = refl

some_same : (a b : List ℕ) → Some a ≡ Some b → a ≡ b
some_same a b e = cc

-- before the first line the machine stands for the script
pub run_start : {M : Type 0} (stands_for : M → (List (List ℕ) → Option (List ℕ)) → Type 0) (refused_by : M → (List (List ℕ) → Option (List ℕ)) → List ℕ → Type 0) (machine : M)
    → (line_story stands_for refused_by machine machine).told [] []
run_start stands_for refused_by machine script s = record { next = script; stands = s; goes_on = λ more. nothing-front (script more) }

-- a line that the machine refuses
pub line_refused : {M : Type 0} (stands_for : M → (List (List ℕ) → Option (List ℕ)) → Type 0) (refused_by : M → (List (List ℕ) → Option (List ℕ)) → List ℕ → Type 0) (before was now : M)
    → ((next : List (List ℕ) → Option (List ℕ)) → stands_for was next → IsScript next) → (items : List (List ℕ)) (line sent old new : List ℕ)
    → ((script : List (List ℕ) → Option (List ℕ)) → stands_for before script → GoesOn (stands_for was) script items (sent ++ old))
    → ((next : List (List ℕ) → Option (List ℕ)) → stands_for was next → RefusesLine next line × (new ≡ old) × refused_by now next line)
    → ((script : List (List ℕ) → Option (List ℕ)) → stands_for before script → script items ≡ Some (sent ++ new))
    × ((script : List (List ℕ) → Option (List ℕ)) → stands_for before script → HasRefused (refused_by now) script items line)
line_refused stands_for refused_by before was now lawful items line sent old new told answer =
    let prints = (story_laws stands_for refused_by before was lawful).stops items (sent ++ old) told in (
      λ script s.
          let on = told script s in
          prints script s ∙ ap (λ text. Some (sent ++ text)) (sym (answer on.next on.stands).1),
      λ script s.
          let on = told script s in
          let said = answer on.next on.stands in
          record {
            text = sent ++ old;
            reads = record { prints = prints script s; refused = on.goes_on (line ∷ []) ∙ ap (in_front (sent ++ old)) (said.0 []) };
            on = record { next = on.next; stands = said.2; goes_on = on.goes_on };
          },
    )

module _ {M : Type 0} (stands_for : M → (List (List ℕ) → Option (List ℕ)) → Type 0) (refused_by : M → (List (List ℕ) → Option (List ℕ)) → List ℕ → Type 0) (before now : M)
    (lawful : (next : List (List ℕ) → Option (List ℕ)) → stands_for now next → IsScript next)
    (script : List (List ℕ) → Option (List ℕ)) (s : stands_for before script) where
  -- what is printed for some lines
  told_prints : (items : List (List ℕ)) (text : List ℕ) → (line_story stands_for refused_by before now).told items text → script items ≡ Some text
  told_prints items text told = (story_laws stands_for refused_by before now lawful).stops items text told script s

  -- and so do lines after which an allocation failed
  lost_prints : (r1 : Option (List ℕ)) (stream : List ℕ) (items : List (List ℕ)) (text : List ℕ) → LosesNext (line_story stands_for refused_by before now) r1 stream items text
      → script items ≡ Some text
  lost_prints r1 stream items text (inl lost) = lost script s
  lost_prints r1 stream items text (inr spent) = spent.2 script s

  -- after them the machine goes on
  next_refused : (good : List (List ℕ)) (bad text : List ℕ) → RefusesNext (line_story stands_for refused_by before now) good bad text
      → LeavesMachine (stands_for now) (refused_by now) script good bad text
  next_refused good bad text (inl f) =
      let last = f.1 script s in
      let same : last.text ≡ text = some_same last.text text (sym last.reads.prints ∙ f.0 script s) in
      record {
        reads = record { prints = f.0 script s; refused = last.reads.refused };
        goes_on = record { next = last.on.next; stands = inl last.on.stands; goes_on = λ more. last.on.goes_on more ∙ ap (λ t. in_front t (last.on.next more)) same };
      }
  next_refused good bad text (inr f) =
      let on = f.0 script s in
      record {
        reads = record {
          prints = told_prints good text f.0;
          refused = on.goes_on (bad ∷ []) ∙ ap (in_front text) ((lawful on.next on.stands).bounded bad [] f.1);
        };
        goes_on = record { next = on.next; stands = inr (on.stands, f.1); goes_on = on.goes_on };
      }

  module _ (r0 r1 w0 w1 : Option (List ℕ)) where
    pub run_left : (number : ℕ) → StopsAtBadLine (RefusesNext (line_story stands_for refused_by before now)) r0 r1 w0 w1 number
        → StopsAtBadLine (LeavesMachine (stands_for now) (refused_by now) script) r0 r1 w0 w1 number
    run_left number e = stops_at_bad_line e (next_refused e.good e.bad e.text e.says)

    pub run_ends : (result : Result ℕ RunFault) → EndsTellingLines (line_story stands_for refused_by before now) r0 r1 w0 w1 result → Ends script r0 r1 w0 w1 result
    run_ends (Ok count) e = answers_all e (told_prints _ e.text e.says)
    run_ends (Err (BadLine number)) e = stops_at_bad_line e (next_refused e.good e.bad e.text e.says).reads
    run_ends (Err Read) e = stops_between_lines e (told_prints _ e.text e.says)
    run_ends (Err TurnsSpent) e = stops_between_lines e (told_prints _ e.text e.says)
    run_ends (Err NoMemory) e = stops_after_lines e (lost_prints r1 e.stream e.good e.text e.says)
    run_ends (Err Write) e = stops_in_text e (lost_prints r1 e.stream e.good e.text e.says)
