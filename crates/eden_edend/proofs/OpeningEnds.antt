-- How the lines before `listen` end, by how the run of them ended.
use Rattle.std.proofs.Common.{◌≡◌, Bool, true, false, ℕ, inl, inr, ◌⊎◌, List, Option, Some, Result, Ok, Err, sym, ap, ◌∙◌, subst}
use Rattle.std.specs.Prelude.{IfOk, IfErr, OnOk, codes}
use Rattle.eden_accumulate.specs.Mounts.{State}
use Rattle.eden_script.specs.Sessions.{Session}
use Rattle.eden_stream.specs.Counts.{one_more}
use Rattle.eden_stream.specs.Ends.{Ends, EndsWell, LeavesMachine}
use Rattle.eden_stream.specs.LineEnds.{StopsAtBadLine}
use Rattle.eden_stream.specs.Lines.{IsTooLong}
use Rattle.eden_stream.specs.Scripts.{in_front}
use Rattle.eden_stream.specs.declared.lines.RunFault.{RunFault}
use Rattle.eden_stream.specs.declared.lines.RunFault.TheVariants.{BadLine}
use Rattle.eden_stream.proofs.LineSays.{stops_at_bad_line}
use Rattle.eden_edend.specs.declared.objects.Objects.{Objects}
use Rattle.eden_edend.specs.declared.opened.Opened.{Opened}
use Rattle.eden_edend.specs.Openings.{EndsOpening, OpensAfter}
use Rattle.eden_edend.specs.internal.Standing.{IsSession, SessionStands}

-- what is known of an opening that goes on, and of one that has refused a line
abbrev pub GoesOnFrom : Option State → Objects → Bool → (List (List ℕ) → Option (List ℕ)) → Type 0
GoesOnFrom mount objects listens script = SessionStands mount objects script × (listens ≡ false)

abbrev pub HasRefusedAt : Option State → Objects → Bool → (List (List ℕ) → Option (List ℕ)) → List ℕ → Type 0
HasRefusedAt mount objects listens script line = SessionStands mount objects script × (listens ≡ true → line ≡ codes "listen")

module _ (script : List (List ℕ) → Option (List ℕ)) (r0 r1 w0 w1 : Option (List ℕ)) where
  pub ended_unopened : (count number : ℕ) → EndsWell script r0 r1 w0 w1 count → number ≡ one_more count
      → EndsOpening script r0 r1 w0 w1 (Err (BadLine number))
  ended_unopened count number ended is = inr (record { count = count; ended = ended; number_is = is })

  module _ (mount : Option State) (objects : Objects) (listens : Bool) where
    opens : (opened : Opened) → listens ≡ true → mount ≡ Some opened.mount → opened.labels ≡ objects.labels → (good : List (List ℕ)) (bad text : List ℕ)
        → (left : LeavesMachine (GoesOnFrom mount objects listens) (HasRefusedAt mount objects listens) script good bad text)
        → HasRefusedAt mount objects listens left.goes_on.next bad ⊎ (GoesOnFrom mount objects listens left.goes_on.next × IsTooLong bad)
        → OpensAfter script opened good bad text
    opens opened hears is labels good bad text left (inl refused) =
        let session = refused.0.0 in
        let held = subst (λ (m : Option State). IsSession m objects session) is refused.0.1 in
        record {
          reads = left.reads;
          listens = refused.1 hears;
          session = session;
          goes_on = λ more. left.goes_on.goes_on more ∙ ap (in_front text) (refused.0.2 more);
          world = held.0;
          mounted = ap (λ (s : Session). s.mounted) held.3;
          stands = held.2;
          labels = labels ∙ sym (ap (λ (s : Session). s.bindings) held.3);
        }
    opens opened hears is labels good bad text left (inr long) = absurd (cc (hears, long.0.1))

    pub ended_at : (line : ℕ) (fault : RunFault) (result : Result Opened RunFault) → fault ≡ BadLine line → Ends script r0 r1 w0 w1 (Err fault)
        → StopsAtBadLine (LeavesMachine (GoesOnFrom mount objects listens) (HasRefusedAt mount objects listens) script) r0 r1 w0 w1 line
        → OnOk result (listens ≡ true) → IfOk result (λ opened. opened.line ≡ line) → IfOk result (λ opened. mount ≡ Some opened.mount)
        → IfOk result (λ opened. opened.labels ≡ objects.labels) → IfErr result (λ fault. fault ≡ BadLine line) → EndsOpening script r0 r1 w0 w1 result
    ended_at line fault (Ok opened) e ends left hears at is labels refuses =
        subst (λ (number : ℕ). StopsAtBadLine (OpensAfter script opened) r0 r1 w0 w1 number) (sym at)
        (stops_at_bad_line left (opens opened hears is labels left.good left.bad left.text left.says left.says.goes_on.stands))
    ended_at line fault (Err cause) e ends left hears at is labels refuses =
        subst (λ (f : RunFault). EndsOpening script r0 r1 w0 w1 (Err f)) (sym refuses) (inl (subst (λ (f : RunFault). Ends script r0 r1 w0 w1 (Err f)) e ends))

  pub ended_early : (fault : RunFault) → Ends script r0 r1 w0 w1 (Err fault) → EndsOpening script r0 r1 w0 w1 (Err fault)
  ended_early (BadLine number) ends = inl ends
  ended_early fault ends = ends
