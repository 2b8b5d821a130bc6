-- What frames say of a lock of which nothing is logged, carried on from body to body.
use Rattle.std.proofs.Common.{◌≡◌, ℕ, ◌+◌, ◌≤◌, inl, inr, List, [], ◌∷◌, ◌++◌, length, take, Option, Some, None, refl, sym, ap, ◌∙◌, subst, arith, append_assoc}
use Rattle.std.proofs.lemmas.List.{flat_map_more, take_at}
use Rattle.eden_history.specs.declared.answer.Answer.{Answer}
use Rattle.eden_history.specs.declared.change.Change.{Change}
use Rattle.eden_stream.specs.Stories.{Tells}
use Rattle.eden_stream.specs.declared.frame_fault.FrameFault.{FrameFault}
use Rattle.eden_stream.specs.declared.teller.Step.{Step}
use Rattle.eden_stream.specs.declared.teller.Step.TheVariants.{Told, Fault, NoMemory}
use Rattle.eden_wire.specs.declared.command.Command.{Command}
use Rattle.eden_wire.specs.declared.question.Question.{Question}
use Rattle.eden_messages.specs.declared.message.Query.{Query}
use Rattle.eden_stream.specs.Frames.{body_limit, frame}
use Rattle.eden_wire.specs.Commands.{done_bytes}
use Rattle.eden_wire.specs.declared.done.Done.TheVariants.{NotWritable}
use Rattle.eden_shared.proofs.Carried.{all_zip_more}
use Rattle.eden_shared.specs.Commands.{Answers, Reads, Says, SaysAll, changes_in, changes_of, counting, unlogged_story}
use Rattle.eden_shared.specs.Passes.{PassView}
use Rattle.eden_shared.specs.internal.Steps.{UnloggedStep}

-- a frame holds that a change may not be made
pub not_writable_fits : (query : Query) → length (done_bytes query NotWritable) ≤ body_limit
not_writable_fits query = omega arith

-- ---- what a pass counts

counting_none : (writing : Option PassView) → writing ≡ counting 0 writing
counting_none None = refl
counting_none (Some pass) = ap (λ amount. Some (record pass { amount = amount })) (omega arith)

counting_on : (more first : ℕ) (writing : Option PassView) → counting (first + more) writing ≡ counting more (counting first writing)
counting_on more first None = refl
counting_on more first (Some pass) = ap (λ amount. Some (record pass { amount = amount })) (omega arith)

changes_more : (commands : List Command) (command : Command) → changes_in (commands ++ command ∷ []) ≡ changes_in commands + changes_of command
changes_more [] command = omega arith
changes_more (first ∷ commands) command = let rest = changes_more commands command in omega (arith, rest)

-- what is counted once one more command is answered
counted_more : (commands : List Command) (command : Command) (before was now : Option PassView) → was ≡ counting (changes_in commands) before
    → now ≡ counting (changes_of command) was → now ≡ counting (changes_in (commands ++ command ∷ [])) before
counted_more commands command before was now counted more =
    more ∙ ap (counting (changes_of command)) counted ∙ sym (counting_on (changes_of command) (changes_in commands) before)
    ∙ ap (λ n. counting n before) (sym (changes_more commands command))

module _ (IsSaid : Question → List ℕ → Type 0) (IsMade : ℕ → Change → Answer → Type 0) where
  -- no frame is answered by nothing
  pub answers_none : (writing : Option PassView) → Answers IsSaid IsMade writing writing [] []
  answers_none writing = record { commands = []; said = []; read = tt; says = tt; text_is = refl; counted = counting_none writing }

  says_more : (writing : Option PassView) (commands : List Command) (said : List (List ℕ)) (command : Command) (last : List ℕ)
      → SaysAll IsSaid IsMade writing commands said → Says IsSaid IsMade (counting (changes_in commands) writing) command last
      → SaysAll IsSaid IsMade writing (commands ++ command ∷ []) (said ++ last ∷ [])
  says_more writing [] [] command last all one = (subst (λ w. Says IsSaid IsMade w command last) (sym (counting_none writing)) one, tt)
  says_more writing [] (first ∷ said) command last all one = absurd all
  says_more writing (first ∷ commands) [] command last all one = absurd all
  says_more writing (first ∷ commands) (s ∷ said) command last all one = (
    all.0,
    says_more (counting (changes_of first) writing) commands said command last all.1
        (subst (λ w. Says IsSaid IsMade w command last) (counting_on (changes_in commands) (changes_of first) writing) one),
  )

  module _ (before was now : Option PassView) (bodies : List (List ℕ)) (body : List ℕ) where
    -- one more body is answered
    answers_more : (text last : List ℕ) (command : Command) → Answers IsSaid IsMade before was bodies text → Reads body command
        → now ≡ counting (changes_of command) was → Says IsSaid IsMade was command last
        → Answers IsSaid IsMade before now (bodies ++ body ∷ []) (text ++ frame last)
    answers_more text last command answers read counted says = record {
      commands = answers.commands ++ command ∷ [];
      said = answers.said ++ last ∷ [];
      read = all_zip_more Reads bodies answers.commands body command answers.read read;
      says = says_more before answers.commands answers.said command last answers.says (subst (λ w. Says IsSaid IsMade w command last) answers.counted says);
      text_is = ap (λ t. t ++ frame last) answers.text_is ∙ flat_map_more frame [] answers.said last;
      counted = counted_more answers.commands command before was now answers.counted counted;
    }

    -- what the answer to one body says, after what was said so far
    pub unlogged_tells : (sent from text : List ℕ) (answer : Step FrameFault) → UnloggedStep IsSaid IsMade was now body from text answer
        → Answers IsSaid IsMade before was bodies (sent ++ from) → Tells (unlogged_story IsSaid IsMade before now) bodies sent body from text answer
    unlogged_tells sent from text Told step answers =
        subst (Answers IsSaid IsMade before now (bodies ++ body ∷ [])) (append_assoc sent from (frame step.3.0) ∙ ap (λ t. sent ++ t) (sym step.3.2))
        (answers_more (sent ++ from) step.3.0 step.0 answers step.1 step.2 step.3.1)
    unlogged_tells sent from text (Fault fault) step answers = (
      subst (λ t. Answers IsSaid IsMade before now bodies (sent ++ t)) (sym step.2)
          (subst (λ w. Answers IsSaid IsMade before w bodies (sent ++ from)) (sym step.1) answers),
      step.0,
    )
    unlogged_tells sent from text NoMemory step answers =
        let same : take (length from) text ≡ from = ap (take (length from)) step.0.1 ∙ take_at from step.0.0 (length from) refl in
        let kept = subst (λ t. Answers IsSaid IsMade before was bodies (sent ++ t)) (sym same) answers in
        elim step.1 [
          | inl unmade ↦ inl (subst (λ w. Answers IsSaid IsMade before w bodies (sent ++ take (length from) text)) (sym unmade) kept)
          | inr made ↦ inr (was, kept, made)
        ]
