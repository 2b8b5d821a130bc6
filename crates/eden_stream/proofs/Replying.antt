-- What a teller says of the bodies that it answers, each by the bodies before it.
use Rattle.std.proofs.Common.{◌≡◌, ℕ, List, [], ◌∷◌, ◌++◌, length, take, Result, Ok, refl, sym, ap, ◌∙◌, subst, append_assoc}
use Rattle.std.specs.List.{All, flat_map}
use Rattle.std.proofs.lemmas.List.{flat_map_more, take_at}
use Rattle.std.proofs.lemmas.List.Elements.{All-nil, All-push}
use Rattle.eden_stream.specs.Stories.{Tells}
use Rattle.eden_stream.specs.declared.teller.Step.{Step}
use Rattle.eden_stream.specs.declared.teller.Step.TheVariants.{Told, Fault, NoMemory}
use Rattle.eden_stream.specs.FrameAnswers.{AnswersBody, Answering, HasReplied, answers_story, answers_to, text_of}
use Rattle.eden_stream.specs.declared.frame_fault.FrameFault.{FrameFault}

answers_more : (answers : Answering) (bodies : List (List ℕ)) (body : List ℕ) → answers_to answers (bodies ++ body ∷ []) ≡ answers_to answers bodies ++ answers bodies body ∷ []
answers_more answers [] body = refl
answers_more answers (first ∷ bodies) body = ap (λ list. answers [] first ∷ list) (answers_more (λ before. answers (first ∷ before)) bodies body)

-- answers that are the same after any bodies
same_answers : (answers others : Answering) → ((before : List (List ℕ)) (body : List ℕ) → answers before body ≡ others before body)
    → (bodies : List (List ℕ)) → answers_to answers bodies ≡ answers_to others bodies
same_answers answers others same [] = refl
same_answers answers others same (body ∷ bodies) =
    ap (λ answer. answer ∷ answers_to (λ before. answers (body ∷ before)) bodies) (same [] body)
    ∙ ap (λ list. others [] body ∷ list) (same_answers (λ before. answers (body ∷ before)) (λ before. others (body ∷ before)) (λ before. same (body ∷ before)) bodies)

pub same_replied : (answers others : Answering) → ((before : List (List ℕ)) (body : List ℕ) → answers before body ≡ others before body)
    → (bodies : List (List ℕ)) (text : List ℕ) → HasReplied answers bodies text → HasReplied others bodies text
same_replied answers others same bodies text before =
    let is = same_answers answers others same bodies in
    record {
      replied = subst (All (λ answer. answer ≡ Ok (text_of answer))) is before.replied;
      text_is = ap (flat_map text_of) (sym is) ∙ before.text_is;
    }

module _ (answers : Answering) where
  pub replied_none : HasReplied answers [] []
  replied_none = record { replied = All-nil (λ answer. answer ≡ Ok (text_of answer)); text_is = refl }

  -- one more body has a reply
  replied_more : (bodies : List (List ℕ)) (text body printed : List ℕ) → HasReplied answers bodies text → answers bodies body ≡ Ok printed
      → HasReplied answers (bodies ++ body ∷ []) (text ++ printed)
  replied_more bodies text body printed before is =
      let more = answers_more answers bodies body in
      let reply : text_of (answers bodies body) ≡ printed = ap text_of is in
      let IsReply : Result (List ℕ) FrameFault → Type 0 = λ answer. answer ≡ Ok (text_of answer) in
      record {
        replied = subst (All IsReply) (sym more) (All-push IsReply (answers_to answers bodies) (answers bodies body) before.replied (is ∙ ap Ok (sym reply)));
        text_is = ap (flat_map text_of) more ∙ sym (flat_map_more text_of [] (answers_to answers bodies) (answers bodies body))
            ∙ ap (λ b. b ++ text_of (answers bodies body)) before.text_is ∙ ap (λ b. text ++ b) reply;
      }

  pub answers_tell : (bodies : List (List ℕ)) (sent body old new : List ℕ) (answer : Step FrameFault) → AnswersBody (answers bodies) body old new answer
      → HasReplied answers bodies (sent ++ old) → Tells (answers_story answers) bodies sent body old new answer
  answers_tell bodies sent body old new Told a before =
      subst (HasReplied answers (bodies ++ body ∷ [])) (append_assoc sent old a.0 ∙ ap (λ b. sent ++ b) (sym a.2)) (replied_more bodies (sent ++ old) body a.0 before a.1)
  answers_tell bodies sent body old new (Fault fault) a before = (subst (λ b. HasReplied answers bodies (sent ++ b)) (sym a.1) before, a.0)
  answers_tell bodies sent body old new NoMemory a before =
      subst (λ b. HasReplied answers bodies (sent ++ b)) (sym (ap (take (length old)) a.1 ∙ take_at old a.0 (length old) refl)) before
