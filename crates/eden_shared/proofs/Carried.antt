-- What frames say of a desk, carried on from body to body.
use Rattle.std.proofs.Common.{◌≡◌, ℕ, ◌+◌, ◌⊎◌, inl, inr, List, [], ◌∷◌, ◌++◌, length, take, Ok, refl, sym, ap, ◌∙◌, subst, arith, append_assoc, append-nil, length-append}
use Rattle.std.specs.List.{AllZip}
use Rattle.std.proofs.lemmas.List.{flat_map_more, map-append, take_at}
use Rattle.eden_logs.specs.Calls.{answer_made}
use Rattle.eden_logs.specs.declared.log.LogEntry.{LogEntry}
use Rattle.eden_stream.specs.declared.frame_fault.FrameFault.{FrameFault}
use Rattle.eden_logs.specs.declared.call.CallAnswer.TheVariants.{Replied, Unanswered}
use Rattle.eden_logs.specs.declared.call.Call.{Call}
use Rattle.eden_logs.specs.declared.call.Call.TheVariants as calls
use Rattle.eden_messages.specs.declared.message.Reply.{Reply}
use Rattle.eden_messages.specs.declared.message.Request.{Request}
use Rattle.eden_stream.specs.Stories.{Tells}
use Rattle.eden_stream.specs.declared.teller.Step.{Step}
use Rattle.eden_stream.specs.declared.teller.Step.TheVariants.{Told, Fault, NoMemory}
use Rattle.eden_wire.specs.declared.asked.Asked.{Asked}
use Rattle.eden_wire.specs.declared.command.Command.{Command}
use Rattle.eden_wire.specs.declared.command.Command.TheVariants.{Ask, Do}
use Rattle.eden_wire.specs.declared.command.Doing.{Doing}
use Rattle.eden_wire.specs.declared.done.Done.{Done}
use Rattle.eden_wire.specs.Commands.{ListsInOrder, SpellsDone, done_bytes, done_of}
use Rattle.eden_wire.specs.Questions.{request_of, wants_of}
use Rattle.eden_wire.specs.declared.question.Wants.{Wants}
use Rattle.eden_wire.proofs.AnswerLaws.{answers_in_order}
use Rattle.eden_messages.specs.Spells.{SpellsReply, reply_bytes}
use Rattle.eden_history.specs.declared.answer.Answer.{Answer}
use Rattle.eden_history.specs.declared.change.Change.{Change}
use Rattle.eden_history.specs.Worlds.{Namer, WorldState}
use Rattle.eden_query.specs.Commands.{Reading}
use Rattle.eden_stream.specs.Frames.{frame}
use Rattle.eden_shared.specs.Desks.{DeskView, LeftUnanswered, noted}
use Rattle.eden_shared.specs.Gives.{IsMade}
use Rattle.eden_shared.specs.Servings.{DoesOne, Exchange, GivesUp, Serves, call_of, desk_story, entries_of}
use Rattle.eden_shared.specs.internal.Steps.{DeskStep, Takes, TakesUnsaid, Took}

pub all_zip_more : {A B : Type 0} (R : A → B → Type 0) (xs : List A) (ys : List B) (x : A) (y : B) → AllZip R xs ys → R x y → AllZip R (xs ++ x ∷ []) (ys ++ y ∷ [])
all_zip_more R [] [] x y each one = (one, tt)
all_zip_more R [] (first ∷ ys) x y each one = absurd each
all_zip_more R (first ∷ xs) [] x y each one = absurd each
all_zip_more R (a ∷ xs) (b ∷ ys) x y each one = (each.0, all_zip_more R xs ys x y each.1 one)

module _ (IsSaid : ℕ → Request → Wants → Reply → List ℕ → Type 0) (WasMade : ℕ → Change → Answer → Type 0) (old new : DeskView) where
  -- a command for which there was no memory was done once, or not at all
  pub left_unsaid : (command : Command) (call : Call) → call ≡ call_of command → LeftUnanswered old call new
      → (new ≡ old) ⊎ TakesUnsaid IsSaid WasMade old new command
  left_unsaid command call is (inl same) = inl same
  left_unsaid command call is (inr taken) =
      inr (record {
        ticket = taken.ticket;
        entry = noted taken.ticket call Unanswered;
        unsaid = inl (ap (λ (c : Call). noted taken.ticket c Unanswered) is);
        took = record { caller = taken.caller; amount = taken.amount; log = taken.log };
      })

  -- so was one that was answered, and of which nothing is written
  pub unsaid : (command : Command) (before text : List ℕ) → Takes IsSaid WasMade old new command before text → TakesUnsaid IsSaid WasMade old new command
  unsaid command before text takes =
      record { ticket = takes.ticket; entry = takes.exchange.entry; unsaid = inr (takes.exchange.said, takes.comes); took = takes.took }

  -- a question that was answered, where the text says what it wants of the reply
  pub asked_one : (asked : Asked) (request : Request) (wants : Wants) (ticket : ℕ) (reply : Reply) (body before text : List ℕ) → request ≡ request_of asked.question
      → wants ≡ wants_of asked.question → new.caller ≡ old.caller → new.amount ≡ old.amount + 1 → new.log ≡ old.log ++ noted ticket (calls.Ask request) (Replied reply) ∷ []
      → IsSaid ticket request wants reply body → SpellsReply (reply_bytes reply) reply → text ≡ before ++ frame body
      → Takes IsSaid WasMade old new (Ask asked) before text
  asked_one asked request wants ticket reply body before text is wanted caller amount log told spelled grown =
      let call = ap (λ (r : Request). noted ticket (calls.Ask r) (Replied reply)) is in
      record {
        ticket = ticket;
        exchange = record { entry = noted ticket (calls.Ask request) (Replied reply); said = body };
        comes = record {
          reply = reply;
          entry_is = call;
          told = subst (λ (w : Wants). IsSaid ticket (request_of asked.question) w reply body) wanted
              (subst (λ (r : Request). IsSaid ticket r wants reply body) is told);
          spelled = spelled;
        };
        took = record { caller = caller; amount = amount; log = log };
        text_is = grown;
      }

  -- a change that was made, where the text says how it ended
  pub changed_one : (doing : Doing) (ticket : ℕ) (answer : Answer) (d : Done) (before text : List ℕ) → d ≡ done_of answer → new.caller ≡ old.caller
      → new.amount ≡ old.amount + 1 → new.log ≡ old.log ++ noted ticket (calls.Change doing.change) (answer_made answer) ∷ [] → WasMade ticket doing.change answer
      → ListsInOrder (done_of answer) → (ListsInOrder d → SpellsDone (done_bytes doing.query d) doing.query d) → text ≡ before ++ frame (done_bytes doing.query d)
      → Takes IsSaid WasMade old new (Do doing) before text
  changed_one doing ticket answer d before text is caller amount log made ordered spelled grown =
      record {
        ticket = ticket;
        exchange = record { entry = noted ticket (calls.Change doing.change) (answer_made answer); said = done_bytes doing.query d };
        comes = record {
          answer = answer;
          entry_is = refl;
          made = made;
          said_is = subst (λ (x : Done). SpellsDone (done_bytes doing.query d) doing.query x) is (spelled (subst ListsInOrder (sym is) ordered));
        };
        took = record { caller = caller; amount = amount; log = log };
        text_is = grown;
      }

-- the answer to a change at a lock lists its conflicts in order
pub made_in_order : {T : Type 0} (Known : ℕ → T → Type 0) (name : Namer) (stands_for : T → WorldState → Type 0) (apply_gives : T → ℕ → Change → Answer → T → Type 0)
    (caller number : ℕ) (change : Change) (answer : Answer) → IsMade Known name stands_for apply_gives caller number change answer → ListsInOrder (done_of answer)
made_in_order Known name stands_for apply_gives caller number change answer made =
    let g = made.gave in
    subst (λ (a : Answer). ListsInOrder (done_of a)) (sym (g.3 g.2.0 g.2.1)) (answers_in_order name g.2.0 change)

-- a desk that was asked nothing
pub serves_none : (read : Reading) (IsSaid : ℕ → Request → Wants → Reply → List ℕ → Type 0) (WasMade : ℕ → Change → Answer → Type 0) (desk : DeskView)
    → Serves read IsSaid WasMade desk desk [] []
serves_none read IsSaid WasMade desk = record { exchanges = []; caller = refl; amount = omega arith; log = sym (append-nil desk.log); does = tt; text_is = refl }

module _ (read : Reading) (IsSaid : ℕ → Request → Wants → Reply → List ℕ → Type 0) (WasMade : ℕ → Change → Answer → Type 0) (before old new : DeskView)
    (bodies : List (List ℕ)) (text body : List ℕ) (command : Command) (reads : read body ≡ Ok command) (so_far : Serves read IsSaid WasMade before old bodies text) where
  log_more : (entry : LogEntry) → Took old new entry → new.log ≡ before.log ++ (entries_of so_far.exchanges ++ entry ∷ [])
  log_more entry took = took.log ∙ ap (λ log. log ++ entry ∷ []) so_far.log ∙ append_assoc before.log (entries_of so_far.exchanges) (entry ∷ [])

  -- it did what one more body asks for
  serves_more : (from grown : List ℕ) (takes : Takes IsSaid WasMade old new command from grown)
      → Serves read IsSaid WasMade before new (bodies ++ body ∷ []) (text ++ frame takes.exchange.said)
  serves_more from grown takes =
      let one = takes.exchange in
      record {
        exchanges = so_far.exchanges ++ one ∷ [];
        caller = takes.took.caller ∙ so_far.caller;
        amount = omega (arith, takes.took.amount, so_far.amount, length-append so_far.exchanges (one ∷ []));
        log = log_more one.entry takes.took ∙ ap (λ entries. before.log ++ entries) (sym (map-append (λ (e : Exchange). e.entry) so_far.exchanges (one ∷ [])));
        does = all_zip_more (DoesOne read IsSaid WasMade) bodies so_far.exchanges body one so_far.does
            (record { ticket = takes.ticket; command = command; reads = reads; comes = takes.comes });
        text_is = ap (λ t. t ++ frame one.said) so_far.text_is ∙ flat_map_more (λ (e : Exchange). frame e.said) [] so_far.exchanges one;
      }

  -- it did what this body asks for, and nothing is written of it
  gives_up : TakesUnsaid IsSaid WasMade old new command → GivesUp read IsSaid WasMade before new bodies body text
  gives_up takes = record {
    exchanges = so_far.exchanges;
    last = takes.entry;
    caller = takes.took.caller ∙ so_far.caller;
    amount = omega (arith, takes.took.amount, so_far.amount);
    log = log_more takes.entry takes.took;
    does = so_far.does;
    does_last = record { ticket = takes.ticket; command = command; reads = reads; unsaid = takes.unsaid };
    text_is = so_far.text_is;
  }

module _ (read : Reading) (IsSaid : ℕ → ℕ → Request → Wants → Reply → List ℕ → Type 0) (WasMade : ℕ → ℕ → Change → Answer → Type 0) (before old new : DeskView)
    (bodies : List (List ℕ)) (sent body from text : List ℕ) where
  carried : (answer : Step FrameFault) → DeskStep read (IsSaid before.caller) (WasMade before.caller) old new body from text answer
      → Serves read (IsSaid before.caller) (WasMade before.caller) before old bodies (sent ++ from)
      → Tells (desk_story read (IsSaid before.caller) (WasMade before.caller) before new) bodies sent body from text answer
  carried Told step so_far =
      subst (Serves read (IsSaid before.caller) (WasMade before.caller) before new (bodies ++ body ∷ []))
      (append_assoc sent from (frame step.2.exchange.said) ∙ ap (λ t. sent ++ t) (sym step.2.text_is))
      (serves_more read (IsSaid before.caller) (WasMade before.caller) before old new bodies (sent ++ from) body step.0 step.1 so_far from text step.2)
  carried (Fault fault) step so_far = (
    subst (λ t. Serves read (IsSaid before.caller) (WasMade before.caller) before new bodies (sent ++ t)) (sym step.2)
        (subst (λ desk. Serves read (IsSaid before.caller) (WasMade before.caller) before desk bodies (sent ++ from)) (sym step.1) so_far),
    step.0,
  )
  carried NoMemory step so_far =
      let same : take (length from) text ≡ from = ap (take (length from)) step.0.1 ∙ take_at from step.0.0 (length from) refl in
      let kept = subst (λ t. Serves read (IsSaid before.caller) (WasMade before.caller) before old bodies (sent ++ t)) (sym same) so_far in
      elim step.1 [
        | inl unasked ↦ inl (subst (λ desk. Serves read (IsSaid before.caller) (WasMade before.caller) before desk bodies (sent ++ take (length from) text)) (sym unasked) kept)
        | inr asked ↦ inr (gives_up read (IsSaid before.caller) (WasMade before.caller) before old new bodies (sent ++ take (length from) text) body asked.0 asked.1 kept asked.2)
      ]

  -- what the answer to one body says, after what was said so far
  pub desk_tells : (answer : Step FrameFault) → DeskStep read (IsSaid old.caller) (WasMade old.caller) old new body from text answer
      → Serves read (IsSaid before.caller) (WasMade before.caller) before old bodies (sent ++ from)
      → Tells (desk_story read (IsSaid before.caller) (WasMade before.caller) before new) bodies sent body from text answer
  desk_tells answer step so_far =
      carried answer (subst (λ caller. DeskStep read (IsSaid caller) (WasMade caller) old new body from text answer) so_far.caller step) so_far
