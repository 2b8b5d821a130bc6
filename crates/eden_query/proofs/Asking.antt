-- What frames say of a server, carried on from body to body, and what it says at the end.
use Rattle.std.proofs.Common.{◌≡◌, ℕ, inl, inr, List, [], ◌∷◌, ◌++◌, map, Option, Result, Ok, Err, refl, sym, ap, ◌∙◌, subst}
use Rattle.std.proofs.lemmas.List.{map-append}
use Rattle.eden_history.specs.declared.answer.Answer.{Answer}
use Rattle.eden_history.specs.Outcome.{answer_of, world_after}
use Rattle.eden_history.specs.Worlds.{Namer, WorldState}
use Rattle.eden_stream.proofs.FrameEndings.{at_each_end, serve_ends}
use Rattle.eden_stream.proofs.Replying.{answers_tell, replied_none, same_replied}
use Rattle.eden_stream.specs.FrameAnswers.{AnswersBody, Answering, RepliesAs}
use Rattle.eden_stream.specs.FrameEnds.{Serves}
use Rattle.eden_stream.specs.FrameTellings.{EndsTelling}
use Rattle.eden_stream.specs.Stories.{Story, Tells}
use Rattle.eden_stream.specs.declared.frame_fault.FrameFault.{FrameFault}
use Rattle.eden_stream.specs.declared.frames.ServeFault.{ServeFault}
use Rattle.eden_stream.specs.declared.teller.Step.{Step}
use Rattle.eden_stream.specs.declared.teller.Step.TheVariants.{Told, Fault, NoMemory}
use Rattle.eden_wire.specs.Questions.{read_question}
use Rattle.eden_wire.specs.Commands.{ListsInOrder, SpellsDone, done_bytes, done_of}
use Rattle.eden_wire.specs.declared.command.Command.{Command}
use Rattle.eden_wire.specs.declared.command.Command.TheVariants.{Do}
use Rattle.eden_wire.specs.declared.command.Doing.{Doing}
use Rattle.eden_wire.specs.declared.done.Done.{Done}
use Rattle.eden_wire.specs.declared.fault.DecodeFault.{DecodeFault}
use Rattle.eden_wire.specs.declared.question.Question.{Question}
use Rattle.eden_wire.proofs.AnswerLaws.{answers_in_order}
use Rattle.eden_query.specs.Answers.{answer_to, answered, refused_with}
use Rattle.eden_query.specs.Commands.{AllEncode, Encodes, Reading, after, answer_by, answers_in, as_asked, read_asking, world_past}
use Rattle.eden_query.specs.Servers.{DoAll}
use Rattle.eden_query.specs.Servings.{DoesBodies, serving_story}
use Rattle.eden_query.specs.internal.Askings.{DoesBody, DoesCommand, DoesOne}

do_more : {T : Type 0} (does : T → Command → T → Type 0) (old : T) (commands : List Command) (mid : T) (command : Command) (new : T) → DoAll does old commands mid
    → does mid command new → DoAll does old (commands ++ command ∷ []) new
do_more does old [] mid command new same did = (new, subst (λ s. does s command new) same did, refl)
do_more does old (first ∷ rest) mid command new done did = (done.0, done.1, do_more does done.0 rest mid command new done.2 did)

after_more : (name : Namer) (read : Reading) (world : WorldState) (bodies : List (List ℕ)) (body : List ℕ)
    → after name read world (bodies ++ body ∷ []) ≡ world_past name (after name read world bodies) (read body)
after_more name read world [] body = refl
after_more name read world (first ∷ rest) body = after_more name read (world_past name world (read first)) rest body

encode_more : (name : Namer) (read : Reading) (world : WorldState) (bodies : List (List ℕ)) (body : List ℕ) → AllEncode name read world bodies
    → Encodes name (after name read world bodies) (read body) → AllEncode name read world (bodies ++ body ∷ [])
encode_more name read world [] body all one = (one, tt)
encode_more name read world (first ∷ rest) body all one = (all.0, encode_more name read (world_past name world (read first)) rest body all.1 one)

-- a change that a server made as worlds answer it ends in a way that can be encoded
change_encodes : (name : Namer) (Stands : WorldState → Type 0) (doing : Doing) (answer : Answer)
    → ((world : WorldState) → Stands world → answer ≡ answer_of name world doing.change)
    → (ListsInOrder (done_of answer) → SpellsDone (done_bytes doing.query (done_of answer)) doing.query (done_of answer))
    → (world : WorldState) → Stands world → Encodes name world (Ok (Do doing))
change_encodes name Stands doing answer right spelled world s =
    let is = right world s in
    subst (λ (a : Answer). SpellsDone (done_bytes doing.query (done_of a)) doing.query (done_of a)) is
    (spelled (subst (λ (a : Answer). ListsInOrder (done_of a)) (sym is) (answers_in_order name world doing.change)))

-- so it was done, once
pub change_does : {T : Type 0} (name : Namer) (stands_for : T → WorldState → Type 0) (does : T → Command → T → Type 0) (old new : T) (doing : Doing) (answer : Answer) (d : Done)
    → d ≡ done_of answer → does old (Do doing) new → ((world : WorldState) → stands_for old world → stands_for new (world_after name world doing.change))
    → ((world : WorldState) → stands_for old world → answer ≡ answer_of name world doing.change)
    → (ListsInOrder d → SpellsDone (done_bytes doing.query d) doing.query d) → DoesCommand name stands_for does old (Do doing) new
change_does name stands_for does old new doing answer d is did stands right spelled = record {
  did = did;
  stands = stands;
  encoded = change_encodes name (stands_for old) doing answer right
      (subst (λ (x : Done). ListsInOrder x → SpellsDone (done_bytes doing.query x) doing.query x) is spelled);
}

module _ {T : Type 0} (name : Namer) (read : Reading) (stands_for : T → WorldState → Type 0) (does : T → Command → T → Type 0) where
  -- the command of one more body was done
  bodies_more : (old : T) (bodies : List (List ℕ)) (mid : T) (body : List ℕ) (new : T) → DoesBodies name read stands_for does old bodies mid
      → DoesOne name read stands_for does mid body new → DoesBodies name read stands_for does old (bodies ++ body ∷ []) new
  bodies_more old bodies mid body new before one = record {
    commands = before.commands ++ one.command ∷ [];
    spelled = map-append read bodies (body ∷ []) ∙ ap (λ results. results ++ read body ∷ []) before.spelled
        ∙ ap (λ result. map (λ command. Ok command) before.commands ++ result ∷ []) one.spelled
        ∙ sym (map-append (λ command. Ok command) before.commands (one.command ∷ []));
    done = do_more does old before.commands mid one.command new before.done one.done.did;
    stands = λ world s.
        subst (stands_for new) (ap (world_past name (after name read world bodies)) (sym one.spelled) ∙ sym (after_more name read world bodies body))
        (one.done.stands (after name read world bodies) (before.stands world s));
    encoded = λ world s.
        encode_more name read world bodies body (before.encoded world s)
        (subst (Encodes name (after name read world bodies)) (sym one.spelled) (one.done.encoded (after name read world bodies) (before.stands world s)));
  }

  module _ (before : T) where
    pub serving_none : (serving_story name read stands_for does before before).told [] []
    serving_none = (
      λ world s. replied_none (answers_in name read world),
      record { commands = []; spelled = refl; done = refl; stands = λ world s. s; encoded = λ world s. tt },
    )

    pub serving_tells : (old new : T) (bodies : List (List ℕ)) (sent body before_text text : List ℕ) (answer : Step FrameFault)
        → ((world : WorldState) → stands_for old world → AnswersBody (λ body. answer_by name world (read body)) body before_text text answer)
        → DoesBody name read stands_for does old body new answer → (serving_story name read stands_for does before old).told bodies (sent ++ before_text)
        → Tells (serving_story name read stands_for does before new) bodies sent body before_text text answer
    serving_tells old new bodies sent body before_text text Told answers done told = (
      λ world s. answers_tell (answers_in name read world) bodies sent body before_text text Told (answers (after name read world bodies) (told.1.stands world s)) (told.0 world s),
      bodies_more before bodies old body new told.1 done,
    )
    serving_tells old new bodies sent body before_text text (Fault fault) answers done told = (
      (
        λ world s. (answers_tell (answers_in name read world) bodies sent body before_text text (Fault fault) (answers (after name read world bodies) (told.1.stands world s)) (told.0 world s)).0,
        subst (DoesBodies name read stands_for does before bodies) (sym done.1) told.1,
      ),
      done.0,
    )
    serving_tells old new bodies sent body before_text text NoMemory answers done told = (
      λ world s. answers_tell (answers_in name read world) bodies sent body before_text text NoMemory (answers (after name read world bodies) (told.1.stands world s)) (told.0 world s),
      elim done [
        | inl same ↦ inl (subst (DoesBodies name read stands_for does before bodies) (sym same) told.1)
        | inr one ↦ inr (bodies_more before bodies old body new told.1 one)
      ],
    )

    pub replies_as : (now : T) (world : WorldState) → stands_for before world
        → RepliesAs (answers_in name read world) (λ bodies. stands_for now (after name read world bodies)) (serving_story name read stands_for does before now)
    replies_as now world s = record {
      told = λ bodies text told. (told.0 world s, told.1.stands world s);
      lost = λ bodies text lost. (lost.0 world s, lost.1.stands world s);
      refused = λ bodies body fault unread. ap (answer_by name (after name read world bodies)) unread.1 ∙ ap refused_with unread.2;
      spent = λ bodies body text spent. (spent.0 world s, elim spent.1 [ inl done ↦ inl (done.stands world s) | inr done ↦ inr (done.stands world s) ]);
    }

-- ---- requests alone

by_asking : (name : Namer) (world : WorldState) (read : Result Question DecodeFault) → answer_by name world (as_asked read) ≡ answered name world read
by_asking name world (Ok question) = refl
by_asking name world (Err fault) = refl

past_asking : (name : Namer) (world : WorldState) (read : Result Question DecodeFault) → world_past name world (as_asked read) ≡ world
past_asking name world (Ok question) = refl
past_asking name world (Err fault) = refl

pub after_asking : (name : Namer) (world : WorldState) (bodies : List (List ℕ)) → after name read_asking world bodies ≡ world
after_asking name world [] = refl
after_asking name world (body ∷ bodies) = ap (λ w. after name read_asking w bodies) (past_asking name world (read_question body)) ∙ after_asking name world bodies

in_asking : (name : Namer) (world : WorldState) (before : List (List ℕ)) (body : List ℕ) → answers_in name read_asking world before body ≡ answer_to name world body
in_asking name world before body = ap (λ w. answer_by name w (read_asking body)) (after_asking name world before) ∙ by_asking name world (read_question body)

-- a world that no body changes answers each body alike, and stays the present
pub replies_alike : (name : Namer) (world : WorldState) (stands : WorldState → Type 0) (story : Story FrameFault)
    → RepliesAs (answers_in name read_asking world) (λ bodies. stands (after name read_asking world bodies)) story → RepliesAs (λ _. answer_to name world) (λ _. stands world) story
replies_alike name world stands story says =
    let stay : (bodies : List (List ℕ)) → stands (after name read_asking world bodies) → stands world = λ bodies. subst stands (after_asking name world bodies) in
    let same = same_replied (answers_in name read_asking world) (λ _. answer_to name world) (in_asking name world) in
    record {
      told = λ bodies text told. let right = says.told bodies text told in (same bodies text right.0, stay bodies right.1);
      lost = λ bodies text lost. let right = says.lost bodies text lost in (same bodies text right.0, stay bodies right.1);
      refused = λ bodies body fault unread. sym (in_asking name world bodies body) ∙ says.refused bodies body fault unread;
      spent = λ bodies body text spent. let right = says.spent bodies body text spent in
          (same bodies text right.0, elim right.1 [ inl left ↦ inl (stay bodies left) | inr left ↦ inr (stay (bodies ++ body ∷ []) left) ]);
    }

-- ---- ends

module _ (answers : Answering) (left : List (List ℕ) → Type 0) (story : Story FrameFault) (says : RepliesAs answers left story)
    (r0 r1 w0 w1 : Option (List ℕ)) (result : Result ℕ ServeFault) (ends : EndsTelling story r0 r1 w0 w1 result) where
  pub serving_ends : Serves answers left r0 r1 w0 w1 result
  serving_ends = subst (Serves answers left r0 r1 w0 w1) (sym ends.1) (serve_ends answers left story says r0 r1 w0 w1 ends.0 ends.2)

pub serving_stays : (answers : Answering) (P : Type 0) (story : Story FrameFault) → RepliesAs answers (λ _. P) story → (r0 r1 w0 w1 : Option (List ℕ)) (result : Result ℕ ServeFault)
    → EndsTelling story r0 r1 w0 w1 result → P
serving_stays answers P story says r0 r1 w0 w1 result ends =
    at_each_end P story r0 r1 w0 w1 (λ bodies text told. (says.told bodies text told).1) (λ bodies text lost. (says.lost bodies text lost).1)
    (λ bodies body text spent. elim (says.spent bodies body text spent).1 [ inl stays ↦ stays | inr stays ↦ stays ]) ends.0 ends.2
