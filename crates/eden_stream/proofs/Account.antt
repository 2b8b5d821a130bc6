-- The account of a pumping: what was read, cut, answered and written so far, and how each step carries it on.
use Rattle.std.proofs.Common.{◌≡◌, Bool, true, false, ℕ, ◌+◌, inl, inr, List, [], ◌∷◌, ◌++◌, take, drop, Option, refl, sym, ap, ◌∙◌, subst, arith, append_assoc, append-nil, length-append, take-append-drop}
use Rattle.std.specs.Io.KnownBytes.{Consumes, IsAtEnd}
use Rattle.std.proofs.KnownBytes.{Appends-nil, Appends-trans, Consumes-nil, Consumes-trans}
use Rattle.eden_stream.specs.Grammars.{Grammar, IsGrammar}
use Rattle.eden_stream.specs.Stories.{IsStory, Story}
use Rattle.eden_stream.specs.Pumps.{Faults, Halts, Losses, Ran, Tellings}
use Rattle.eden_stream.specs.internal.Steps.{Receives, Sends, TakesTurn}
use Rattle.eden_stream.specs.Torn.{Tears}
use Rattle.eden_stream.specs.declared.pump.Turn.{Turn}
use Rattle.eden_stream.specs.declared.pump.Turn.TheVariants.{Taken, Faulty, NoMemory, Waiting}

pub ran_start : {E : Type 0} {grammar : Grammar E} → IsGrammar grammar → (story : Story E) (r w : Option (List ℕ)) → story.told [] [] → Ran grammar (Tellings story) r r w w false 0 [] []
ran_start law story r w told = record {
  stream = [];
  items = [];
  sent = [];
  read = Consumes-nil r;
  at_end = λ e. absurd cc;
  cut = law.start;
  count_is = refl;
  says = told;
  written = Appends-nil w;
}

module _ {E : Type 0} {grammar : Grammar E} {Says : List ℕ → List (List ℕ) → List ℕ → Type 0} {r0 r1 w0 w1 : Option (List ℕ)} {ended : Bool} {count : ℕ} {held old : List ℕ}
    (ran : Ran grammar Says r0 r1 w0 w1 ended count held old) where
  -- the next item was taken
  pub ran_taken : {Now : List ℕ → List (List ℕ) → List ℕ → Type 0} {left new : List ℕ}
      → (item : List ℕ) × grammar.cut ended ran.stream (ran.items ++ item ∷ []) left × Now ran.stream (ran.items ++ item ∷ []) (ran.sent ++ new)
      → Ran grammar Now r0 r1 w0 w1 ended (count + 1) left new
  ran_taken step = record {
    stream = ran.stream;
    items = ran.items ++ step.0 ∷ [];
    sent = ran.sent;
    read = ran.read;
    at_end = ran.at_end;
    cut = step.1;
    count_is = omega (arith, ran.count_is, length-append ran.items (step.0 ∷ []));
    says = step.2;
    written = ran.written;
  }

  -- no further item was taken
  pub ran_stays : {Now : List ℕ → List (List ℕ) → List ℕ → Type 0} {left new : List ℕ} → grammar.cut ended ran.stream ran.items left → Now ran.stream ran.items (ran.sent ++ new)
      → Ran grammar Now r0 r1 w0 w1 ended count left new
  ran_stays cut says = record {
    stream = ran.stream;
    items = ran.items;
    sent = ran.sent;
    read = ran.read;
    at_end = ran.at_end;
    cut = cut;
    count_is = ran.count_is;
    says = says;
    written = ran.written;
  }

  -- a front of the waiting text was written
  pub ran_sent : {w2 : Option (List ℕ)} {left : List ℕ} → Sends w1 w2 old left → Ran grammar Says r0 r1 w0 w2 ended count held left
  ran_sent {w2} {left} sends =
      let now = sends.0 in
      record {
        stream = ran.stream;
        items = ran.items;
        sent = ran.sent ++ now;
        read = ran.read;
        at_end = ran.at_end;
        cut = ran.cut;
        count_is = ran.count_is;
        says = subst (Says ran.stream ran.items) (ap (λ text. ran.sent ++ text) sends.2 ∙ sym (append_assoc ran.sent now left)) ran.says;
        written = Appends-trans w0 w1 w2 ran.sent now ran.written sends.1;
      }

  -- some first bytes of it were written, and the others wait still
  pub ran_torn : {w2 : Option (List ℕ)} (tears : Tears w1 w2 old) → Ran grammar Says r0 r1 w0 w2 ended count held (drop tears.0 old)
  ran_torn tears = ran_sent (take tears.0 old, tears.1, sym (take-append-drop tears.0 old))

-- no further item was taken, and all that waited was written
pub ran_rests : {E : Type 0} {grammar : Grammar E} {Says Now : List ℕ → List (List ℕ) → List ℕ → Type 0} {r0 r1 w0 w1 w2 : Option (List ℕ)} {ended : Bool} {count : ℕ} {held left old new waiting : List ℕ}
    → (ran : Ran grammar Says r0 r1 w0 w1 ended count held old) → grammar.cut ended ran.stream ran.items left → Now ran.stream ran.items (ran.sent ++ new)
    → Sends w1 w2 new waiting → waiting ≡ [] → Ran grammar Now r0 r1 w0 w2 ended count left []
ran_rests ran cut says sends none = rw (sym none) (ran_sent (ran_stays ran cut says) sends)

module _ {E : Type 0} {grammar : Grammar E} (law : IsGrammar grammar) where
  -- more bytes came
  pub ran_got : {Says : List (List ℕ) → List ℕ → Type 0} {r0 r1 r2 w0 w1 : Option (List ℕ)} {count : ℕ} {held waiting : List ℕ} → Ran grammar (λ _. Says) r0 r1 w0 w1 false count held waiting
      → (got : List ℕ) → Consumes r1 r2 got → Ran grammar (λ _. Says) r0 r2 w0 w1 false count (held ++ got) waiting
  ran_got {r0 = r0} {r1 = r1} {r2 = r2} {held = held} ran got read = record {
    stream = ran.stream ++ got;
    items = ran.items;
    sent = ran.sent;
    read = Consumes-trans r0 r1 r2 ran.stream got ran.read read;
    at_end = λ e. absurd cc;
    cut = law.grows ran.stream ran.items held got ran.cut;
    count_is = ran.count_is;
    says = ran.says;
    written = ran.written;
  }

  pub ran_received : {Says : List (List ℕ) → List ℕ → Type 0} {r0 r1 r2 w0 w1 : Option (List ℕ)} {count : ℕ} {held now waiting : List ℕ}
      → Ran grammar (λ _. Says) r0 r1 w0 w1 false count held waiting → Receives r1 r2 held now → Ran grammar (λ _. Says) r0 r2 w0 w1 false count now waiting
  ran_received ran receives = rw receives.2 (ran_got ran receives.0 receives.1)

  -- a read that gave nothing
  pub ran_no_more : {Says : List (List ℕ) → List ℕ → Type 0} {r0 r1 r2 w0 w1 : Option (List ℕ)} {count : ℕ} {held now waiting : List ℕ}
      → Ran grammar (λ _. Says) r0 r1 w0 w1 false count held waiting → Consumes r1 r2 [] → now ≡ held → Ran grammar (λ _. Says) r0 r2 w0 w1 false count now waiting
  ran_no_more {held = held} ran read same = ran_received ran ([], read, same ∙ sym (append-nil held))

  -- no more bytes come
  pub ran_ended : {Says : List ℕ → List (List ℕ) → List ℕ → Type 0} {r0 r1 w0 w1 : Option (List ℕ)} {count : ℕ} {held waiting : List ℕ}
      → Ran grammar Says r0 r1 w0 w1 false count held waiting → IsAtEnd r1 → Ran grammar Says r0 r1 w0 w1 true count held waiting
  ran_ended {held = held} ran at_end = record {
    stream = ran.stream;
    items = ran.items;
    sent = ran.sent;
    read = ran.read;
    at_end = λ e. at_end;
    cut = law.ends ran.stream ran.items held ran.cut;
    count_is = ran.count_is;
    says = ran.says;
    written = ran.written;
  }

-- the pumping can't go on after what was answered
pub ran_halted : {E : Type 0} {grammar : Grammar E} (next : Story E) {r0 r1 w0 w1 : Option (List ℕ)} {ended : Bool} {count : ℕ} {held waiting : List ℕ}
    → Ran grammar (Tellings next) r0 r1 w0 w1 ended count held waiting → Ran grammar (Halts grammar next ended) r0 r1 w0 w1 ended count held waiting
ran_halted next ran = ran_stays ran ran.cut (inl ran.says)

-- what is answered to items that a fault ends is lost with them
faults_lose : {E : Type 0} {grammar : Grammar E} {next : Story E} → IsStory grammar next → (ended : Bool) (held : List ℕ) (fault : E) (stream : List ℕ) (items : List (List ℕ)) (text : List ℕ)
    → Faults grammar next ended held fault stream items text → next.lost items text
faults_lose lawful ended held fault stream items text (inl f) = lawful.stops items text f.0
faults_lose lawful ended held fault stream items text (inr f) = f.0

module _ {E : Type 0} {grammar : Grammar E} {next : Story E} (lawful : IsStory grammar next) {r0 r1 w0 w1 : Option (List ℕ)} {ended : Bool} {count : ℕ} where
  -- after any turn the account goes on, with as many items or one more
  pub ran_turned : {Says : List ℕ → List (List ℕ) → List ℕ → Type 0} {held old : List ℕ} (ran : Ran grammar Says r0 r1 w0 w1 ended count held old) (left new : List ℕ) (turn : Turn E)
      → TakesTurn grammar next ended ran.stream ran.items ran.sent left new turn → (number : ℕ) × Ran grammar (Losses grammar next ended) r0 r1 w0 w1 ended number left new
  ran_turned ran left new Taken step =
      (count + 1, ran_taken ran (step.0, step.1, inl (lawful.stops (ran.items ++ step.0 ∷ []) (ran.sent ++ new) step.2)))
  ran_turned ran left new (Faulty fault) step = (count, ran_stays ran step.0 (inl (faults_lose lawful ended left fault ran.stream ran.items (ran.sent ++ new) step.1)))
  ran_turned ran left new NoMemory step = (count, ran_stays ran step.0 (inr step.1))
  ran_turned ran left new Waiting step = (count, ran_stays ran step.0 (inl (lawful.stops ran.items (ran.sent ++ new) step.2)))
