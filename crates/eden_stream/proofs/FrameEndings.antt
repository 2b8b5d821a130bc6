-- How a serving ends, by how the pumping of its frames does, and what a server answers to a body.
use Rattle.std.proofs.Common.{◌≡◌, Bool, true, false, ℕ, ◌⊎◌, inl, inr, List, [], ◌∷◌, ◌++◌, length, take, drop, Option, Result, Ok, Err, refl, sym, ap, ◌∙◌, subst, arith, append_assoc, append-nil}
use Rattle.std.specs.Io.KnownBytes.{Appends, IsAtEnd}
use Rattle.std.specs.List.{All, flat_map}
use Rattle.std.proofs.lemmas.List.{drop_at, flat_map_more, nil_from_length, take_at}
use Rattle.std.proofs.lemmas.List.Elements.{All-tail}
use Rattle.eden_stream.specs.FrameAnswers.{Answering, HasReplied, RepliesAs, replies}
use Rattle.eden_stream.specs.FrameEnds.{IsCutShort, IsFaulty, LeavesNext, ReadsFrames, Serves, StopsBetween}
use Rattle.eden_stream.specs.FrameGrammar.{frame_grammar}
use Rattle.eden_stream.specs.Frames.{IsBody, IsCut, frame}
use Rattle.eden_stream.specs.Pumps as pumps
use Rattle.eden_stream.specs.Pumps.{Faults, Halts, Losses, Ran, Tellings}
use Rattle.eden_stream.specs.Stories.{Story}
use Rattle.eden_stream.specs.declared.frames.ServeFault.TheVariants as faults
use Rattle.eden_stream.specs.declared.pump.Stop.{Stop}
use Rattle.eden_stream.specs.declared.pump.Stop.TheVariants.{Item, Read, Write, TurnsSpent, NoMemory}
use Rattle.eden_stream.specs.declared.frame_fault.FrameFault.{FrameFault}
use Rattle.eden_stream.specs.FrameTellings.{served_as}

-- a frame that is taken is at the front of what was held
taken_frame : (stream : List ℕ) (bodies : List (List ℕ)) (body held left : List ℕ) → IsCut stream bodies held → IsCut stream (bodies ++ body ∷ []) left → held ≡ frame body ++ left
taken_frame stream bodies body held left cut next =
    let front = flat_map frame bodies in
    let same : front ++ held ≡ front ++ (frame body ++ left) =
    sym cut.whole ∙ next.whole ∙ ap (λ bytes. bytes ++ left) (sym (flat_map_more frame [] bodies body)) ∙ append_assoc front (frame body) left in
    sym (drop_at front held (length front) refl) ∙ ap (drop (length front)) same ∙ drop_at front (frame body ++ left) (length front) refl

last_of : (bodies : List (List ℕ)) (body : List ℕ) → All IsBody (bodies ++ body ∷ []) → IsBody body
last_of [] body each = each 0 body (omega arith)
last_of (first ∷ bodies) body each = last_of bodies body (All-tail IsBody first (bodies ++ body ∷ []) each)

-- what is so however the telling went is so at each end
pub at_each_end : (P : Type 0) (story : Story FrameFault) (r0 r1 w0 w1 : Option (List ℕ)) → ((bodies : List (List ℕ)) (text : List ℕ) → story.told bodies text → P)
    → ((bodies : List (List ℕ)) (text : List ℕ) → story.lost bodies text → P) → ((bodies : List (List ℕ)) (body text : List ℕ) → story.spent bodies body text → P)
    → (outcome : Result ℕ (Stop FrameFault)) → pumps.Ends frame_grammar story r0 r1 w0 w1 outcome → P
at_each_end P story r0 r1 w0 w1 told lost spent (Ok count) e = told e.2.items (e.2.sent ++ []) e.2.says
at_each_end P story r0 r1 w0 w1 told lost spent (Err (Item number fault)) e =
    elim e.4.says [ inl f ↦ told e.4.items (e.4.sent ++ []) f.0 | inr f ↦ lost e.4.items (e.4.sent ++ []) f.0 ]
at_each_end P story r0 r1 w0 w1 told lost spent (Err Read) e = told e.3.items (e.3.sent ++ []) e.3.says
at_each_end P story r0 r1 w0 w1 told lost spent (Err TurnsSpent) e = told e.3.items (e.3.sent ++ []) e.3.says
at_each_end P story r0 r1 w0 w1 told lost spent (Err NoMemory) e =
    elim e.3.says [ inl f ↦ told e.3.items (e.3.sent ++ []) f | inr f ↦ spent e.3.items f.0 (e.3.sent ++ []) f.3 ]
at_each_end P story r0 r1 w0 w1 told lost spent (Err Write) e =
    elim e.4.says [ inl f ↦ lost e.4.items (e.4.sent ++ e.3) f | inr f ↦ spent e.4.items f.0 (e.4.sent ++ e.3) f.3 ]

module _ (answers : Answering) (left : List (List ℕ) → Type 0) (story : Story FrameFault) (says : RepliesAs answers left story) (r0 r1 w0 w1 : Option (List ℕ)) where
  -- what was replied, and how the server is left where it may have been given the next body too
  abbrev Early : List (List ℕ) → List ℕ → List ℕ → Type 0
  Early bodies held text = HasReplied answers bodies text × (left bodies ⊎ LeavesNext left held bodies)

  spent_early : (stream : List ℕ) (bodies : List (List ℕ)) (held text body more : List ℕ) → IsCut stream bodies held → IsCut stream (bodies ++ body ∷ []) more
      → story.spent bodies body text → Early bodies held text
  spent_early stream bodies held text body more cut next spent =
      let says = says.spent bodies body text spent in (
        says.0,
        elim says.1 [
          | inl same ↦ inl same
          | inr leaves ↦ inr (record { body = body; more = more; within = last_of bodies body next.each; cut = taken_frame stream bodies body held more cut next; leaves = leaves })
        ],
      )

  lost_early : (ended : Bool) (stream : List ℕ) (bodies : List (List ℕ)) (held text : List ℕ) → IsCut stream bodies held → Losses frame_grammar story ended stream bodies text → Early bodies held text
  lost_early ended stream bodies held text cut (inl lost) = let says = says.lost bodies text lost in (says.0, inl says.1)
  lost_early ended stream bodies held text cut (inr spent) = spent_early stream bodies held text spent.0 spent.1 cut spent.2 spent.3

  halted_early : (ended : Bool) (stream : List ℕ) (bodies : List (List ℕ)) (held text : List ℕ) → IsCut stream bodies held → Halts frame_grammar story ended stream bodies text → Early bodies held text
  halted_early ended stream bodies held text cut (inl told) = let says = says.told bodies text told in (says.0, inl says.1)
  halted_early ended stream bodies held text cut (inr spent) = spent_early stream bodies held text spent.0 spent.1 cut spent.2 spent.3

  faulty_says : (ended : Bool) (held : List ℕ) (fault : FrameFault) (stream : List ℕ) (bodies : List (List ℕ)) (text : List ℕ)
      → Faults frame_grammar story ended held fault stream bodies text → HasReplied answers bodies text × left bodies
  faulty_says ended held fault stream bodies text (inl f) = says.told bodies text f.0
  faulty_says ended held fault stream bodies text (inr f) = says.lost bodies text f.0

  front_of : (Says : List ℕ → List (List ℕ) → List ℕ → Type 0) (ended : Bool) (count : ℕ) (held waiting : List ℕ) → (ran : Ran frame_grammar Says r0 r1 w0 w1 ended count held waiting)
      → HasReplied answers ran.items (ran.sent ++ waiting) → ReadsFrames answers r0 r1 ran.items held
  front_of Says ended count held waiting ran replied = record { stream = ran.stream; read = ran.read; cut = ran.cut; replied = replied.replied }

  all_written : (bodies : List (List ℕ)) (sent : List ℕ) → HasReplied answers bodies (sent ++ []) → Appends w0 w1 sent → Appends w0 w1 (replies answers bodies)
  all_written bodies sent replied written = subst (Appends w0 w1) (sym (replied.text_is ∙ append-nil sent)) written

  between : (count : ℕ) (held : List ℕ) → frame_grammar.partial false held → (ran : Ran frame_grammar (Tellings story) r0 r1 w0 w1 false count held [])
      → StopsBetween answers left r0 r1 w0 w1
  between count held partial ran =
      let says = says.told ran.items (ran.sent ++ []) ran.says in
      record {
        bodies = ran.items;
        rest = held;
        front = front_of _ false count held [] ran says.0;
        partial = partial.0;
        written = all_written ran.items ran.sent says.0 ran.written;
        leaves = says.1;
      }

  is_faulty : (ended : Bool) (held : List ℕ) (fault : FrameFault) (stream : List ℕ) (bodies : List (List ℕ)) (text : List ℕ) → (ended ≡ true → IsAtEnd r1) → IsCut stream bodies held
      → Faults frame_grammar story ended held fault stream bodies text → IsFaulty (answers bodies) held fault ⊎ IsCutShort r1 held fault
  is_faulty ended held fault stream bodies text at_end cut (inl (told, inl long)) = inl (inl long)
  is_faulty ended held fault stream bodies text at_end cut (inl (told, inr short)) = inr (at_end short.0, short.1, short.2, short.3)
  is_faulty ended held fault stream bodies text at_end cut (inr f) =
      let bad = f.1 in
      inl (inr (record {
        body = bad.0;
        more = bad.1;
        within = last_of bodies bad.0 bad.2.each;
        cut = taken_frame stream bodies bad.0 held bad.1 cut bad.2;
        refused = says.refused bodies bad.0 fault bad.3;
      }))

  pub serve_ends : (outcome : Result ℕ (Stop FrameFault)) → pumps.Ends frame_grammar story r0 r1 w0 w1 outcome → Serves answers left r0 r1 w0 w1 (served_as outcome)
  serve_ends (Ok count) e =
      let ran = e.2 in
      let says = says.told ran.items (ran.sent ++ []) ran.says in
      record {
        bodies = ran.items;
        front = subst (ReadsFrames answers r0 r1 ran.items) (nil_from_length e.0 (e.1.1 refl)) (front_of _ true count e.0 [] ran says.0);
        at_end = ran.at_end refl;
        count_is = ran.count_is;
        written = all_written ran.items ran.sent says.0 ran.written;
        leaves = says.1;
      }
  serve_ends (Err (Item number fault)) e =
      let ran = e.4 in
      let says = faulty_says e.0 e.2 fault ran.stream ran.items (ran.sent ++ []) ran.says in
      record {
        bodies = ran.items;
        rest = e.2;
        front = front_of _ e.0 e.1 e.2 [] ran says.0;
        faulty = is_faulty e.0 e.2 fault ran.stream ran.items (ran.sent ++ []) ran.at_end ran.cut ran.says;
        number_is = omega (arith, e.3, ran.count_is);
        written = all_written ran.items ran.sent says.0 ran.written;
        leaves = says.1;
      }
  serve_ends (Err Read) e = between e.0 e.1 e.2 e.3
  serve_ends (Err TurnsSpent) e = between e.0 e.1 e.2 e.3
  serve_ends (Err NoMemory) e =
      let ran = e.3 in
      let says = halted_early e.0 ran.stream ran.items e.2 (ran.sent ++ []) ran.cut ran.says in
      record {
        bodies = ran.items;
        rest = e.2;
        front = front_of _ e.0 e.1 e.2 [] ran says.0;
        written = all_written ran.items ran.sent says.0 ran.written;
        leaves = says.1;
      }
  serve_ends (Err Write) e =
      let ran = e.4 in
      let says = lost_early e.0 ran.stream ran.items e.2 (ran.sent ++ e.3) ran.cut ran.says in
      record {
        bodies = ran.items;
        rest = e.2;
        taken = length ran.sent;
        front = front_of _ e.0 e.1 e.2 e.3 ran says.0;
        written = subst (Appends w0 w1) (sym (ap (take (length ran.sent)) says.0.text_is ∙ take_at ran.sent e.3 (length ran.sent) refl)) ran.written;
        leaves = says.1;
      }

-- each of these ends is reported as itself
pub own_end : (outcome : Result ℕ (Stop FrameFault)) → record {
  read : served_as outcome ≡ Err faults.Read → outcome ≡ Err Read;
  write : served_as outcome ≡ Err faults.Write → outcome ≡ Err Write;
  turns_spent : served_as outcome ≡ Err faults.TurnsSpent → outcome ≡ Err TurnsSpent;
}
own_end (Ok count) = record { read = λ e. cc; write = λ e. cc; turns_spent = λ e. cc }
own_end (Err (Item number fault)) = record { read = λ e. cc; write = λ e. cc; turns_spent = λ e. cc }
own_end (Err Read) = record { read = λ e. refl; write = λ e. cc; turns_spent = λ e. cc }
own_end (Err Write) = record { read = λ e. cc; write = λ e. refl; turns_spent = λ e. cc }
own_end (Err TurnsSpent) = record { read = λ e. cc; write = λ e. cc; turns_spent = λ e. refl }
own_end (Err NoMemory) = record { read = λ e. cc; write = λ e. cc; turns_spent = λ e. cc }
