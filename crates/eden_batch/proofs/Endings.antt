-- How the reading of a batch ends, by how the pumping of its objects does.
use Rattle.std.proofs.Common.{◌≡◌, Bool, true, false, ℕ, ◌+◌, ◌⊎◌, inl, inr, List, [], ◌∷◌, ◌++◌, length, map, drop, Option, Result, Ok, Err, refl, sym, ap, ◌∙◌, subst, arith, append_assoc, append-nil}
use Rattle.std.specs.List.{concat}
use Rattle.std.proofs.lemmas.List.{drop_at, length-map}
use Rattle.std.proofs.lemmas.List.Folds.{concat-append}
use Rattle.std.proofs.lemmas.List.Elements.{All-nil}
use Rattle.eden_ids.specs.declared.id.Id.{Id}
use Rattle.eden_objects.specs.Objects.{Held}
use Rattle.eden_stream.specs.Pumps as pumps
use Rattle.eden_stream.specs.Pumps.{Faults, Halts, Ran, Tellings}
use Rattle.eden_stream.specs.declared.pump.Stop.{Stop}
use Rattle.eden_stream.specs.declared.pump.Stop.TheVariants.{Item, Read, Write, TurnsSpent, NoMemory}
use Rattle.eden_batch.specs.Batches.{IsObject, batch, written}
use Rattle.eden_batch.specs.Ends.{BeginsWith, Ends, HasFault, ReadsObjects, StopsAtObject, StopsBetween, StopsEarly}
use Rattle.eden_batch.specs.Puttings.{IsPut}
use Rattle.eden_batch.specs.internal.Grammar.{IsFaulty, object_grammar}
use Rattle.eden_batch.specs.internal.Loads.{AreSame, Fails, Fills, HavePut, IsItemPut, IsReadAs, put_story, with_ids}
use Rattle.eden_batch.specs.declared.fault.ObjectFault.{ObjectFault}
use Rattle.eden_batch.specs.declared.fault.ObjectFault.TheVariants.{BadHeader, CutShort, OtherId, Refused, TooLarge}
use Rattle.eden_batch.specs.declared.fault.ObjectsFault.{ObjectsFault}
use Rattle.eden_batch.specs.declared.fault.ObjectsFault.TheVariants as faults
use Rattle.eden_batch.specs.declared.putting.Filling.{Filling}

texts : (objects : List Held) → concat (map written objects) ≡ batch objects
texts [] = refl
texts (o ∷ os) = ap (λ l. written o ++ l) (texts os)

-- an item that is taken is at the front of what was held
taken : (items : List (List ℕ)) (item left held stream : List ℕ) → stream ≡ concat items ++ held → stream ≡ concat (items ++ item ∷ []) ++ left → held ≡ item ++ left
taken items item left held stream cut next =
    let front = concat items in
    let same : front ++ held ≡ front ++ (item ++ left) =
    sym cut ∙ next ∙ ap (λ l. l ++ left) (concat-append items (item ∷ []) ∙ ap (λ l. front ++ l) (append-nil item)) ∙ append_assoc front item left in
    sym (drop_at front held (length front) refl) ∙ ap (drop (length front)) same ∙ drop_at front (item ++ left) (length front) refl

module _ {I : Type 0} (name : List ℕ → List ℕ → Id) (has : I → List Held) (over : I → List Held → I) (r0 r1 w0 w1 : Option (List ℕ)) (before now : Filling I) where
  reads : (Says : List ℕ → List (List ℕ) → List ℕ → Type 0) (ended : Bool) (count : ℕ) (rest waiting : List ℕ)
      → (ran : Ran object_grammar Says r0 r1 w0 w1 ended count rest waiting) (objects held : List Held) → HavePut name (has before.into.now) ran.items objects held
      → ReadsObjects name r0 r1 (has before.into.now) objects rest held
  reads Says ended count rest waiting ran objects held have = record {
    stream = ran.stream;
    read = ran.read;
    cut = ran.cut ∙ ap (λ l. l ++ rest) (ap concat have.items_are ∙ texts objects);
    each = have.each;
    put = have.put;
  }

  -- a cause that is at the front of the rest
  unreadable : (fault : ObjectFault) (rest : List ℕ) (held : List Held) → IsFaulty rest fault → HasFault name r1 rest held held fault
  unreadable BadHeader rest held f = (f, refl)
  unreadable TooLarge rest held f = (f, refl)
  unreadable CutShort rest held f = absurd f
  unreadable (Refused cause) rest held f = absurd f
  unreadable OtherId rest held f = absurd f

  -- a cause that refuses an object
  unput : (fault : ObjectFault) (rest left : List ℕ) (object : Held) (held new : List Held) → IsObject object → rest ≡ written object ++ left
      → Fails name object held new fault → HasFault name r1 rest held new fault
  unput BadHeader rest left object held new is cut f = absurd f
  unput TooLarge rest left object held new is cut f = absurd f
  unput CutShort rest left object held new is cut f = absurd f
  unput (Refused cause) rest left object held new is cut f = (record { object = object; more = left; is_object = is; cut = cut; is = f.0 }, f.1)
  unput OtherId rest left object held new is cut f = record { object = object; more = left; is_object = is; cut = cut; is = f }

  numbered : (items : List (List ℕ)) (objects held : List Held) (number count : ℕ) → HavePut name (has before.into.now) items objects held → number ≡ count + 1
      → count ≡ length items → number ≡ length objects + 1
  numbered items objects held number count have is count_is =
      omega (arith, is, count_is, ap length have.items_are, length-map objects written)

  at_object : (number : ℕ) (fault : ObjectFault) (ended : Bool) (count : ℕ) (rest : List ℕ) → number ≡ count + 1
      → (ran : Ran object_grammar (Faults object_grammar (put_story name has over before now) ended rest fault) r0 r1 w0 w1 ended count rest [])
      → Faults object_grammar (put_story name has over before now) ended rest fault ran.stream ran.items (ran.sent ++ [])
      → StopsAtObject name r0 r1 (has before.into.now) (has now.into.now) number fault
  at_object number fault ended count rest is ran (inl (told, inl faulty)) =
      let fills = told.1 in
      record {
        objects = fills.objects;
        rest = rest;
        held = has now.into.now;
        front = reads _ ended count rest [] ran fills.objects (has now.into.now) fills.have;
        number_is = numbered ran.items fills.objects (has now.into.now) number count fills.have is ran.count_is;
        fault = unreadable fault rest (has now.into.now) faulty;
      }
  at_object number fault ended count rest is ran (inl (told, inr short)) =
      let fills = told.1 in
      record {
        objects = fills.objects;
        rest = rest;
        held = has now.into.now;
        front = reads _ ended count rest [] ran fills.objects (has now.into.now) fills.have;
        number_is = numbered ran.items fills.objects (has now.into.now) number count fills.have is ran.count_is;
        fault = subst (HasFault name r1 rest (has now.into.now) (has now.into.now)) (sym short.3) (short.1, short.2, ran.at_end short.0, refl);
      }
  at_object number fault ended count rest is ran (inr f) =
      let bad = f.1 in
      let fails = bad.3 in
      record {
        objects = fails.objects;
        rest = rest;
        held = fails.held;
        front = reads _ ended count rest [] ran fails.objects fails.held fails.have;
        number_is = numbered ran.items fails.objects fails.held number count fails.have is ran.count_is;
        fault =
            unput fault rest bad.1 fails.object fails.held (has now.into.now) fails.is_object
            (taken ran.items bad.0 bad.1 rest ran.stream ran.cut bad.2 ∙ ap (λ item. item ++ bad.1) fails.item_is) fails.fails;
      }

  -- where of these objects alone the ids are noted, the next object has this number
  next_number : (objects : List Held) (next : ℕ) → now.ids.now.items ≡ before.ids.now.items ++ map (λ object. object.id) objects
      → before.ids.now.items ≡ [] → next ≡ length now.ids.now.items + 1 → next ≡ length objects + 1
  next_number objects next ids_are none next_is =
      omega (
        arith,
        next_is,
        ap length ids_are ∙ ap (λ first. length (first ++ map (λ object. object.id) objects)) none,
        length-map objects (λ object. object.id),
      )

  between : (count : ℕ) (rest : List ℕ) → object_grammar.partial false rest
      → Ran object_grammar (Tellings (put_story name has over before now)) r0 r1 w0 w1 false count rest [] → (next : ℕ) → before.ids.now.items ≡ []
      → next ≡ length now.ids.now.items + 1 → StopsBetween name r0 r1 (has before.into.now) (has now.into.now) next
  between count rest partial ran next none next_is =
      let fills = ran.says.1 in
      record {
        objects = fills.objects;
        rest = rest;
        front = reads _ false count rest [] ran fills.objects (has now.into.now) fills.have;
        number_is = next_number fills.objects next fills.ids_are none next_is;
        partial = partial.0;
      }

  -- an item that was put begins what is left
  begun : (items : List (List ℕ)) (item left rest stream : List ℕ) (held new : List Held) → stream ≡ concat items ++ rest → stream ≡ concat (items ++ item ∷ []) ++ left
      → (new ≡ held) ⊎ IsItemPut name item held new → (new ≡ held) ⊎ BeginsWith (λ object. IsPut name object held new) rest
  begun items item left rest stream held new cut next (inl same) = inl same
  begun items item left rest stream held new cut next (inr put) =
      inr (record { object = put.0; more = left; is_object = put.1; cut = taken items item left rest stream cut next ∙ ap (λ i. i ++ left) put.2; is = put.3 })

  early : (ended : Bool) (count : ℕ) (rest : List ℕ) (next : ℕ) → before.ids.now.items ≡ [] → next ≡ length now.ids.now.items + 1
      → (ran : Ran object_grammar (Halts object_grammar (put_story name has over before now) ended) r0 r1 w0 w1 ended count rest [])
      → Halts object_grammar (put_story name has over before now) ended ran.stream ran.items (ran.sent ++ [])
      → StopsEarly name r0 r1 (has before.into.now) (has now.into.now) next
  early ended count rest next none next_is ran (inl told) =
      let fills = told.1 in
      record {
        objects = fills.objects;
        rest = rest;
        held = has now.into.now;
        front = reads _ ended count rest [] ran fills.objects (has now.into.now) fills.have;
        number_is = next_number fills.objects next fills.ids_are none next_is;
        grown = inl refl;
      }
  early ended count rest next none next_is ran (inr spent) =
      let halts = spent.3.1 in
      record {
        objects = halts.objects;
        rest = rest;
        held = halts.held;
        front = reads _ ended count rest [] ran halts.objects halts.held halts.have;
        number_is = next_number halts.objects next halts.ids_are none next_is;
        grown = begun ran.items spent.0 spent.1 rest ran.stream halts.held (has now.into.now) ran.cut spent.2 halts.grown;
      }

  -- the same store and list are filled, however the pumping ended
  pub same_filling : (outcome : Result ℕ (Stop ObjectFault)) → pumps.Ends object_grammar (put_story name has over before now) r0 r1 w0 w1 outcome → AreSame name has over before now
  same_filling (Ok count) e = e.2.says.0
  same_filling (Err (Item number fault)) e = elim e.4.says [ inl f ↦ f.0.0 | inr f ↦ f.0 ]
  same_filling (Err Read) e = e.3.says.0
  same_filling (Err TurnsSpent) e = e.3.says.0
  same_filling (Err NoMemory) e = elim e.3.says [ inl f ↦ f.0 | inr f ↦ f.3.0 ]
  same_filling (Err Write) e = elim e.4.says [ inl f ↦ f | inr f ↦ f.3.0 ]

  pub ends : (ids : List Id) → ids ≡ now.ids.now.items → before.ids.now.items ≡ [] → (next : ℕ) → next ≡ length now.ids.now.items + 1
      → (outcome : Result ℕ (Stop ObjectFault)) (result : Result (Unit {0}) ObjectsFault) → IsReadAs next outcome result
      → pumps.Ends object_grammar (put_story name has over before now) r0 r1 w0 w1 outcome → Ends name r0 r1 (has before.into.now) (has now.into.now) (with_ids ids result)
  ends ids noted none next next_is (Ok count) result is e =
      let ran = e.2 in
      let fills = ran.says.1 in
      rw is (record {
        objects = fills.objects;
        front =
            subst (λ rest. ReadsObjects name r0 r1 (has before.into.now) fills.objects rest (has now.into.now)) (e.1.1 refl)
            (reads _ true count e.0 [] ran fills.objects (has now.into.now) fills.have);
        at_end = ran.at_end refl;
        ids_are = noted ∙ fills.ids_are ∙ ap (λ first. first ++ map (λ object. object.id) fills.objects) none;
      })
  ends ids noted none next next_is (Err (Item number fault)) result is e = rw is (at_object number fault e.0 e.1 e.2 e.3 e.4 e.4.says)
  ends ids noted none next next_is (Err Read) result is e = rw is (between e.0 e.1 e.2 e.3 next none next_is)
  ends ids noted none next next_is (Err TurnsSpent) result is e = rw is (between e.0 e.1 e.2 e.3 next none next_is)
  ends ids noted none next next_is (Err NoMemory) result is e = rw is (early e.0 e.1 e.2 next none next_is e.3 e.3.says)
  ends ids noted none next next_is (Err Write) result is e = absurd is

-- each of these ends is reported as itself
pub own_end : (next number : ℕ) (outcome : Result ℕ (Stop ObjectFault)) (result : Result (Unit {0}) ObjectsFault) → IsReadAs next outcome result → record {
  read : result ≡ Err (faults.Read number) → outcome ≡ Err Read;
  turns_spent : result ≡ Err (faults.TurnsSpent number) → outcome ≡ Err TurnsSpent;
}
own_end next number (Ok count) result is = record { read = λ e. cc; turns_spent = λ e. cc }
own_end next number (Err (Item other fault)) result is = record { read = λ e. cc; turns_spent = λ e. cc }
own_end next number (Err Read) result is = record { read = λ e. refl; turns_spent = λ e. cc }
own_end next number (Err TurnsSpent) result is = record { read = λ e. cc; turns_spent = λ e. refl }
own_end next number (Err NoMemory) result is = record { read = λ e. cc; turns_spent = λ e. cc }
own_end next number (Err Write) result is = absurd is

-- nothing is put yet
pub fills_none : (name : List ℕ → List ℕ → Id) (held : List Held) → Fills name held held [] [] []
fills_none name held = record {
  objects = [];
  have = record { items_are = refl; each = All-nil IsObject; put = refl };
  ids_are = refl;
}
