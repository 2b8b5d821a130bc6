-- Each call takes what is behind a lock on as its counts say.
use Rattle.std.proofs.Common.{◌≡◌, ℕ, suc, ◌+◌, inl, inr, List, [], ◌∷◌, ◌++◌, Option, Some, refl, sym, subst, arith, length-append}
use Rattle.std.proofs.Math.Logic.{∥∥₁_map}
use Rattle.eden_history.specs.declared.answer.Answer.{Answer}
use Rattle.eden_history.specs.declared.change.Change.{Change}
use Rattle.eden_history.specs.Outcome.{world_after}
use Rattle.eden_history.specs.Worlds.{Namer, WorldState}
use Rattle.eden_messages.specs.declared.message.Request.{Request}
use Rattle.eden_query.specs.declared.raw.Raw.{Raw}
use Rattle.eden_shared.specs.Reached.{Calls, Descends, IsDescended, IsReached, Reaches, world_after_all}

-- one change more
after_all_snoc : (name : Namer) (world : WorldState) (changes : List Change) (change : Change)
    → world_after_all name world (changes ++ change ∷ []) ≡ world_after name (world_after_all name world changes) change
after_all_snoc name world [] change = refl
after_all_snoc name world (first ∷ changes) change = after_all_snoc name (world_after name world first) changes change

module _ {T : Type 0} (name : Namer) (stands_for : T → WorldState → Type 0) (opens : WorldState → Type 0) where
  pub begins_reached : (server : T) → ((world : WorldState) → opens world → stands_for server world) → IsReached name stands_for opens 0 server
  begins_reached server stands = ∣ record { changes = []; number_is = refl; stands = stands } ∣₁

  pub holds_reach : (number : ℕ) (before after : T) → IsReached name stands_for opens number before
      → ((world : WorldState) → stands_for before world → stands_for after world) → IsReached name stands_for opens number after
  holds_reach number before after reached keeps = ∥∥₁_map reached (λ (r : Reaches name stands_for opens number before). record {
    changes = r.changes;
    number_is = r.number_is;
    stands = λ world opened. keeps (world_after_all name world r.changes) (r.stands world opened);
  })

  pub changes_reach : (number total : ℕ) (change : Change) (before after : T) → total ≡ number + 1 → IsReached name stands_for opens number before
      → ((world : WorldState) → stands_for before world → stands_for after (world_after name world change)) → IsReached name stands_for opens total after
  changes_reach number total change before after more reached follows = ∥∥₁_map reached (λ (r : Reaches name stands_for opens number before). record {
    changes = r.changes ++ change ∷ [];
    number_is = omega (arith, length-append r.changes (change ∷ []), r.number_is, more);
    stands = λ world opened. subst (stands_for after) (sym (after_all_snoc name world r.changes change)) (follows (world_after_all name world r.changes) (r.stands world opened));
  })

module _ {T : Type 0} (stored : T → Option ℕ) (apply_gives : T → ℕ → Change → Answer → T → Type 0) (hold_gives : T → ℕ → Request → Raw → T → Type 0) where
  pub begins_descended : (server : T) → stored server ≡ Some 0 → IsDescended stored apply_gives hold_gives 0 server
  begins_descended server fresh = ∣ (server, fresh, refl) ∣₁

  descends_on : (number total : ℕ) (before after : T) → total ≡ number + 1 → IsDescended stored apply_gives hold_gives number before
      → Calls apply_gives hold_gives before after → IsDescended stored apply_gives hold_gives total after
  descends_on number total before after more descended call =
      let next : suc number ≡ total = omega (arith, more) in
      subst (λ n. IsDescended stored apply_gives hold_gives n after) next
      (∥∥₁_map descended (λ (d : (first : T) × (stored first ≡ Some 0) × Descends (Calls apply_gives hold_gives) first number before).
      (d.0, d.1, (before, d.2, call))))

  pub changes_descend : (number total caller : ℕ) (change : Change) (answer : Answer) (before after : T) → total ≡ number + 1
      → IsDescended stored apply_gives hold_gives number before → apply_gives before caller change answer after → IsDescended stored apply_gives hold_gives total after
  changes_descend number total caller change answer before after more descended gives =
      descends_on number total before after more descended (inl (caller, change, answer, gives))

  pub holds_descend : (number total caller : ℕ) (request : Request) (raw : Raw) (before after : T) → total ≡ number + 1
      → IsDescended stored apply_gives hold_gives number before → hold_gives before caller request raw after → IsDescended stored apply_gives hold_gives total after
  holds_descend number total caller request raw before after more descended gives =
      descends_on number total before after more descended (inr (caller, request, raw, gives))
