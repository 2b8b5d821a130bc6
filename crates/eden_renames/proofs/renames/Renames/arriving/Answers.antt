use Rattle.std.proofs.Common.{◌≡◌, ◌≢◌, ℕ, Bool, true, false, cond, List, [], ◌∷◌, IfOk, IfErr, refl, sym, ap, subst, ◌∙◌}
use Rattle.std.specs.Prelude.{filter}
use Rattle.std.specs.List.{AllByRecursion, list_any}
use Rattle.std.specs.FinMap as fin
use Rattle.eden_overlay.specs.declared.carried.CarryFault.TheVariants.{NoMemory}
use Rattle.eden_ids.specs.Paths.{lies_below}
use Rattle.eden_overlay.specs.Carried.{breaks}
use Rattle.eden_renames.specs.Renames.{Entry}
use Rattle.eden_renames.proofs.Shifting.{breaks_alike}
use Rattle.eden_renames.proofs.renames.Renames.arriving.Goals as goal

all_below : (top : List ℕ) (es : List Entry) → AllByRecursion (λ (e : Entry). lies_below e.0 top ≡ true) (filter (λ e. lies_below e.0 top) es)
all_below top [] = tt
all_below top (e ∷ es) = by (lies_below e.0 top) refl (all_below top es)
  where
    by : (b : Bool) → lies_below e.0 top ≡ b → AllByRecursion (λ (x : Entry). lies_below x.0 top ≡ true) (filter (λ x. lies_below x.0 top) es)
        → AllByRecursion (λ (x : Entry). lies_below x.0 top ≡ true) (cond b (e ∷ filter (λ x. lies_below x.0 top) es) (filter (λ x. lies_below x.0 top) es))
    by true below rest = (below, rest)
    by false below rest = rest

pub shifted-requires : goal.shifted-requires
shifted-requires c =
    subst (λ es. AllByRecursion (λ (e : Entry). lies_below e.0 c.args.old.now ≡ true) es) (sym c.entries_below-below.ensures) (all_below c.args.old.now (fin.entries c.args.self.now))

pub returns-clause-accepts : goal.returns-clause-accepts
returns-clause-accepts c =
    let breaking : List Entry → Bool = list_any (λ e. breaks c.args.old.now c.args.new.now e.0) in
    subst (λ b. IfOk c.shifted.result (λ _. b ≡ false))
    (ap breaking c.entries_below-below.ensures ∙ sym (breaks_alike c.args.self.now c.args.old.now c.args.new.now)) c.shifted.ensures.accepts

pub returns-clause-refuses : goal.returns-clause-refuses
returns-clause-refuses c =
    let breaking : List Entry → Bool = list_any (λ e. breaks c.args.old.now c.args.new.now e.0) in
    subst (λ b. IfErr c.shifted.result (λ fault. fault ≢ NoMemory → b ≡ true))
    (ap breaking c.entries_below-below.ensures ∙ sym (breaks_alike c.args.self.now c.args.old.now c.args.new.now)) c.shifted.ensures.refuses
