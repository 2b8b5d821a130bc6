-- Tests of the entries below a path.
use Rattle.std.proofs.Common.{◌≡◌, ℕ, Bool, true, false, cond, ◌&&◌, ◌||◌, is_some, Bor, Option, Some, None, List, [], ◌∷◌, refl, sym, ap, ◌∙◌}
use Rattle.std.specs.Prelude.{filter, IfNone, IfSome}
use Rattle.std.specs.List.{list_any}
use Rattle.eden_ids.specs.Paths.{lies_below}
use Rattle.eden_overlay.specs.Layers.{Entry}

-- a test that entries pass, or none of them
pub some_left : (test : Entry → Bool) (es rest : List Entry) (e : Entry) → filter test es ≡ e ∷ rest → list_any test es ≡ true
some_left test [] rest e is = absurd (cc)
some_left test (x ∷ es) rest e is =
    elim (test x) as (λ b. cond b (x ∷ filter test es) (filter test es) ≡ e ∷ rest → (b || list_any test es) ≡ true) [
      | true ↦ λ _. refl
      | false ↦ λ more. some_left test es rest e more
    ] is

pub none_left : (test : Entry → Bool) (es : List Entry) → filter test es ≡ [] → list_any test es ≡ false
none_left test [] is = refl
none_left test (x ∷ es) is =
    elim (test x) as (λ b. cond b (x ∷ filter test es) (filter test es) ≡ [] → (b || list_any test es) ≡ false) [
      | true ↦ λ bad. absurd (cc)
      | false ↦ λ none. none_left test es none
    ] is

pub first_below : (o : Option (Bor Entry)) (es all : List Entry) (p : List ℕ) → IfNone o (es ≡ []) → IfSome o (λ entry. (rest : List Entry) × (es ≡ entry.now ∷ rest))
    → es ≡ filter (λ e. lies_below e.0 p) all → is_some o ≡ list_any (λ e. lies_below e.0 p) all
first_below None es all p none some is = sym (none_left (λ e. lies_below e.0 p) all (sym is ∙ none))
first_below (Some entry) es all p none some is = sym (some_left (λ e. lies_below e.0 p) all some.0 entry.now (sym is ∙ some.1))

pub any_below : (p : List ℕ) (es : List Entry) → list_any (λ e. is_some e.1) (filter (λ e. lies_below e.0 p) es) ≡ list_any (λ e. is_some e.1 && lies_below e.0 p) es
any_below p [] = refl
any_below p (e ∷ es) =
    let rest = any_below p es in
    elim (lies_below e.0 p) as (λ b. list_any {X = Entry} (λ e. is_some e.1) (cond b (e ∷ filter (λ e. lies_below e.0 p) es) (filter (λ e. lies_below e.0 p) es))
    ≡ ((is_some e.1 && b) || list_any (λ e. is_some e.1 && lies_below e.0 p) es)) [
      | true ↦ ap (λ b. is_some e.1 || b) rest ∙ ap (λ b. b || list_any (λ e. is_some e.1 && lies_below e.0 p) es) (and_true (is_some e.1))
      | false ↦ rest ∙ ap (λ b. b || list_any (λ e. is_some e.1 && lies_below e.0 p) es) (and_false (is_some e.1))
    ]
  where
    and_true : (b : Bool) → b ≡ (b && true)
    and_true true = refl
    and_true false = refl

    and_false : (b : Bool) → false ≡ (b && false)
    and_false true = refl
    and_false false = refl
