-- A closure that answers by a test goes on answering by it.
use Rattle.std.proofs.Common.{◌≡◌, ℕ, ◌+◌, ◌<◌, Bool, true, false, cond, List, [], ◌∷◌, ◌++◌, length, take, drop, get_or, append_assoc, append-nil, sym, ap, ◌∙◌}
use Rattle.std.specs.Prelude.{filter}
use Rattle.std.proofs.lemmas.List.{take-append-drop}
use Rattle.std.proofs.lemmas.List.Elements.{filter-append, filter_more}
use Rattle.std.specs.Borrow.{Bor}
use Rattle.std.specs.Fn.{Mut, Called, ComputesKey}

pub computes_on : {F A R : Type 0} {g : Mut F (Bor A × Unit {0}) R} {f f' : F} (h : A → R) {x : Bor A} {r : R} → ComputesKey g h f → Called g f (x, tt) r f' → ComputesKey g h f' × (r ≡ h x.now)
computes_on {f' = f'} h {x} {r} k e = (record { at = λ xs. (k.at ((x, tt) ∷ xs) r f' e).1 }, (k.at ((x, tt) ∷ []) r f' e).0)

-- what is kept of some first elements and of the others
pub kept_parts : {X : Type 0} (p : X → Bool) (xs : List X) (i : ℕ) → filter p xs ≡ filter p (take i xs) ++ filter p (drop i xs)
kept_parts p xs i = ap (filter p) (sym (take-append-drop i xs)) ∙ filter-append p (take i xs) (drop i xs)

-- one more element, kept where the test gives true
pub kept_more : {X : Type 0} (p : X → Bool) (xs : List X) (i : ℕ) (x : X) (b : Bool) → i < length xs → get_or xs i x ≡ x → b ≡ p x
    → filter p (take (i + 1) xs) ≡ filter p (take i xs) ++ cond b (x ∷ []) []
kept_more p xs i x b within at is =
    filter_more p xs i x within ∙ ap (λ y. filter p (take i xs) ++ cond (p y) (y ∷ []) []) at ∙ ap (λ c. filter p (take i xs) ++ cond c (x ∷ []) []) (sym is)

-- the list that was added to, where the element is kept, and where it isn't
pub put_more : {X : Type 0} (old before ks more after : List X) (x : X) (b : Bool) → before ≡ old ++ ks → more ≡ ks ++ cond b (x ∷ []) []
    → b ≡ true → after ≡ before ++ x ∷ [] → after ≡ old ++ more
put_more old before ks more after x b at is kept put =
    put ∙ ap (λ ys. ys ++ x ∷ []) at ∙ append_assoc old ks (x ∷ []) ∙ ap (λ ys. old ++ ys) (ap (λ c. ks ++ cond c (x ∷ []) []) (sym kept) ∙ sym is)

pub put_none : {X : Type 0} (old before ks more : List X) (x : X) (b : Bool) → before ≡ old ++ ks → more ≡ ks ++ cond b (x ∷ []) []
    → b ≡ false → before ≡ old ++ more
put_none old before ks more x b at is left =
    at ∙ ap (λ ys. old ++ ys) (sym (append-nil ks) ∙ ap (λ c. ks ++ cond c (x ∷ []) []) (sym left) ∙ sym is)
