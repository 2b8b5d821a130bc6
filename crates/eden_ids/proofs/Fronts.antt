-- A text that grows keeps its front.
use Rattle.std.proofs.Common.{◌≡◌, ℕ, ◌≤◌, List, [], ◌++◌, Result, length, take, drop, sym, ap, ◌∙◌, arith, append-nil, take-append-drop}
use Rattle.std.specs.Prelude.{OnOk, OnErr, Ok, Err}
use Rattle.std.proofs.lemmas.List.{take-append-le, take_all, length-take}
use Rattle.eden_ids.specs.Fronts.{BeginsWith, KeepsFront}

-- what begins with a front is at least as long
fits : (front text : List ℕ) → BeginsWith front text → length front ≤ length text
fits front text begins = omega (arith, length-take (length front) text, ap length begins)

pub grown : (old new more : List ℕ) → new ≡ old ++ more → KeepsFront old new
grown old new more e front begins =
    ap (take (length front)) e ∙ take-append-le (length front) old more (fits front old begins) ∙ begins

pub grown_keeps : {X E : Type 0} (result : Result X E) (old new more : List ℕ) → OnOk result (new ≡ old ++ more) → OnErr result (new ≡ old) → KeepsFront old new
grown_keeps (Ok x) old new more ok err = grown old new more ok
grown_keeps (Err e) old new more ok err = grown old new [] (err ∙ sym (append-nil old))

-- so what is left after the front is what was added
pub kept : (old new : List ℕ) → KeepsFront old new → (extra : List ℕ) × (new ≡ old ++ extra)
kept old new keeps =
    let begins = keeps old (take_all (length old) old (omega arith)) in
    (drop (length old) new, sym (ap (λ front. front ++ drop (length old) new) (sym begins) ∙ take-append-drop (length old) new))

-- what holds always holds on a refusal
pub on_err : {A E P : Type 0} (result : Result A E) → P → OnErr result P
on_err (Ok value) p = tt
on_err (Err fault) p = p
