-- Where the first line of some bytes ends, by the places in a longer list that they are the end of.
use Rattle.std.proofs.Common.{◌≡◌, ◌≢◌, ℕ, ◌+◌, ◌-◌, ◌<◌, ◌≤◌, inl, inr, List, ◌∷◌, ◌++◌, length, get_or, take, drop, sym, ap, ◌∙◌, subst, suc, arith, add-one, length-drop, take-append-drop}
use Rattle.std.proofs.Math.Seq.{drop-cons}
use Rattle.std.proofs.lemmas.Bool.{cases_lt}
use Rattle.std.proofs.lemmas.List.{get_or-drop, get_or-take, length-take, take_all}
use Rattle.std.proofs.lemmas.Grind.{get_or_default_zero}
use Rattle.eden_stream.specs.Lines.{HasNoBreak}
use Rattle.eden_stream.specs.internal.LineSteps.{BreaksAt}

-- the byte at place k of the first `more` bytes from `start` on
read_at : (items : List ℕ) (start more k d : ℕ) → k < length (take more (drop start items)) → get_or (take more (drop start items)) k d ≡ get_or items (start + k) 0
read_at items start more k d h =
    let part = drop start items in
    let under : k < more = omega (arith, length-take more part) in
    let within : start + k < length items = omega (arith, length-take more part, length-drop start items) in
    get_or-take more part k d under ∙ get_or-drop start items k d ∙ get_or_default_zero items (start + k) d within

-- the places from start on, as a list
pub clear_view : (items : List ℕ) (start more : ℕ) → ((k : ℕ) → start ≤ k → k < start + more → get_or items k 0 ≢ 10)
    → HasNoBreak (take more (drop start items))
clear_view items start more clear k d h e =
    let under : k < more = omega (arith, length-take more (drop start items)) in
    clear (start + k) (omega arith) (omega arith) (sym (read_at items start more k d h) ∙ e)

-- what was searched before and what was searched now
pub clear_on : (items : List ℕ) (start searched more : ℕ) → searched + more ≤ length items
    → ((k : ℕ) → start ≤ k → k < searched → get_or items k 0 ≢ 10)
    → HasNoBreak (take more (drop searched items))
    → (k : ℕ) → start ≤ k → k < searched + more → get_or items k 0 ≢ 10
clear_on items start searched more fits before now k low high e =
    elim (cases_lt k searched) [
      | inl l ↦ before k low l e
      | inr l ↦
          let at : searched + (k - searched) ≡ k = omega arith in
          let h : k - searched < length (take more (drop searched items)) = omega (arith, length-take more (drop searched items), length-drop searched items) in
          now (k - searched) 0 h (read_at items searched more (k - searched) 0 h ∙ ap (λ n. get_or items n 0) at ∙ e)
    ]

-- no break from start on, since there is none before `searched` and none after
pub clear_to_end : (items : List ℕ) (start searched : ℕ) → searched ≤ length items
    → ((k : ℕ) → start ≤ k → k < searched → get_or items k 0 ≢ 10)
    → HasNoBreak (drop searched items)
    → (k : ℕ) → start ≤ k → k < length items → get_or items k 0 ≢ 10
clear_to_end items start searched fits before now k low high =
    let more = length items - searched in
    let all : take more (drop searched items) ≡ drop searched items = take_all more (drop searched items) (omega (arith, length-drop searched items)) in
    clear_on items start searched more (omega arith) before (subst HasNoBreak (sym all) now) k low (omega arith)

pub unended_from : (items : List ℕ) (start searched : ℕ) → start ≤ searched → searched ≤ length items
    → ((k : ℕ) → start ≤ k → k < searched → get_or items k 0 ≢ 10)
    → HasNoBreak (drop searched items) → HasNoBreak (drop start items)
unended_from items start searched low fits before now =
    let more = length items - start in
    let all : take more (drop start items) ≡ drop start items = take_all more (drop start items) (omega (arith, length-drop start items)) in
    let clear = clear_to_end items start searched fits before now in
    subst HasNoBreak all (clear_view items start more (λ k l h. clear k l (omega arith)))

-- the first break after what was searched is the first from start on
pub breaks_from : (items : List ℕ) (start searched place : ℕ) → start ≤ searched → searched ≤ length items
    → ((k : ℕ) → start ≤ k → k < searched → get_or items k 0 ≢ 10)
    → BreaksAt (drop searched items) place → BreaksAt (drop start items) (searched + place - start)
breaks_from items start searched place low fits before here =
    let at : start + (searched + place - start) ≡ searched + place = omega arith in
    let inside : searched + place < length items = omega (arith, here.within, length-drop searched items) in
    let clear = clear_on items start searched place (omega arith) before here.before in
    record {
      within = omega (arith, inside, length-drop start items);
      found = get_or-drop start items (searched + place - start) 0 ∙ ap (λ n. get_or items n 0) at ∙ sym (get_or-drop searched items place 0) ∙ here.found;
      before = clear_view items start (searched + place - start) (λ k l h. clear k l (omega arith));
    }

-- the rest of a vector from `at` on, as a slice of it is written
pub rest_is : (items shown : List ℕ) (at : ℕ) → shown ≡ items → take (length shown - at) (drop at shown) ≡ drop at items
rest_is items shown at e = take_all (length shown - at) (drop at shown) (omega (arith, length-drop at shown)) ∙ ap (drop at) e

-- the first line, its end, and what follows it
pub breaks_cut : (held : List ℕ) (n : ℕ) → BreaksAt held n → held ≡ take n held ++ 10 ∷ drop (n + 1) held
breaks_cut held n here =
    let within : n < length held = here.within in
    sym (take-append-drop n held) ∙ ap (λ rest. take n held ++ rest)
    (drop-cons held n 0 within ∙ ap (λ byte. byte ∷ drop (suc n) held) here.found ∙ ap (λ m. 10 ∷ drop m held) (sym (add-one n)))

-- the first of the places from start on is no break, as none of them is
pub first_clear : (items held : List ℕ) (start : ℕ) → drop start items ≡ held → 0 < length held → HasNoBreak held
    → (k : ℕ) → start ≤ k → k < start + 1 → get_or (take (start + 1) items) k 0 ≢ 10
first_clear items held start view some clear k low high e =
    let here : k ≡ start + 0 = omega arith in
    clear 0 0 some (ap (λ bytes. get_or bytes 0 0) (sym view) ∙ get_or-drop start items 0 0 ∙ ap (λ n. get_or items n 0) (sym here)
    ∙ sym (get_or-take (start + 1) items k 0 high) ∙ e)
