use Rattle.std.proofs.Common.{◌≡◌, ℕ, List, [], ◌∷◌, ◌++◌, take, drop, Some, ap, ◌∙◌}
use Rattle.std.specs.List.{slice_get}
use Rattle.eden_overlay.specs.Places.{place}
use Rattle.eden_renames.specs.Renames.{Entry}
use Rattle.eden_renames.specs.internal.Shifted.{IsPutIn}
use Rattle.eden_renames.proofs.Nearest.{is_none}
use Rattle.eden_renames.proofs.below.put_in.Goals as goal

first_placed : (more es rs : List Entry) (first : Entry) (at : ℕ) → Some first ≡ slice_get more 0 → at ≡ place first.0 es → rs ≡ take at es ++ (more ++ drop at es) → IsPutIn more es rs
first_placed [] es rs first at is spot put = is_none first is
first_placed (m ∷ ms) es rs first at is spot put =
    let same : first ≡ m = cc in
    put ∙ ap (λ n. take n es ++ ((m ∷ ms) ++ drop n es)) (spot ∙ ap (λ (e : Entry). place e.0 es) same)

pub returns-clause-together : goal.returns-clause-together
returns-clause-together c =
    let first = c.in-Some.first.now in
    first_placed c.args.more.items c.args.entries.now.items c.put_at.new.entries.items first c.place_of-at.result
    (c.in-Some.ensures.value ∙ ap (λ es. slice_get es 0) c.deref.ensures.value)
    (c.place_of-at.ensures.is ∙ ap (λ k. place k c.deref-2.result.now) c.as_bytes.ensures.bytes ∙ ap (place first.0) c.deref-2.ensures.value)
    c.put_at.ensures.put
