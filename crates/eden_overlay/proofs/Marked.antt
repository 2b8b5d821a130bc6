-- The first of some marks, and those after it.
use Rattle.std.proofs.Common.{◌≡◌, List, [], ◌∷◌, ◌++◌, drop, Some, None, is_some, sym, ap, ◌∙◌}
use Rattle.std.specs.List.{slice_get}
use Rattle.eden_overlay.specs.Layers.{Entry, Mark, marks}

pub first_listed : (ms left : List Mark) (m : Mark) → ms ≡ m ∷ left → Some m ≡ slice_get ms 0
first_listed ms left m is = sym (ap (λ ms. slice_get ms 0) is)

pub none_listed : (ms : List Mark) → ms ≡ [] → None ≡ slice_get ms 0
none_listed ms is = sym (ap (λ ms. slice_get ms 0) is)

pub behind_listed : (ms left : List Mark) (m : Mark) → ms ≡ m ∷ left → left ≡ drop 1 ms
behind_listed ms left m is = sym (ap (drop 1) is)

pub behind_nothing : (ms : List Mark) → ms ≡ [] → ms ≡ drop 1 ms
behind_nothing ms is = is ∙ sym (ap (drop 1) is)

-- ---- of entries

pub first_marked : (block left later : List Entry) (e : Entry) → block ≡ e ∷ left → Some (e.0, is_some e.1) ≡ slice_get (marks (block ++ later)) 0
first_marked block left later e is = sym (ap (λ es. slice_get (marks (es ++ later)) 0) is)

nothing : (block later : List Entry) → block ≡ [] → (block ≡ [] → later ≡ []) → block ++ later ≡ []
nothing block later is ends = ap (λ es. es ++ later) is ∙ ends is

pub none_marked : (block later : List Entry) → block ≡ [] → (block ≡ [] → later ≡ []) → None ≡ slice_get (marks (block ++ later)) 0
none_marked block later is ends = sym (ap (λ es. slice_get (marks es) 0) (nothing block later is ends))

pub behind_marked : (block left later : List Entry) (e : Entry) → block ≡ e ∷ left → marks (left ++ later) ≡ drop 1 (marks (block ++ later))
behind_marked block left later e is = sym (ap (λ es. drop 1 (marks (es ++ later))) is)

pub behind_none : (block later : List Entry) → block ≡ [] → (block ≡ [] → later ≡ []) → marks (block ++ later) ≡ drop 1 (marks (block ++ later))
behind_none block later is ends = behind_nothing (marks (block ++ later)) (ap marks (nothing block later is ends))
