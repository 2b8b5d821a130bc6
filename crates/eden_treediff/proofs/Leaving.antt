-- Entries with which both sides begin are left out: the two sides have the same files there.
use Rattle.std.proofs.Common.{◌≡◌, ℕ, ◌++◌, Bool, true, false, not, ◌&&◌, List, [], ◌∷◌, Option, Some, None, refl, sym, ap, ◌∙◌, subst}
use Rattle.std.proofs.lemmas.List.{append-nil}
use Rattle.std.specs.Cmp.{tied_itself}
use Rattle.std.specs.Cmp.Lexicographic.{nat_list_cmp_total}
use Rattle.std.specs.FinMap.Entries.{by_order}
use Rattle.eden_ids.specs.declared.content.Kind.{Kind}
use Rattle.eden_ids.specs.declared.id.Id.{Id}
use Rattle.eden_objects.specs.Closed.{IsClosed}
use Rattle.eden_objects.specs.Listings.{ArePaths}
use Rattle.eden_objects.specs.Objects.{Held}
use Rattle.eden_objects.proofs.Closed.{same_id-refl}
use Rattle.eden_git.specs.Trees.{Entry, key}
use Rattle.eden_treediff.specs.Merges.{merge_rows}
use Rattle.eden_treediff.specs.internal.Merging.{IsLeftOut, Rests}
use Rattle.eden_treediff.specs.internal.Pairs.{Next, is_changed, next_pair, same_mode}
use Rattle.eden_treediff.specs.internal.Walks.{IsSide, side_depth, side_entries, side_rows, wanted_behind}
use Rattle.eden_treediff.proofs.Legal.{legal_begins}
use Rattle.eden_treediff.proofs.Settling.{nothing_left}
use Rattle.eden_treediff.proofs.Steps.{all_merged, way_begins}
use Rattle.eden_treediff.proofs.Turns.{Stands, Turn, goes_on_same}
use Rattle.eden_ids.proofs.FileMapLemmas.{same_kind-refl}

mode_itself : (kind : Option Kind) → same_mode kind kind ≡ true
mode_itself None = refl
mode_itself (Some kind) = same_kind-refl kind

same_entry : (e : Entry) → is_changed (Some e) (Some e) ≡ false
same_entry e = λ i. not (mode_itself e.kind i && same_id-refl e.id i)

next_itself : (e : Entry) (es fs : List Entry) → Some (Some e, Some e, es, fs) ≡ next_pair (e ∷ es) (e ∷ fs)
next_itself e es fs =
    sym (ap (λ o. Some (by_order o (Some e, None, es, e ∷ fs) (Some e, Some e, es, fs) (None, Some e, e ∷ es, fs))) (tied_itself nat_list_cmp_total (key e)))

left_front : {held : List Held} {m n : ℕ} {test : List ℕ → Bool} {front : List ℕ} {target done whole : List (List ℕ)} {same : Bool} (es us vs : List Entry)
    → Stands held m n test front target done whole same (es ++ us, es ++ vs) → Stands held m n test front target done whole same (us, vs)
left_front [] us vs is = is
left_front (e ∷ es) us vs is = left_front es us vs (goes_on_same (record { rests = (e ∷ es ++ us, e ∷ es ++ vs); stands = is; is = next_itself e (es ++ us) (es ++ vs) }) (same_entry e))

left_out : {held : List Held} {m n : ℕ} {test : List ℕ → Bool} {front : List ℕ} {target done whole : List (List ℕ)} {same : Bool} (old rests : Rests) → IsLeftOut old rests
    → Stands held m n test front target done whole same old → Stands held m n test front target done whole same rests
left_out {held} {m} {n} {test} {front} {target} {done} {whole} {same} old rests out is =
    left_front out.0 rests.0 rests.1 (subst (Stands held m n test front target done whole same) (λ i. (out.1 i, out.2 i)) is)

pub turn_of : {held : List Held} {m n : ℕ} {test : List ℕ → Bool} {front : List ℕ} {target done whole : List (List ℕ)} {same : Bool} {old : Rests} {next : Next}
    → (rests : Rests) × IsLeftOut old rests × (Some next ≡ next_pair rests.0 rests.1) → Stands held m n test front target done whole same old → Turn held m n test front target done whole same next
turn_of {old = old} met is = record { rests = met.0; stands = left_out old met.0 met.1 is; is = met.2 }

-- with no further pair all was found
pub ends : {held : List Held} {m n : ℕ} {test : List ℕ → Bool} {front : List ℕ} {target done whole : List (List ℕ)} {same : Bool} {old : Rests}
    → (rests : Rests) × IsLeftOut old rests × (None ≡ next_pair rests.0 rests.1) → Stands held m n test front target done whole same old → (done ≡ target) × (same ≡ true → whole ≡ [])
ends {test = test} {front = front} {done = done} {old = old} met is =
    let stands = left_out old met.0 met.1 is in
    let none = nothing_left _ met.0.0 met.0.1 met.2 in
    (sym (stands.found ∙ ap (λ ps. done ++ wanted_behind test front ps) none ∙ append-nil done), λ yes. stands.alike yes ∙ none)

pub begins : (held : List Held) (first second : Option Id) (test : List ℕ → Bool) (front : List ℕ) (done : List (List ℕ)) → IsClosed held → IsSide held first → IsSide held second
    → ArePaths front (side_rows held first) → ArePaths front (side_rows held second) → (rests : Rests) → rests ≡ (side_entries held first, side_entries held second)
    → Stands held (side_depth held first) (side_depth held second) test front (done ++ wanted_behind test front (merge_rows (side_rows held first) (side_rows held second)))
    done (merge_rows (side_rows held first) (side_rows held second)) true rests
begins held first second test front done closed one two paths others rests is =
    let whole = all_merged held first second closed one two in
    let whole_paths : List (List ℕ) = merge_rows (side_rows held first) (side_rows held second) in
    subst (λ (r : Rests). Stands held (side_depth held first) (side_depth held second) test front (done ++ wanted_behind test front whole_paths) done whole_paths true r) (sym is) (record {
      found = ap (λ ps. done ++ wanted_behind test front ps) whole;
      alike = λ yes. whole;
      way = way_begins held first second closed one two;
      first_legal = legal_begins held front first closed one paths;
      second_legal = legal_begins held front second closed two others;
    })
