-- A file map that is filled path by path, from the last path to the first, with what a rule says.
use Rattle.std.proofs.Common.{◌≡◌, ℕ, ◌+◌, ◌-◌, ◌<◌, ◌≤◌, cond, List, ◌∷◌, drop, length, Option, Some, None, is_some, refl, sym, ap, ◌∙◌, arith}
use Rattle.std.proofs.lemmas.List.{drop_all, drop_more}
use Rattle.std.specs.List.{list_any, slice_index_or}
use Rattle.std.specs.FinMap as fin
use Rattle.eden_ids.specs.declared.content.Content.{Content}
use Rattle.eden_ids.specs.FileMaps.{FileMap, file_at, no_files, paths, put_option, same_path, tabulate}
use Rattle.eden_ids.proofs.FileMapLemmas.{file_at-tabulate, same_file_map}

pub begins : (rule : List ℕ → Option Content) (ps : List (List ℕ)) (n : ℕ) → length ps ≤ n → no_files ≡ tabulate (drop n ps) rule
unfolding tabulate
begins rule ps n le = ap (λ qs. tabulate qs rule) (sym (drop_all n ps le))

-- one more path
pub goes_on : (rule : List ℕ → Option Content) (ps : List (List ℕ)) (place : ℕ) (p : List ℕ) (files : FileMap) (f : Option Content) → 0 < place → place ≤ length ps
    → p ≡ slice_index_or ps (place - 1) p → files ≡ tabulate (drop place ps) rule → f ≡ rule p → put_option files p f ≡ tabulate (drop (place - 1) ps) rule
unfolding tabulate
goes_on rule ps place p files f low high at is here =
    let next : place - 1 + 1 ≡ place = omega arith in
    (λ i. put_option ((is ∙ ap (λ n. tabulate (drop n ps) rule) (sym next)) i) p (here i))
    ∙ ap (λ qs. tabulate qs rule) (sym (drop_more ps (place - 1) p (omega arith) ∙ (λ i. sym at i ∷ drop (place - 1 + 1) ps)))

-- over the paths of a map, what the map has
pub tabulated_itself : (base : FileMap) → tabulate (paths base) (file_at base) ≡ base
tabulated_itself base = same_file_map (tabulate (paths base) (file_at base)) base (λ p.
    file_at-tabulate (paths base) (file_at base) p
    ∙ ap (λ b. cond b (file_at base p) None) (sym (fin.contains_key-keys base p))
    ∙ one (file_at base p))
  where
    one : (o : Option Content) → cond (is_some o) o None ≡ o
    one None = refl
    one (Some f) = refl

-- over other paths with the same members, the same
pub same_members : (rule : List ℕ → Option Content) (ps qs : List (List ℕ)) → ((p : List ℕ) → list_any (λ q. same_path p q) ps ≡ list_any (λ q. same_path p q) qs)
    → tabulate ps rule ≡ tabulate qs rule
same_members rule ps qs same = same_file_map (tabulate ps rule) (tabulate qs rule) (λ p.
    file_at-tabulate ps rule p ∙ ap (λ b. cond b (rule p) None) (same p) ∙ sym (file_at-tabulate qs rule p))
