-- What is known of pairs of roots that were compared stays known while more paths come in, and holds of each pair turned round.
use Rattle.std.proofs.Common.{◌≡◌, Bool, true, false, not, ◌&&◌, ◌||◌, List, [], ◌∷◌, ◌++◌, refl, sym, ap, ◌∙◌, subst, is_some}
use Rattle.std.proofs.lemmas.List.Folds.{list_any-append}
use Rattle.std.proofs.Math.Bool.{and_comm}
use Rattle.std.proofs.lemmas.Slice.Eq.{bytes_eq-Decides}
use Rattle.eden_ids.specs.declared.id.Id.{Id}
use Rattle.eden_ids.specs.declared.content.Content.{Content}
use Rattle.eden_ids.specs.FileMaps.{FileMap, PathSet, differ, file_at, has, same_file, union}
use Rattle.eden_ids.proofs.Bools.{or_turned}
use Rattle.eden_ids.proofs.FileMapLemmas.{has-differ, has-union, same_file-is, same_file-refl, same_path_set}
use Rattle.eden_ids.specs.Sameness.{same_id}
use Rattle.eden_objects.proofs.Lookup.{turn}
use Rattle.eden_objects.specs.Files.{files_of}
use Rattle.eden_history.specs.Worlds.{Commits}
use Rattle.eden_history.specs.Named.{commits_differ}
use Rattle.eden_ranges.specs.Expanded.{is_comparable}
use Rattle.eden_ranges.specs.internal.Wanted.{only}
use Rattle.eden_ranges.specs.internal.Pairs.{AreCovered, IsCovered, has_pair, same_pair}
use Rattle.std.specs.Prelude.{Option, Result, Ok, Err, OnOk}
use Rattle.eden_globs.specs.Filters.{Patterns}

-- ---- turned round

same_file-turned : (f g : Option Content) → same_file f g ≡ same_file g f
same_file-turned f g = by (same_file f g) (same_file g f) refl refl
  where
    one : (x y : Option Content) → same_file x y ≡ true → same_file y x ≡ true
    one x y e = ap (λ z. same_file z x) (sym (same_file-is x y e)) ∙ same_file-refl x

    by : (a b : Bool) → same_file f g ≡ a → same_file g f ≡ b → a ≡ b
    by true true p q = refl
    by false false p q = refl
    by true false p q = sym (one f g p) ∙ q
    by false true p q = sym p ∙ one g f q

differ-turned : (f g : FileMap) → differ f g ≡ differ g f
differ-turned f g = same_path_set _ _ (λ p.
    has-differ f g p ∙ ap not (same_file-turned (file_at f p) (file_at g p)) ∙ sym (has-differ g f p))

turned : (patterns : Patterns) (commits : Commits) (paths : PathSet) (left reached : Id) → IsCovered patterns commits paths left reached
    → IsCovered patterns commits paths reached left
turned patterns commits paths left reached covered = record {
  among = ap (λ set. union (only patterns set) paths) (differ-turned (files_of (commits reached)) (files_of (commits left))) ∙ covered.among;
  comparable = (λ i. turn reached.0 left.0 i || and_comm (is_some (commits reached)) (is_some (commits left)) i) ∙ covered.comparable;
}

-- ---- more paths

swapped : (a b c : PathSet) → union a (union b c) ≡ union b (union a c)
swapped a b c = same_path_set _ _ (λ p.
    has-union a (union b c) p ∙ ap (λ x. has a p || x) (has-union b c p) ∙ or_turned (has a p) (has b p) (has c p)
    ∙ sym (has-union b (union a c) p ∙ ap (λ x. has b p || x) (has-union a c p)))

again : (a b : PathSet) → union a (union a b) ≡ union a b
again a b = same_path_set _ _ (λ p.
    has-union a (union a b) p ∙ ap (λ x. has a p || x) (has-union a b p) ∙ by (has a p) (has b p) ∙ sym (has-union a b p))
  where
    by : (x y : Bool) → (x || (x || y)) ≡ (x || y)
    by true y = refl
    by false y = refl

-- ---- what is known of all pairs

-- no pair
pub covered_none : (patterns : Patterns) (commits : Commits) (pairs : List (Id × Id)) (paths : PathSet) → pairs ≡ [] → AreCovered patterns commits pairs paths
covered_none patterns commits pairs paths none left reached there =
    let bad : false ≡ true = sym (ap (λ ps. has_pair ps left reached) none) ∙ there in cc

-- a pair that was compared before, in either order
pub covered_again : (patterns : Patterns) (commits : Commits) (pairs : List (Id × Id)) (paths : PathSet) (left reached : Id) → AreCovered patterns commits pairs paths
    → (has_pair pairs left reached || has_pair pairs reached left) ≡ true → IsCovered patterns commits paths left reached
covered_again patterns commits pairs paths left reached known there = by (has_pair pairs left reached) refl there
  where
    by : (here : Bool) → has_pair pairs left reached ≡ here → (here || has_pair pairs reached left) ≡ true → IsCovered patterns commits paths left reached
    by true is e = known left reached is
    by false is e = turned patterns commits paths reached left (known reached left e)

-- one more pair, and the paths on which its roots differ
pub covered_more : (patterns : Patterns) (commits : Commits) (pairs more : List (Id × Id)) (paths after : PathSet) (left reached : Id) → AreCovered patterns commits pairs paths
    → more ≡ pairs ++ (left, reached) ∷ [] → after ≡ union (only patterns (commits_differ commits left reached)) paths → is_comparable commits left reached ≡ true
    → AreCovered patterns commits more after
covered_more patterns commits pairs more paths after left reached known grown is comparable l r there =
    subst (λ set. IsCovered patterns commits set l r) (sym is)
    (by (has_pair pairs l r) (same_id l left) (same_id r reached) refl refl refl
    (sym (list_any-append (same_pair (l, r)) pairs ((left, reached) ∷ [])) ∙ ap (λ ps. has_pair ps l r) (sym grown) ∙ there))
  where
    added : PathSet
    added = only patterns (commits_differ commits left reached)

    id_is : (x y : Id) → same_id x y ≡ true → y ≡ x
    id_is x y e = let bytes : y.0 ≡ x.0 = sym ((bytes_eq-Decides x.0 y.0).0 e) in λ i. record { 0 = bytes i }

    new : IsCovered patterns commits (union added paths) left reached
    new = record { among = again added paths; comparable = comparable }

    by : (old a b : Bool) → has_pair pairs l r ≡ old → same_id l left ≡ a → same_id r reached ≡ b → (old || ((a && b) || false)) ≡ true
        → IsCovered patterns commits (union added paths) l r
    by true a b p s t e =
        let before = known l r p in record {
          among = swapped (only patterns (commits_differ commits l r)) added paths ∙ ap (union added) before.among;
          comparable = before.comparable;
        }
    by false true true p s t e =
        subst (λ x. IsCovered patterns commits (union added paths) x r) (id_is l left s)
        (subst (λ y. IsCovered patterns commits (union added paths) left y) (id_is r reached t) new)
    by false true false p s t e = cc
    by false false b p s t e = cc

-- what follows from two facts of an outcome
pub both_hold : {X E A B C : Type 0} (result : Result X E) → OnOk result A → OnOk result B → (A → B → C) → OnOk result C
both_hold (Ok x) a b f = f a b
both_hold (Err e) a b f = tt
