-- What is known of the values that have an encoding.
use Rattle.std.proofs.Common.{◌≡◌, ℕ, suc, ◌<◌, ◌≤◌, List, [], ◌∷◌, length, Bool, true, false, cond, eqb, ltb, Option, Some, None, refl, ap, ◌∙◌, arith}
use Rattle.std.specs.List.{AllByRecursion}
use Rattle.std.proofs.lemmas.Bool.{ltb-false, eqb-false}
use Rattle.eden_ids.specs.declared.path.PathFault.TheVariants as path_faults
use Rattle.eden_ids.specs.Paths.{IsPath}
use Rattle.eden_globs.specs.Filters.{filter_fault}
use Rattle.eden_globs.proofs.FilterLemmas.{filter_few, filter_short}
use Rattle.eden_history.specs.declared.mark.Marked.{Marked}
use Rattle.eden_messages.specs.declared.message.Query.{Query}
use Rattle.eden_messages.specs.Spells.{paths_of}

pub queries_equal : (p q : Query) → p.mirror ≡ q.mirror → p.life ≡ q.life → p.number ≡ q.number → p ≡ q
queries_equal p q one two three =
    let mirror : ℕ → Query = λ m. record { mirror = m; life = p.life; number = p.number } in
    let life : ℕ → Query = λ l. record { mirror = q.mirror; life = l; number = p.number } in
    let number : ℕ → Query = λ n. record { mirror = q.mirror; life = q.life; number = n } in
    ap mirror one ∙ ap life two ∙ ap number three

-- a byte at least, and `limit` at most
pub record IsText (limit : ℕ) (text : List ℕ) : Type 0 where
  pub some : 0 < length text
  pub few : length text ≤ limit

-- the patterns of a list are few and short
pub record FilterFits (patterns : List (List ℕ)) : Type 0 where
  pub few : length patterns ≤ 32
  pub texts : AllByRecursion (IsText 256) patterns

as_texts : (patterns : List (List ℕ)) → AllByRecursion (λ p. (1 ≤ length p) × (length p ≤ 256)) patterns → AllByRecursion (IsText 256) patterns
as_texts [] all = tt
as_texts (p ∷ ps) all = (record { some = omega (arith, all.0.0); few = all.0.1 }, as_texts ps all.1)

pub filter_fits : (patterns : List (List ℕ)) → filter_fault patterns ≡ None → FilterFits patterns
filter_fits patterns is = record { few = filter_few patterns is; texts = as_texts patterns (filter_short patterns is) }

no_fault : {A : Type 0} (b : Bool) (fault : A) (others : Option A) → cond b (Some fault) others ≡ None → (b ≡ false) × (others ≡ None)
no_fault true fault others e = absurd cc
no_fault false fault others e = (refl, e)

pub path_text : (path : List ℕ) → IsPath path → IsText 1024 path
path_text path is =
    let a = no_fault (eqb (length path) 0) path_faults.Empty _ is in
    let b = no_fault (ltb 1024 (length path)) path_faults.TooLong _ a.1 in
    let ne : length path ≡ 0 → ⊥ = eqb-false _ _ a.0 in
    record { some = omega arith; few = ltb-false 1024 (length path) b.0 }

pub path_few : (path : List ℕ) → IsPath path → length path ≤ 1024
path_few path is = (path_text path is).few

pub paths_len : (ms : List Marked) → length (paths_of ms) ≡ length ms
paths_len [] = refl
paths_len (m ∷ ms) = ap suc (paths_len ms)
