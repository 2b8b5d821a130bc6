-- Files that are put where a rule gives another file than the one that is there.
use Rattle.std.proofs.Common.{◌≡◌, ℕ, suc, zero, ◌+◌, ◌<◌, Bool, true, false, cond, ◌||◌, List, [], ◌∷◌, take, length, Option, refl, sym, ap, ◌∙◌, arith, add-one}
use Rattle.std.specs.List.{list_any, slice_index_or}
use Rattle.eden_ids.specs.declared.content.Content.{Content}
use Rattle.eden_ids.specs.FileMaps.{FileMap, file_at, has, listing, differ, put_option, same_file, same_path}
use Rattle.eden_ids.proofs.FileMapLemmas.{has-differ, has-listing, same_file-is, same_file_map, same_path-is, put_option-at}
use Rattle.eden_ids.proofs.Bools.{or_turned}
use Rattle.eden_history.specs.Checkouts.{checked_out, conflicts, is_clean, rule_of}
use Rattle.eden_history.proofs.CheckoutLaws.{file_at-checked_out, force_elsewhere, has-conflicts, normal_elsewhere}
use Rattle.eden_history.specs.declared.change.Mode.{Mode}
use Rattle.eden_history.specs.declared.change.Mode.TheVariants.{Normal, Dry, Force}
use Rattle.std.proofs.lemmas.Bool.{not-false}

-- to put what is there changes nothing
pub put_same : (m : FileMap) (p : List ℕ) (f : Option Content) → same_file (file_at m p) f ≡ true → m ≡ put_option m p f
put_same m p f e = same_file_map m (put_option m p f) (λ q. by q (same_path q p) refl ∙ sym (put_option-at m p f q))
  where
    by : (q : List ℕ) (b : Bool) → same_path q p ≡ b → file_at m q ≡ cond (same_path q p) f (file_at m q)
    by q true s = ap (file_at m) (same_path-is q p s) ∙ same_file-is (file_at m p) f e ∙ sym (ap (λ b. cond b f (file_at m q)) s)
    by q false s = sym (ap (λ b. cond b f (file_at m q)) s)

-- at these paths the map holds what the rule says, and elsewhere what it held
abbrev pub Settled : (List ℕ → Option Content) → FileMap → List (List ℕ) → FileMap → Type 0
Settled rule old ps new = (q : List ℕ) → file_at new q ≡ cond (list_any (λ p. same_path q p) ps) (rule q) (file_at old q)

pub any_suc : (test : List ℕ → Bool) (ps : List (List ℕ)) (i : ℕ) (p : List ℕ) → i < length ps → p ≡ slice_index_or ps i p → list_any test (take (suc i) ps) ≡ (test p || list_any test (take i ps))
any_suc test [] i p within is = absurd (omega arith)
any_suc test (x ∷ ps) zero p within is = ap (λ q. test q || false) (sym is)
any_suc test (x ∷ ps) (suc i) p within is = ap (λ b. test x || b) (any_suc test ps i p (omega arith) is) ∙ or_turned (test x) (test p) _

pub settled_more : (rule : List ℕ → Option Content) (old m n : FileMap) (ps : List (List ℕ)) (i : ℕ) (p : List ℕ) (f : Option Content) → i < length ps → p ≡ slice_index_or ps i p
    → n ≡ put_option m p f → f ≡ rule p → Settled rule old (take i ps) m → Settled rule old (take (i + 1) ps) n
settled_more rule old m n ps i p f within is put file so_far q =
    ap (λ k. file_at k q) put
    ∙ put_option-at m p f q
    ∙ ap (cond (same_path q p) f) (so_far q)
    ∙ by (same_path q p) refl
    ∙ ap (λ b. cond b (rule q) (file_at old q)) (sym (ap (λ k. list_any (λ r. same_path q r) (take k ps)) (add-one i) ∙ any_suc (λ r. same_path q r) ps i p within is))
  where
    by : (b : Bool) → same_path q p ≡ b
        → cond (same_path q p) f (cond (list_any (λ r. same_path q r) (take i ps)) (rule q) (file_at old q)) ≡ cond (same_path q p || list_any (λ r. same_path q r) (take i ps)) (rule q) (file_at old q)
    by true s =
        ap (λ b. cond b f (cond (list_any (λ r. same_path q r) (take i ps)) (rule q) (file_at old q))) s
        ∙ file ∙ ap rule (sym (same_path-is q p s))
        ∙ sym (ap (λ b. cond (b || list_any (λ r. same_path q r) (take i ps)) (rule q) (file_at old q)) s)
    by false s =
        ap (λ b. cond b f (cond (list_any (λ r. same_path q r) (take i ps)) (rule q) (file_at old q))) s
        ∙ sym (ap (λ b. cond (b || list_any (λ r. same_path q r) (take i ps)) (rule q) (file_at old q)) s)

-- ---- what is settled at the dirty paths and at the conflicts is what the checkout makes

-- elsewhere the rule says what the target holds
pub rule_elsewhere : (mode : Mode) (work root target : FileMap) (p : List ℕ) → (mode ≡ Dry → ⊥) → has (differ work root) p ≡ false → has (conflicts work root target) p ≡ false
    → rule_of mode work root target p ≡ file_at target p
rule_elsewhere Dry work root target p kept clean none = absurd (kept refl)
rule_elsewhere Normal work root target p kept clean none =
    normal_elsewhere work root target p (not-false (is_clean work root p) (sym (has-differ work root p) ∙ clean)) (sym (has-conflicts work root target p) ∙ none)
rule_elsewhere Force work root target p kept clean none =
    force_elsewhere work root target p (not-false (is_clean work root p) (sym (has-differ work root p) ∙ clean))

pub all_settled : (mode : Mode) (work root target start middle end : FileMap) (dirty twice : List (List ℕ)) → (mode ≡ Dry → ⊥)
    → dirty ≡ listing (differ work root) → twice ≡ listing (conflicts work root target) → start ≡ target
    → Settled (rule_of mode work root target) start dirty middle → Settled (rule_of mode work root target) middle twice end
    → end ≡ checked_out mode work root target
all_settled mode work root target start middle end dirty twice kept dirty_is twice_is start_is first second =
    same_file_map end (checked_out mode work root target) (λ q.
    second q
    ∙ ap (cond (list_any (λ p. same_path q p) twice) (rule_of mode work root target q)) (first q)
    ∙ by q (list_any (λ p. same_path q p) twice) (list_any (λ p. same_path q p) dirty) refl refl
    ∙ sym (file_at-checked_out mode work root target q))
  where
    by : (q : List ℕ) (b a : Bool) → list_any (λ p. same_path q p) twice ≡ b → list_any (λ p. same_path q p) dirty ≡ a
        → cond b (rule_of mode work root target q) (cond a (rule_of mode work root target q) (file_at start q)) ≡ rule_of mode work root target q
    by q true a x y = refl
    by q false true x y = refl
    by q false false x y =
        ap (λ m. file_at m q) start_is
        ∙ sym (rule_elsewhere mode work root target q kept
        (has-listing (differ work root) q ∙ ap (list_any (λ p. same_path q p)) (sym dirty_is) ∙ y)
        (has-listing (conflicts work root target) q ∙ ap (list_any (λ p. same_path q p)) (sym twice_is) ∙ x))
