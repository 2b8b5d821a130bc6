-- The laws of bytes for values, and of tags that say what follows.
use Rattle.std.proofs.Common.{◌≡◌, ℕ, ◌≤◌, ◌+◌, Bool, true, false, cond, eqb, List, [], ◌∷◌, ◌++◌, Option, Some, None, Ok, refl, subst, arith, inl, inr, ◌⊎◌}
use Rattle.std.proofs.lemmas.Bool.{eqb-true, ne_eqb}
use Rattle.eden_wire.specs.declared.fault.DecodeFault.{DecodeFault}
use Rattle.eden_wire.proofs.Numbers.{IsBytes, bind_ok, along, Takes, Takes-then, byte_takes}
use Rattle.eden_wire.specs.declared.fault.DecodeFault.TheVariants.{BadField}
use Rattle.eden_wire.specs.Formats.{◌>>=◌, Format, byte_at, one_of, find, Cases, no_case, case, each_case, tagged, OptionParts, optional, option_of, option_parts}
use Rattle.eden_wire.proofs.FormatLaws.{Laws, as_type_laws, nothing_laws}

pub chosen : {A : Type 0} (b : Bool) (x y z : A) → cond b x y ≡ z → ((b ≡ true) × (x ≡ z)) ⊎ ((b ≡ false) × (y ≡ z))
chosen true x y z e = inl (refl, e)
chosen false x y z e = inr (refl, e)

-- ---- bytes for values

found : {A : Type 0} (byte_of : A → ℕ) (values : List A) (b : ℕ) (x : A) → find byte_of values b ≡ Ok x → b ≡ byte_of x
found byte_of [] b x e = absurd cc
found byte_of (y ∷ ys) b x e =
    elim (chosen (eqb b (byte_of y)) (Ok y) (find byte_of ys b) (Ok x) e) [
      | inl h ↦ along (λ z. b ≡ byte_of z) y x h.1 (eqb-true b (byte_of y) h.0)
      | inr h ↦ found byte_of ys b x h.1
    ]

module _ {A : Type 0} (byte_of : A → ℕ) (values : List A) (each : (x : A) → find byte_of values (byte_of x) ≡ Ok x) where
  one_of_exact : (bytes : List ℕ) (x : A × List ℕ) → IsBytes bytes → (one_of byte_of values).read bytes ≡ Ok x → Takes bytes (byte_of x.0 ∷ []) x.1 × Unit {0}
  one_of_exact bytes x fits e =
      let a = bind_ok (byte_at bytes) (λ b. find byte_of values b.0 >>= λ y. Ok (y, b.1)) x e in
      let b = bind_ok (find byte_of values a.0.0) (λ y. Ok (y, a.0.1)) x a.2 in
      let t = byte_takes bytes a.0 fits a.1 in
      let made : A × List ℕ = (b.0, a.0.1) in
      along (λ (y : A × List ℕ). Takes bytes (byte_of y.0 ∷ []) y.1 × Unit {0}) made x b.2
      (subst (λ (k : ℕ). Takes bytes (k ∷ []) a.0.1) (found byte_of values a.0.0 b.0 b.1) t.0, tt)

  pub one_of_laws : Laws A (one_of byte_of values)
  one_of_laws = record { again = λ x rest fits. rw (each x) refl; exact = one_of_exact }

-- ---- tags

-- the laws of cases with no tag below a number
pub record CaseLaws (A : Type 0) (cases : Cases A) (least : ℕ) : Type 0 where
  pub tags : (x : A) → least ≤ cases.tag x
  pub again : (x : A) (rest : List ℕ) → cases.fits x → cases.read (cases.tag x) (cases.spell x ++ rest) ≡ Ok (x, rest)
  pub exact : (tag : ℕ) (bytes : List ℕ) (x : A × List ℕ) → IsBytes bytes → cases.read tag bytes ≡ Ok x
      → (tag ≡ cases.tag x.0) × Takes bytes (cases.spell x.0) x.1 × cases.fits x.0

pub no_case_laws : (fault : DecodeFault) (least : ℕ) → CaseLaws ⊥ (no_case fault) least
no_case_laws fault least = record { tags = λ x. absurd x; again = λ x rest fits. absurd x; exact = λ tag bytes x fits e. absurd cc }

module _ {A B : Type 0} (tag : ℕ) (format : Format A) (laws : Laws A format) (others : Cases B) (from : ℕ) (rest_laws : CaseLaws B others from)
    (apart : (y : B) → others.fits y → eqb (others.tag y) tag ≡ false) where
  case_tags : (least : ℕ) → least ≤ tag → least ≤ from → (x : A ⊎ B) → least ≤ (case tag format others).tag x
  case_tags least below also (inl x) = below
  case_tags least below also (inr y) = omega (arith, also, rest_laws.tags y)

  case_again : (x : A ⊎ B) (rest : List ℕ) → (case tag format others).fits x
      → (case tag format others).read ((case tag format others).tag x) ((case tag format others).spell x ++ rest) ≡ Ok (x, rest)
  case_again (inl x) rest fits =
      let same : eqb tag tag ≡ true = grind arith in
      rw (same, laws.again x rest fits) refl
  case_again (inr y) rest fits =
      rw (apart y fits, rest_laws.again y rest fits) refl

  case_exact : (t : ℕ) (bytes : List ℕ) (x : (A ⊎ B) × List ℕ) → IsBytes bytes → (case tag format others).read t bytes ≡ Ok x
      → (t ≡ (case tag format others).tag x.0) × Takes bytes ((case tag format others).spell x.0) x.1 × (case tag format others).fits x.0
  case_exact t bytes x fits e =
      elim (chosen (eqb t tag) (format.read bytes >>= λ y. Ok (inl y.0, y.1)) (others.read t bytes >>= λ y. Ok (inr y.0, y.1)) (Ok x) e) [
        | inl h ↦
            let a = bind_ok (format.read bytes) (λ y. Ok (inl y.0, y.1)) x h.1 in
            let made : (A ⊎ B) × List ℕ = (inl a.0.0, a.0.1) in
            along (λ (y : (A ⊎ B) × List ℕ). (t ≡ (case tag format others).tag y.0) × Takes bytes ((case tag format others).spell y.0) y.1 × (case tag format others).fits y.0)
            made x a.2 (let l = laws.exact bytes a.0 fits a.1 in (eqb-true t tag h.0, l.0, l.1))
        | inr h ↦
            let a = bind_ok (others.read t bytes) (λ y. Ok (inr y.0, y.1)) x h.1 in
            let made : (A ⊎ B) × List ℕ = (inr a.0.0, a.0.1) in
            along (λ (y : (A ⊎ B) × List ℕ). (t ≡ (case tag format others).tag y.0) × Takes bytes ((case tag format others).spell y.0) y.1 × (case tag format others).fits y.0)
            made x a.2 (rest_laws.exact t bytes a.0 fits a.1)
      ]

  -- a case before others that have other tags
  pub apart_laws : (least : ℕ) → least ≤ tag → least ≤ from → CaseLaws (A ⊎ B) (case tag format others) least
  apart_laws least below also = record { tags = case_tags least below also; again = case_again; exact = case_exact }

-- a case before others that have greater tags
pub case_laws : {A B : Type 0} (tag : ℕ) (format : Format A) (laws : Laws A format) (others : Cases B) (rest_laws : CaseLaws B others (tag + 1)) (least : ℕ) → least ≤ tag
    → CaseLaws (A ⊎ B) (case tag format others) least
case_laws tag format laws others rest_laws least below =
    apart_laws tag format laws others (tag + 1) rest_laws (λ y fits. ne_eqb _ _ (omega (arith, rest_laws.tags y))) least below (omega (arith, below))

module _ {A : Type 0} (tag_of : A → ℕ) (values : List A) (format : Format Unit) (laws : Laws Unit format) where
  each_exact : (tag : ℕ) (bytes : List ℕ) (x : A × List ℕ) → IsBytes bytes → (each_case tag_of values format).read tag bytes ≡ Ok x
      → (tag ≡ tag_of x.0) × Takes bytes (format.spell tt) x.1 × (each_case tag_of values format).fits x.0
  each_exact tag bytes x fits e =
      let a = bind_ok (find tag_of values tag) (λ y. format.read bytes >>= λ z. Ok (y, z.1)) x e in
      let b = bind_ok (format.read bytes) (λ z. Ok (a.0, z.1)) x a.2 in
      let l = laws.exact bytes b.0 fits b.1 in
      let is = found tag_of values tag a.0 a.1 in
      let made : A × List ℕ = (a.0, b.0.1) in
      along (λ (y : A × List ℕ). (tag ≡ tag_of y.0) × Takes bytes (format.spell tt) y.1 × (each_case tag_of values format).fits y.0) made x b.2
      (is, l.0, (subst (λ (k : ℕ). find tag_of values k ≡ Ok a.0) is a.1, l.1))

  pub each_case_laws : CaseLaws A (each_case tag_of values format) 0
  each_case_laws = record { tags = λ x. omega arith; again = λ x rest fits. rw (fits.0, laws.again tt rest fits.1) refl; exact = each_exact }

module _ {A : Type 0} (cases : Cases A) (least : ℕ) (laws : CaseLaws A cases least) where
  tagged_exact : (bytes : List ℕ) (x : A × List ℕ) → IsBytes bytes → (tagged cases).read bytes ≡ Ok x → Takes bytes (cases.tag x.0 ∷ cases.spell x.0) x.1 × cases.fits x.0
  tagged_exact bytes x fits e =
      let a = bind_ok (byte_at bytes) (λ t. cases.read t.0 t.1) x e in
      let t = byte_takes bytes a.0 fits a.1 in
      let l = laws.exact a.0.0 a.0.1 x t.0.rest_fits a.2 in
      let both = Takes-then bytes (a.0.0 ∷ []) a.0.1 (cases.spell x.0) x.1 t.0 l.1 in
      (subst (λ (k : ℕ). Takes bytes (k ∷ cases.spell x.0) x.1) l.0 both, l.2)

  pub tagged_laws : Laws A (tagged cases)
  tagged_laws = record { again = laws.again; exact = tagged_exact }

-- ---- values that may be absent

option_there : {A : Type 0} (x : OptionParts A) → option_parts (option_of x) ≡ x
option_there (inl x) = refl
option_there (inr (inl x)) = refl
option_there (inr (inr x)) = absurd x

option_back : {A : Type 0} (y : Option A) → option_of (option_parts y) ≡ y
option_back None = refl
option_back (Some x) = refl

pub optional_laws : {A : Type 0} (format : Format A) → Laws A format → Laws (Option A) (optional format)
optional_laws format laws =
    as_type_laws _ (tagged_laws _ 0 (case_laws 0 _ nothing_laws _ (case_laws 1 format laws _ (no_case_laws BadField 2) 1 (omega arith)) 0 (omega arith))) _ _
    (λ x fits. option_there x) option_back
