-- What is true of each format, proved once: what was encoded is read, and what is read
-- was encoded.
use Rattle.std.proofs.Common.{◌≡◌, ℕ, ◌*◌, ◌^◌, ◌≤◌, Bool, false, cond, ltb, eqb, List, [], ◌∷◌, ◌++◌, length, take, drop, Ok, Err, refl, sym, ap, subst, append_assoc, arith}
use Rattle.std.specs.Int.{Width, byte_len}
use Rattle.std.proofs.lemmas.Bool.{ltb-false, le-ltb, eqb-true}
use Rattle.std.proofs.lemmas.List.{take_at, drop_at, take-append-drop, length-append, length-take}
use Rattle.eden_ids.proofs.Texts.{bytes_are}
use Rattle.eden_wire.specs.declared.fault.DecodeFault.TheVariants.{CutShort, BadField, Version}
use Rattle.eden_wire.proofs.Numbers.{IsBytes, IsBytes-take, IsBytes-drop, bind_ok, guard_ok, held_ok, along, Takes, Takes-then, byte_takes, IsWide, number_takes, number_again}
use Rattle.eden_wire.specs.Formats.{◌>>=◌, Format, nothing, byte_at, byte, number, exactly, only, then_by, ◌▹◌, as_type, as_some, versioned}

pub record Laws (A : Type 0) (format : Format A) : Type 0 where
  -- what was encoded is read
  pub again : (x : A) (rest : List ℕ) → format.fits x → format.read (format.spell x ++ rest) ≡ Ok (x, rest)
  -- what is read was encoded
  pub exact : (bytes : List ℕ) (x : A × List ℕ) → IsBytes bytes → format.read bytes ≡ Ok x → Takes bytes (format.spell x.0) x.1 × format.fits x.0

pub byte_laws : Laws ℕ byte
byte_laws = record { again = λ x rest fits. refl; exact = byte_takes }

pub number_laws : (w : Width) → IsWide w (2 ^ (8 * byte_len w)) → Laws ℕ (number w)
number_laws w wide = record { again = λ n rest lt. number_again w _ wide n rest lt; exact = number_takes w _ wide }

pub exactly_again : (count : ℕ) (text rest : List ℕ) → length text ≡ count → (exactly count).read (text ++ rest) ≡ Ok (text, rest)
exactly_again count text rest len =
    let long : ltb (length (text ++ rest)) count ≡ false = le-ltb _ _ (omega (arith, length-append text rest)) in
    rw (long, take_at text rest count len, drop_at text rest count len) refl

pub exactly_exact : (count : ℕ) (bytes : List ℕ) (x : List ℕ × List ℕ) → IsBytes bytes → (exactly count).read bytes ≡ Ok x
    → Takes bytes x.0 x.1 × (exactly count).fits x.0
exactly_exact count bytes x fits e =
    let g = guard_ok (ltb (length bytes) count) CutShort (Ok (take count bytes, drop count bytes)) x e in
    let long : count ≤ length bytes = ltb-false _ _ g.0 in
    along (λ (y : List ℕ × List ℕ). Takes bytes y.0 y.1 × (exactly count).fits y.0) (take count bytes, drop count bytes) x g.1 (
      record { parts = sym (take-append-drop count bytes); rest_fits = IsBytes-drop count bytes fits },
      (omega (arith, length-take count bytes), bytes_are (take count bytes) (IsBytes-take count bytes fits)),
    )

pub exactly_laws : (count : ℕ) → Laws (List ℕ) (exactly count)
exactly_laws count = record { again = λ text rest fits. exactly_again count text rest fits.0; exact = exactly_exact count }

module _ {A : Type 0} (format : Format A) (laws : Laws A format) where
  only_exact : (passes : A → Bool) (bytes : List ℕ) (x : A × List ℕ) → IsBytes bytes → (only format passes).read bytes ≡ Ok x
      → Takes bytes (format.spell x.0) x.1 × (only format passes).fits x.0
  only_exact passes bytes x fits e =
      let a = bind_ok (format.read bytes) (λ y. cond (passes y.0) (Ok y) (Err BadField)) x e in
      let h = held_ok (passes a.0.0) (Ok a.0) BadField x a.2 in
      let t = laws.exact bytes a.0 fits a.1 in
      along (λ (y : A × List ℕ). Takes bytes (format.spell y.0) y.1 × (only format passes).fits y.0) a.0 x h.1 (t.0, (t.1, h.0))

  pub only_laws : (passes : A → Bool) → Laws A (only format passes)
  only_laws passes = record { again = λ x rest fits. rw (laws.again x rest fits.0, fits.1) refl; exact = only_exact passes }

  as_type_exact : {B : Type 0} (to : A → B) (from : B → A) → ((x : A) → format.fits x → from (to x) ≡ x) → (bytes : List ℕ) (y : B × List ℕ) → IsBytes bytes
      → (as_type format to from).read bytes ≡ Ok y → Takes bytes (format.spell (from y.0)) y.1 × format.fits (from y.0)
  as_type_exact {B} to from there bytes y fits e =
      let a = bind_ok (format.read bytes) (λ x. Ok (to x.0, x.1)) y e in
      let t = laws.exact bytes a.0 fits a.1 in
      let made : B × List ℕ = (to a.0.0, a.0.1) in
      along (λ (z : B × List ℕ). Takes bytes (format.spell (from z.0)) z.1 × format.fits (from z.0)) made y a.2
      (subst (λ (x : A). Takes bytes (format.spell x) a.0.1 × format.fits x) (sym (there a.0.0 t.1)) t)

  pub as_type_laws : {B : Type 0} (to : A → B) (from : B → A) → ((x : A) → format.fits x → from (to x) ≡ x) → ((y : B) → to (from y) ≡ y) → Laws B (as_type format to from)
  as_type_laws to from there back = record {
    again = λ y rest fits. rw (laws.again (from y) rest fits) (ap (λ z. Ok (z, rest)) (back y));
    exact = as_type_exact to from there;
  }

  as_some_exact : {B : Type 0} (to : A → B) (from : B → A) → ((x : A) → from (to x) ≡ x) → (bytes : List ℕ) (y : B × List ℕ) → IsBytes bytes
      → (as_some format to from).read bytes ≡ Ok y → Takes bytes (format.spell (from y.0)) y.1 × (as_some format to from).fits y.0
  as_some_exact {B} to from there bytes y fits e =
      let a = bind_ok (format.read bytes) (λ x. Ok (to x.0, x.1)) y e in
      let t = laws.exact bytes a.0 fits a.1 in
      let same = there a.0.0 in
      let made : B × List ℕ = (to a.0.0, a.0.1) in
      along (λ (z : B × List ℕ). Takes bytes (format.spell (from z.0)) z.1 × (as_some format to from).fits z.0) made y a.2
      (subst (λ (x : A). Takes bytes (format.spell x) a.0.1) (sym same) t.0, (subst (λ (x : A). format.fits x) (sym same) t.1, ap to same))

  pub as_some_laws : {B : Type 0} (to : A → B) (from : B → A) → ((x : A) → from (to x) ≡ x) → Laws B (as_some format to from)
  as_some_laws to from there = record {
    again = λ y rest fits. rw (laws.again (from y) rest fits.0) (ap (λ z. Ok (z, rest)) fits.1);
    exact = as_some_exact to from there;
  }

  versioned_exact : (bytes : List ℕ) (x : A × List ℕ) → IsBytes bytes → (versioned format).read bytes ≡ Ok x → Takes bytes (2 ∷ format.spell x.0) x.1 × format.fits x.0
  versioned_exact bytes x fits e =
      let a = bind_ok (byte_at bytes) (λ v. cond (eqb v.0 2) (format.read v.1) (Err Version)) x e in
      let h = held_ok (eqb a.0.0 2) (format.read a.0.1) Version x a.2 in
      let t = byte_takes bytes a.0 fits a.1 in
      let l = laws.exact a.0.1 x t.0.rest_fits h.1 in
      let both = Takes-then bytes (a.0.0 ∷ []) a.0.1 (format.spell x.0) x.1 t.0 l.0 in
      (subst (λ (v : ℕ). Takes bytes (v ∷ format.spell x.0) x.1) (eqb-true a.0.0 2 h.0) both, l.1)

  pub versioned_laws : Laws A (versioned format)
  versioned_laws = record { again = laws.again; exact = versioned_exact }

  then_exact : {B : Type 0} (second : A → Format B) → ((x : A) → Laws B (second x)) → (bytes : List ℕ) (z : (A × B) × List ℕ) → IsBytes bytes
      → (then_by format second).read bytes ≡ Ok z → Takes bytes ((then_by format second).spell z.0) z.1 × (then_by format second).fits z.0
  then_exact {B} second others bytes z fits e =
      let a = bind_ok (format.read bytes) (λ x. (second x.0).read x.1 >>= λ y. Ok ((x.0, y.0), y.1)) z e in
      let b = bind_ok ((second a.0.0).read a.0.1) (λ y. Ok ((a.0.0, y.0), y.1)) z a.2 in
      let s = laws.exact bytes a.0 fits a.1 in
      let t = (others a.0.0).exact a.0.1 b.0 s.0.rest_fits b.1 in
      let made : (A × B) × List ℕ = ((a.0.0, b.0.0), b.0.1) in
      along (λ (y : (A × B) × List ℕ). Takes bytes ((then_by format second).spell y.0) y.1 × (then_by format second).fits y.0) made z b.2
      (Takes-then bytes _ a.0.1 _ b.0.1 s.0 t.0, (s.1, t.1))

  pub then_laws : {B : Type 0} (second : A → Format B) → ((x : A) → Laws B (second x)) → Laws (A × B) (then_by format second)
  then_laws second others = record {
    again = λ x rest fits. rw (append_assoc (format.spell x.0) ((second x.0).spell x.1) rest, laws.again x.0 ((second x.0).spell x.1 ++ rest) fits.0, (others x.0).again x.1 rest fits.1) refl;
    exact = then_exact second others;
  }

  pub and_laws : {B : Type 0} (second : Format B) → Laws B second → Laws (A × B) (format ▹ second)
  and_laws second others = then_laws (λ x. second) (λ x. others)

pub nothing_laws : Laws Unit nothing
nothing_laws = record { again = λ x rest fits. refl; exact = λ bytes x fits e. along (λ (y : Unit × List ℕ). Takes bytes [] y.1 × Unit {0}) (tt, bytes) x e (record { parts = refl; rest_fits = fits }, tt) }
