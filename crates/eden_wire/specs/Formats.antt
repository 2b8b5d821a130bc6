-- Formats: how a value is encoded, which values have an encoding, and what reading from
-- the left gives, which is a value and the bytes after it, or the first fault. Each format
-- is made of smaller ones by the definitions below.
use Rattle.std.specs.Prelude.{◌≡◌, ℕ, zero, suc, ◌*◌, ◌^◌, ◌<◌, Bool, true, List, [], ◌∷◌, ◌++◌, length, take, drop, Option, Some, None, Result, Ok, Err, nat_lt, ◌==◌, if◌then◌else◌, ◌⊎◌}
use Rattle.std.specs.Int.{Width, byte_len, from_be_bytes, to_be_bytes}
use Rattle.std.specs.List.{flat_map, AllByRecursion}
use mathlib.Core.Logic.{inl, inr}
use Rattle.eden_ids.specs.Texts.{AreBytes}
use Rattle.eden_wire.specs.declared.fault.DecodeFault.{DecodeFault}
use Rattle.eden_wire.specs.declared.fault.DecodeFault.TheVariants.{CutShort, BadField, Version}

infixl 10 ◌>>=◌
abbrev pub ◌>>=◌ : {A B : Type 0} → Result A DecodeFault → (A → Result B DecodeFault) → Result B DecodeFault
(Ok x) >>= f = f x
(Err fault) >>= f = Err fault

pub record Format (A : Type 0) : Type 1 where
  pub spell : A → List ℕ
  pub fits : A → Type 0
  pub read : List ℕ → Result (A × List ℕ) DecodeFault

-- no bytes
abbrev pub nothing : Format Unit
nothing = record { spell = λ x. []; fits = λ x. Unit {0}; read = λ bytes. Ok (tt, bytes) }

abbrev pub byte_at : List ℕ → Result (ℕ × List ℕ) DecodeFault
byte_at [] = Err CutShort
byte_at (byte ∷ rest) = Ok (byte, rest)

-- a byte
abbrev pub byte : Format ℕ
byte = record { spell = λ n. n ∷ []; fits = λ n. n < 256; read = λ bytes. byte_at bytes }

abbrev pub number_at : Width → List ℕ → Result (ℕ × List ℕ) DecodeFault
number_at w bytes = if nat_lt (length bytes) (byte_len w) then Err CutShort else Ok (from_be_bytes w (take (byte_len w) bytes), drop (byte_len w) bytes)

-- a number, its highest byte first
abbrev pub number : Width → Format ℕ
number w = record { spell = λ n. to_be_bytes w n; fits = λ n. n < 2 ^ (8 * byte_len w); read = λ bytes. number_at w bytes }

-- this number of bytes
abbrev pub exactly : ℕ → Format (List ℕ)
exactly count = record {
  spell = λ text. text;
  fits = λ text. (length text ≡ count) × AreBytes text;
  read = λ bytes. if nat_lt (length bytes) count then Err CutShort else Ok (take count bytes, drop count bytes);
}

-- a value that passes a test; any other is a fault as soon as it is read
abbrev pub only : {A : Type 0} → Format A → (A → Bool) → Format A
only format passes = record {
  spell = λ x. format.spell x;
  fits = λ x. format.fits x × (passes x ≡ true);
  read = λ bytes. format.read bytes >>= λ x. if passes x.0 then Ok x else Err BadField;
}

-- a value, and then another one, whose format the first may decide
abbrev pub then_by : {A B : Type 0} → Format A → (A → Format B) → Format (A × B)
then_by first second = record {
  spell = λ x. first.spell x.0 ++ (second x.0).spell x.1;
  fits = λ x. first.fits x.0 × (second x.0).fits x.1;
  read = λ bytes. first.read bytes >>= λ x. (second x.0).read x.1 >>= λ y. Ok ((x.0, y.0), y.1);
}

infixr 20 ◌▹◌
abbrev pub ◌▹◌ : {A B : Type 0} → Format A → Format B → Format (A × B)
first ▹ second = then_by first (λ x. second)

-- the same bytes, for values of another type
abbrev pub as_type : {A B : Type 0} → Format A → (A → B) → (B → A) → Format B
as_type format to from = record {
  spell = λ y. format.spell (from y);
  fits = λ y. format.fits (from y);
  read = λ bytes. format.read bytes >>= λ x. Ok (to x.0, x.1);
}

-- the same bytes, for those values of another type that `to` makes
abbrev pub as_some : {A B : Type 0} → Format A → (A → B) → (B → A) → Format B
as_some format to from = record {
  spell = λ y. format.spell (from y);
  fits = λ y. format.fits (from y) × (to (from y) ≡ y);
  read = λ bytes. format.read bytes >>= λ x. Ok (to x.0, x.1);
}

-- a count, and that many bytes
abbrev pub counted : Format ℕ → Format (List ℕ)
counted count = record {
  spell = λ text. count.spell (length text) ++ text;
  fits = λ text. count.fits (length text) × AreBytes text;
  read = λ bytes. count.read bytes >>= λ n. (exactly n.0).read n.1;
}

-- each value may come after the one before it, and the first after the last one
abbrev pub Follow : {A : Type 0} → (Option A → A → Bool) → Option A → List A → Type 0
Follow may last [] = Unit {0}
Follow may last (x ∷ xs) = (may last x ≡ true) × Follow may (Some x) xs

unfoldable pub items_at : {A : Type 0} → Format A → (Option A → A → Bool) → ℕ → Option A → List ℕ → Result (List A × List ℕ) DecodeFault
items_at item may zero last bytes = Ok ([], bytes)
items_at item may (suc count) last bytes =
    (only item (λ x. may last x)).read bytes >>= λ first. items_at item may count (Some first.0) first.1 >>= λ others. Ok (first.0 ∷ others.0, others.1)

-- a count, and that many values, each of which may come after the one before it
abbrev pub list : {A : Type 0} → Format ℕ → Format A → (Option A → A → Bool) → Format (List A)
list count item may = record {
  spell = λ xs. count.spell (length xs) ++ flat_map item.spell xs;
  fits = λ xs. count.fits (length xs) × AllByRecursion item.fits xs × Follow may None xs;
  read = λ bytes. count.read bytes >>= λ n. items_at item may n.0 None n.1;
}

-- the value of this byte
abbrev pub find : {A : Type 0} → (A → ℕ) → List A → ℕ → Result A DecodeFault
find byte_of [] b = Err BadField
find byte_of (x ∷ xs) b = if b == byte_of x then Ok x else find byte_of xs b

-- a byte for each of a few values
abbrev pub one_of : {A : Type 0} → (A → ℕ) → List A → Format A
one_of byte_of values = record {
  spell = λ x. byte_of x ∷ [];
  fits = λ x. Unit {0};
  read = λ bytes. byte_at bytes >>= λ b. find byte_of values b.0 >>= λ x. Ok (x, b.1);
}

-- the version 2, and a value
abbrev pub versioned : {A : Type 0} → Format A → Format A
versioned format = record {
  spell = λ x. 2 ∷ format.spell x;
  fits = λ x. format.fits x;
  read = λ bytes. byte_at bytes >>= λ version. if version.0 == 2 then format.read version.1 else Err Version;
}

-- ---- tags

-- what may come after a tag: the tag of each value, and how the rest is encoded
pub record Cases (A : Type 0) : Type 1 where
  pub tag : A → ℕ
  pub spell : A → List ℕ
  pub fits : A → Type 0
  pub read : ℕ → List ℕ → Result (A × List ℕ) DecodeFault

abbrev pub no_case : DecodeFault → Cases ⊥
no_case fault = record { tag = λ x. absurd x; spell = λ x. absurd x; fits = λ x. ⊥; read = λ tag bytes. Err fault }

abbrev pub case_tag : {A B : Type 0} → ℕ → (B → ℕ) → A ⊎ B → ℕ
case_tag tag others (inl x) = tag
case_tag tag others (inr y) = others y

abbrev pub case_spell : {A B : Type 0} → (A → List ℕ) → (B → List ℕ) → A ⊎ B → List ℕ
case_spell one others (inl x) = one x
case_spell one others (inr y) = others y

abbrev pub case_fits : {A B : Type 0} → (A → Type 0) → (B → Type 0) → A ⊎ B → Type 0
case_fits one others (inl x) = one x
case_fits one others (inr y) = others y

-- this format after this tag, or another case
abbrev pub case : {A B : Type 0} → ℕ → Format A → Cases B → Cases (A ⊎ B)
case tag format others = record {
  tag = λ x. case_tag tag others.tag x;
  spell = λ x. case_spell format.spell others.spell x;
  fits = λ x. case_fits format.fits others.fits x;
  read = λ t bytes. if t == tag then (format.read bytes >>= λ x. Ok (inl x.0, x.1)) else (others.read t bytes >>= λ y. Ok (inr y.0, y.1));
}

-- a tag for each of these values, and the same bytes after each
abbrev pub each_case : {A : Type 0} → (A → ℕ) → List A → Format Unit → Cases A
each_case tag_of values format = record {
  tag = λ x. tag_of x;
  spell = λ x. format.spell tt;
  fits = λ x. (find tag_of values (tag_of x) ≡ Ok x) × format.fits tt;
  read = λ tag bytes. find tag_of values tag >>= λ x. format.read bytes >>= λ y. Ok (x, y.1);
}

-- a tag, and what may come after it
abbrev pub tagged : {A : Type 0} → Cases A → Format A
tagged cases = record {
  spell = λ x. cases.tag x ∷ cases.spell x;
  fits = λ x. cases.fits x;
  read = λ bytes. byte_at bytes >>= λ t. cases.read t.0 t.1;
}

-- ---- values that may be absent

abbrev pub OptionParts : Type 0 → Type 0
OptionParts A = Unit ⊎ (A ⊎ ⊥)

abbrev pub option_of : {A : Type 0} → OptionParts A → Option A
option_of (inl x) = None
option_of (inr (inl x)) = Some x
option_of (inr (inr x)) = absurd x

abbrev pub option_parts : {A : Type 0} → Option A → OptionParts A
option_parts None = inl tt
option_parts (Some x) = inr (inl x)

-- a byte 0 if there is no value, or a byte 1 and the value
abbrev pub optional : {A : Type 0} → Format A → Format (Option A)
optional format = as_type (tagged (case 0 nothing (case 1 format (no_case BadField)))) option_of option_parts
