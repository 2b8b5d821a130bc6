-- What a line of another number of words is read as: nothing.
use Rattle.std.proofs.Common.{◌≡◌, ◌≢◌, ℕ, List, [], ◌∷◌, length, Option, None, refl}
use Rattle.eden_script.specs.ScriptLines.{none, one, two, three}

pub not_none : {C : Type 0} (line : C) (words : List (List ℕ)) → length words ≢ 0 → none line words ≡ None
not_none line [] apart = absurd (apart refl)
not_none line (a ∷ words) apart = refl

pub not_one : {A C : Type 0} (first : List ℕ → Option A) (line : A → C) (words : List (List ℕ)) → length words ≢ 1 → one first line words ≡ None
not_one first line [] apart = refl
not_one first line (a ∷ []) apart = absurd (apart refl)
not_one first line (a ∷ b ∷ words) apart = refl

pub not_two : {A B C : Type 0} (first : List ℕ → Option A) (second : List ℕ → Option B) (line : A → B → C) (words : List (List ℕ))
    → length words ≢ 2 → two first second line words ≡ None
not_two first second line [] apart = refl
not_two first second line (a ∷ []) apart = refl
not_two first second line (a ∷ b ∷ []) apart = absurd (apart refl)
not_two first second line (a ∷ b ∷ c ∷ words) apart = refl

pub not_three : {A B D C : Type 0} (first : List ℕ → Option A) (second : List ℕ → Option B) (third : List ℕ → Option D) (line : A → B → D → C)
    (words : List (List ℕ)) → length words ≢ 3 → three first second third line words ≡ None
not_three first second third line [] apart = refl
not_three first second third line (a ∷ []) apart = refl
not_three first second third line (a ∷ b ∷ []) apart = refl
not_three first second third line (a ∷ b ∷ c ∷ []) apart = absurd (apart refl)
not_three first second third line (a ∷ b ∷ c ∷ d ∷ words) apart = refl
