-- The script of a session is one: it skips what says nothing, and refuses what is too long.
use Rattle.std.proofs.Common.{◌≡◌, ℕ, ◌<◌, inl, inr, ◌==◌, nat_lt, Bool, true, false, if◌then◌else◌, List, [], ◌∷◌, length, Option, Some, None, refl, sym, ◌∙◌, arith}
use Rattle.std.specs.Prelude.{option_and_then, option_map}
use Rattle.std.proofs.lemmas.Bool.{le-ltb, lt-ltb, eq-eqb, eqb-true}
use Rattle.eden_script.specs.Words.{words_of}
use Rattle.eden_stream.specs.Lines.{IsComment, IsSkipped, IsSpoken}
use Rattle.eden_stream.specs.Scripts.{IsScript}
use Rattle.eden_script.specs.ScriptLines.{command_of}
use Rattle.eden_script.specs.Sessions.{Session}
use Rattle.eden_script.specs.ScriptText.{told, is_skipped, before_text, continued, script_text}
use Rattle.eden_accumulate.specs.Mounts.{State}
use Rattle.eden_edend.specs.declared.objects.Objects.{Objects}
use Rattle.eden_edend.specs.internal.Standing.{SessionStands}

-- what a line and the others print, by whether the line is skipped, and whether it is too long
abbrev from : Session → List ℕ → List (List ℕ) → Bool → Bool → Option (List ℕ)
from session line more skipped long =
    continued (if skipped then Some (session, []) else if long then None else option_map (told session) (option_and_then command_of (words_of line)))
    (λ next. script_text next more)

script_text-cons : (session : Session) (line : List ℕ) (more : List (List ℕ)) (skipped long : Bool) → is_skipped line ≡ skipped → nat_lt 65536 (length line) ≡ long
    → script_text session (line ∷ more) ≡ from session line more skipped long
unfolding script_text
script_text-cons session line more skipped long e bounded = λ i. from session line more (e i) (bounded i)

script_text-nil : (session : Session) → script_text session [] ≡ Some []
unfolding script_text
script_text-nil session = refl

pub skips : (line : List ℕ) → IsSkipped line → is_skipped line ≡ true
skips [] h = refl
skips (b ∷ line) (inl e) = cc
skips (b ∷ line) (inr e) = eq-eqb b 35 e

nothing_before : (text : Option (List ℕ)) → before_text [] text ≡ text
nothing_before None = refl
nothing_before (Some text) = refl

pub speaks : (line : List ℕ) → 0 < length line → ¬ IsComment line → is_skipped line ≡ false
speaks [] some apart = absurd (omega arith)
speaks (b ∷ line) some apart = elim (b == 35) as (λ t. (b == 35) ≡ t → t ≡ false) [ true ↦ λ e. absurd (apart (eqb-true b 35 e)) | false ↦ λ e. refl ] refl

-- what a line that says something makes of the session
pub spoken-text : (session : Session) (line : List ℕ) (more : List (List ℕ)) → IsSpoken line
    → script_text session (line ∷ more) ≡ continued (option_map (told session) (option_and_then command_of (words_of line))) (λ next. script_text next more)
spoken-text session line more spoken = script_text-cons session line more false false (speaks line spoken.0 spoken.1) (le-ltb 65536 (length line) spoken.2)

pub session_script : (mount : Option State) (objects : Objects) (script : List (List ℕ) → Option (List ℕ)) → SessionStands mount objects script → IsScript script
session_script mount objects script stands = record {
  ends = stands.2 [] ∙ script_text-nil at;
  skips = λ line more h.
      stands.2 (line ∷ more) ∙ script_text-cons at line more true (nat_lt 65536 (length line)) (skips line h) refl
      ∙ nothing_before (script_text at more) ∙ sym (stands.2 more);
  bounded = λ line more h.
      stands.2 (line ∷ more) ∙ script_text-cons at line more false true (speaks line (omega (arith, h.0)) h.1) (lt-ltb 65536 (length line) h.0);
}
  where
    at : Session
    at = stands.0
