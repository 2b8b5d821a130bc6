-- The names of entries in one text: it determines them, since no name has a slash.
use Rattle.std.proofs.Common.{◌≡◌, ◌≢◌, ◌∙◌, sym, refl, ap, ℕ, zero, suc, Bool, true, false, ◌&&◌, List, [], ◌∷◌, ◌++◌, Result, Ok, Err, length, subst, append_assoc}
use Rattle.std.proofs.lemmas.Bool.{and_parts}
use Rattle.std.proofs.lemmas.Slice.Eq.{bytes_eq-Decides}
use Rattle.std.specs.Cmp.Lexicographic.{told_text}
use Rattle.std.specs.List.{AllByRecursion, flat_map}
use Rattle.std.specs.Prelude.{MatchBool}
use Rattle.eden_ids.specs.Sameness.{same_bytes}
use Rattle.eden_git.specs.declared.fault.EntryFault.{EntryFault}
use Rattle.eden_git.specs.Columns.{names_of, text_of}
use Rattle.eden_git.specs.Trees.{Entry, entries, entries_after, entries_of, is_name, read_entry}
use Rattle.eden_git.proofs.Reading.{name_read}
use Rattle.eden_git.proofs.Slashes.{name_has_none, same_under}

abbrev pub AreNamed : List Entry → Type 0
AreNamed es = AllByRecursion (λ e. is_name e.name ≡ true) es

named_after : (n : ℕ) (bytes : List ℕ) (r : Result (Entry × List ℕ) EntryFault) → read_entry bytes ≡ r → ((rest : List ℕ) → AreNamed (entries n rest)) → AreNamed (entries_after (entries n) r)
named_after n bytes (Err fault) is more = tt
named_after n bytes (Ok read) is more = (name_read bytes read is, more read.1)

all_named : (n : ℕ) (bytes : List ℕ) → AreNamed (entries n bytes)
all_named zero bytes = tt
all_named (suc n) bytes = named_after n bytes (read_entry bytes) refl (all_named n)

no_text : (name more : List ℕ) → [] ≡ (name ++ 47 ∷ []) ++ more → ⊥
no_text [] more is = cc
no_text (x ∷ name) more is = cc

-- the first name ends where the first slash stands
names_told : (es fs : List Entry) → AreNamed es → AreNamed fs → text_of es ≡ text_of fs → names_of es ≡ names_of fs
names_told [] [] left right same = refl
names_told [] (f ∷ fs) left right same = absurd (no_text f.name (text_of fs) same)
names_told (e ∷ es) [] left right same = absurd (no_text e.name (text_of es) (sym same))
names_told (e ∷ es) (f ∷ fs) left right same =
    let whole : e.name ++ 47 ∷ text_of es ≡ f.name ++ 47 ∷ text_of fs =
    sym (append_assoc e.name (47 ∷ []) (text_of es)) ∙ same ∙ append_assoc f.name (47 ∷ []) (text_of fs) in
    let told : (same_bytes e.name f.name && same_bytes (text_of es) (text_of fs)) ≡ true =
    sym (same_under e.name f.name (text_of es) (text_of fs) (name_has_none e.name left.0) (name_has_none f.name right.0))
    ∙ (bytes_eq-Decides (e.name ++ 47 ∷ text_of es) (f.name ++ 47 ∷ text_of fs)).1 whole in
    let parts = and_parts _ _ told in
    let name : e.name ≡ f.name = (bytes_eq-Decides e.name f.name).0 parts.0 in
    let more : names_of es ≡ names_of fs = names_told es fs left.1 right.1 ((bytes_eq-Decides (text_of es) (text_of fs)).0 parts.1) in
    λ i. name i ∷ more i

by_names : (es : List Entry) → text_of es ≡ flat_map (λ name. name ++ 47 ∷ []) (names_of es)
by_names [] = refl
by_names (e ∷ es) = ap (λ bytes. (e.name ++ 47 ∷ []) ++ bytes) (by_names es)

text_told : (es fs : List Entry) → names_of es ≡ names_of fs → text_of es ≡ text_of fs
text_told es fs same = by_names es ∙ ap (λ names. flat_map (λ name. name ++ 47 ∷ []) names) same ∙ sym (by_names fs)

pub has_names : (r : Bool) (payload other a b : List ℕ) (es fs : List Entry) → r ≡ same_bytes a b → a ≡ text_of (entries_of payload) → b ≡ text_of (entries_of other)
    → entries_of payload ≡ es → entries_of other ≡ fs → MatchBool r (names_of es ≡ names_of fs) (names_of es ≢ names_of fs)
has_names r payload other a b es fs is first second left right = by r (told_text a b r is) where
  by : (r : Bool) → MatchBool r (a ≡ b) (a ≢ b) → MatchBool r (names_of es ≡ names_of fs) (names_of es ≢ names_of fs)
  by true same =
      names_told es fs (subst AreNamed left (all_named (length payload) payload)) (subst AreNamed right (all_named (length other) other))
      (ap text_of (sym left) ∙ sym first ∙ same ∙ second ∙ ap text_of right)
  by false other = λ same. other (first ∙ ap text_of left ∙ text_told es fs same ∙ ap text_of (sym right) ∙ sym second)
