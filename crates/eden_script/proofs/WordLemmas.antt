-- How the words of a line are read one by one, and read back from a line that was written.
use Rattle.std.proofs.Common.{◌≡◌, ◌≢◌, ℕ, zero, suc, List, [], ◌∷◌, ◌++◌, false, length, get_or, map, ◌<◌, refl, sym, ◌∙◌, ap, arith}
use Rattle.std.specs.Prelude.{Option, Some, None, ◌==◌}
use Rattle.std.specs.Option.{option_map}
use Rattle.std.specs.List.{list_any, slice_split, onto_first}
use Rattle.std.specs.Iterator.{Yields}
use Rattle.std.proofs.lemmas.Bool.{or_parts, or_from}
use Rattle.std.proofs.lemmas.Iterator.{YieldsList}
use Rattle.std.proofs.lemmas.Iterator.Consumers.{YieldsList-end, YieldsList-turn}
use Rattle.std.proofs.lemmas.List.{map-append}
use Rattle.std.proofs.lemmas.List.Folds.{list_any-append}
use Rattle.std.proofs.lemmas.List.Splits.{slice_split-cons_yes, slice_split-cons_no}
use Rattle.eden_script.proofs.EscapeLemmas.{unescaped-escaped, escaped-no_space, escaped-no_line_feed, escaped-nonempty}
use Rattle.eden_script.specs.Escapes.{unescaped, escaped}
use Rattle.eden_script.specs.Words.{word_of, all_of, words_of, line_of}

-- one more word that is there
pub all_of-more : (os : List (Option (List ℕ))) (values : List (List ℕ)) (value : List ℕ) → all_of os ≡ Some values → all_of (os ++ Some value ∷ []) ≡ Some (values ++ value ∷ [])
all_of-more [] values value is = let none : [] ≡ values = cc in rw (← none)
all_of-more (None ∷ os) values value is = cc
all_of-more (Some x ∷ os) values value is = more x (all_of os) (all_of (os ++ Some value ∷ [])) values value is (λ xs e. all_of-more os xs value e)
  where
    more : (x : List ℕ) (before after : Option (List (List ℕ))) (values : List (List ℕ)) (value : List ℕ) → option_map (λ xs. x ∷ xs) before ≡ Some values
        → ((xs : List (List ℕ)) → before ≡ Some xs → after ≡ Some (xs ++ value ∷ [])) → option_map (λ xs. x ∷ xs) after ≡ Some (values ++ value ∷ [])
    more x None after values value f step = cc
    more x (Some xs) after values value f step = let g : x ∷ xs ≡ values = cc in rw (step xs refl, ← g)

-- the same, where the parts are what is seen of the items so far
pub words_so_far : {A : Type 0} (seen : A → List ℕ) (items : List A) (item : A) (values after : List (List ℕ)) (value : List ℕ)
    → all_of (map word_of (map seen items)) ≡ Some values → Some value ≡ word_of (seen item) → after ≡ values ++ value ∷ []
    → all_of (map word_of (map seen (items ++ item ∷ []))) ≡ Some after
words_so_far seen items item values after value so_far known grown =
    ap (λ parts. all_of (map word_of parts)) (map-append seen items (item ∷ []))
    ∙ ap all_of (map-append word_of (map seen items) (seen item ∷ []))
    ∙ ap (λ word. all_of (map word_of (map seen items) ++ word ∷ [])) (sym known)
    ∙ all_of-more (map word_of (map seen items)) values value so_far
    ∙ ap Some (sym grown)

all_of-rest : (o : Option (List ℕ)) (os : List (Option (List ℕ))) → all_of os ≡ None → all_of (o ∷ os) ≡ None
all_of-rest None os none = refl
all_of-rest (Some x) os none = rw none

-- one part that is no word
pub all_of-missing : (parts : List (List ℕ)) (i : ℕ) (part : List ℕ) → i < length parts → part ≡ get_or parts i part → word_of part ≡ None → all_of (map word_of parts) ≡ None
all_of-missing [] i part below here none = absurd (omega arith)
all_of-missing (p ∷ ps) zero part below here none = rw (← here, none)
all_of-missing (p ∷ ps) (suc i) part below here none = all_of-rest (word_of p) (map word_of ps) (all_of-missing ps i part (omega arith) here none)

pub words_of-all : (line : List ℕ) (parts : List (List ℕ)) (words : List (List ℕ)) → parts ≡ slice_split (λ b. b == 32) line → all_of (map word_of parts) ≡ Some words → Some words ≡ words_of line
unfolding words_of
words_of-all line parts words is all = sym (ap (λ ps. all_of (map word_of ps)) (sym is) ∙ all)

pub words_of-missing : (line : List ℕ) (i : ℕ) (part : List ℕ) → i < length (slice_split (λ b. b == 32) line) → part ≡ get_or (slice_split (λ b. b == 32) line) i part → None ≡ word_of part → None ≡ words_of line
unfolding words_of
words_of-missing line i part below here none = sym (all_of-missing (slice_split (λ b. b == 32) line) i part below here (sym none))

-- What a loop over an iterator knows at its end and at an item, with the iterator's list last.
module _ {S A B : Type 0} {steps : S → Option A → S → Type 0} {seen : A → B} {s : S} {all : List B} where
  pub list_at_end : (xs : List A) (t : S) → Yields steps s xs t → (r : Option A) (u : S) → r ≡ None → steps t r u → YieldsList steps seen s all → map seen xs ≡ all
  list_at_end xs t yields r u none step list = (YieldsList-end list xs t yields r u none step).0

  pub list_at_item : (xs : List A) (t : S) → Yields steps s xs t → (r : Option A) (u : S) (x : A) → r ≡ Some x → steps t r u → YieldsList steps seen s all
      → (length xs < length all) × (seen x ≡ get_or all (length xs) (seen x))
  list_at_item xs t yields r u x some step list = YieldsList-turn list xs t yields r u x some step

-- no space is in the list
abbrev pub LacksSpace : List ℕ → Type 0
LacksSpace xs = list_any (λ b. b == 32) xs ≡ false

slice_split-one : (xs : List ℕ) → LacksSpace xs → slice_split (λ b. b == 32) xs ≡ xs ∷ []
slice_split-one [] lacks = refl
slice_split-one (x ∷ xs) lacks =
    let parts = or_parts (x == 32) (list_any (λ b. b == 32) xs) lacks in
    slice_split-cons_no (λ b. b == 32) x xs parts.0 ∙ ap (onto_first x) (slice_split-one xs parts.1)

slice_split-two : (xs ys : List ℕ) → LacksSpace xs → slice_split (λ b. b == 32) (xs ++ 32 ∷ ys) ≡ xs ∷ slice_split (λ b. b == 32) ys
slice_split-two [] ys lacks = slice_split-cons_yes (λ b. b == 32) 32 ys refl
slice_split-two (x ∷ xs) ys lacks =
    let parts = or_parts (x == 32) (list_any (λ b. b == 32) xs) lacks in
    slice_split-cons_no (λ b. b == 32) x (xs ++ 32 ∷ ys) parts.0 ∙ ap (onto_first x) (slice_split-two xs ys parts.1)

slice_split-line : (word : List ℕ) (words : List (List ℕ)) → slice_split (λ b. b == 32) (line_of (word ∷ words)) ≡ map escaped (word ∷ words)
slice_split-line w [] = slice_split-one (escaped w) (escaped-no_space w)
slice_split-line w (v ∷ vs) = slice_split-two (escaped w) (line_of (v ∷ vs)) (escaped-no_space w) ∙ ap (λ parts. escaped w ∷ parts) (slice_split-line v vs)

word_of-some : (part : List ℕ) → 0 < length part → word_of part ≡ unescaped part
word_of-some [] some = absurd (omega arith)
word_of-some (b ∷ bs) some = refl

pub word_of-escaped : (bytes : List ℕ) → word_of (escaped bytes) ≡ Some bytes
word_of-escaped bytes = word_of-some (escaped bytes) (escaped-nonempty bytes) ∙ unescaped-escaped bytes

all_of-escaped : (words : List (List ℕ)) → all_of (map word_of (map escaped words)) ≡ Some words
all_of-escaped [] = refl
all_of-escaped (w ∷ ws) = rw (word_of-escaped w, all_of-escaped ws)

pub words_of-line_of : (words : List (List ℕ)) → words ≢ [] → words_of (line_of words) ≡ Some words
unfolding words_of
words_of-line_of [] some = absurd (some refl)
words_of-line_of (w ∷ ws) some = ap (λ parts. all_of (map word_of parts)) (slice_split-line w ws) ∙ all_of-escaped (w ∷ ws)

pub line_of-no_line_feed : (words : List (List ℕ)) → list_any (λ b. b == 10) (line_of words) ≡ false
line_of-no_line_feed [] = refl
line_of-no_line_feed (w ∷ []) = escaped-no_line_feed w
line_of-no_line_feed (w ∷ v ∷ vs) =
    list_any-append (λ b. b == 10) (escaped w) (32 ∷ line_of (v ∷ vs)) ∙ or_from _ _ (escaped-no_line_feed w) (line_of-no_line_feed (v ∷ vs))
