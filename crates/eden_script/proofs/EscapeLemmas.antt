-- What is read of a text, byte by byte, and how that undoes what was written.
use Rattle.std.proofs.Common.{◌≡◌, ◌≢◌, ℕ, zero, suc, ◌+◌, List, [], ◌∷◌, ◌++◌, Bool, false, length, length-append, lit<, ◌^◌, take, drop, get_or, ◌-◌, ◌≤◌, append-nil, refl, sym, ◌∙◌, ap, arith, append_assoc, ◌<◌, eqb, add-one, length-drop, subst}
use Rattle.std.specs.Prelude.{Option, Some, None, decimal, ◌==◌, All}
use Rattle.std.specs.Int.{IsInRange}
use Rattle.std.specs.Str.Parse.{AllDigits}
use Rattle.std.proofs.lemmas.Bool.{or_from}
use Rattle.std.proofs.lemmas.Fmt.{decimal_is_IsNumeral}
use Rattle.std.proofs.lemmas.List.Folds.{list_any-append}
use Rattle.std.proofs.lemmas.Str.Parse.{digit_from_value}
use Rattle.std.specs.List.{flat_map, list_any}
use Rattle.std.proofs.lemmas.Bool.Decides.{nat_tests}
use Rattle.std.proofs.Math.Dec.{eqb-suc-zero}
use Rattle.std.proofs.lemmas.List.{take-append-drop, take_rest, get_or-drop}
use Rattle.std.proofs.Math.Seq.{take-add}
use Rattle.std.proofs.lemmas.Grind.{flat_map-append}
use Rattle.eden_script.specs.Escapes.{meaning_of, followed_by, unescaped, escaped_byte, escaped}
use Rattle.eden_script.specs.internal.Runs.{IsPlain, EndsPlain, HasNoBackslash, HasBackslashAt}

pub unescaped-nil : unescaped [] ≡ Some []
unfolding unescaped
unescaped-nil = refl

pub unescaped-plain : (b : ℕ) (bs : List ℕ) → eqb b 92 ≡ false → unescaped (b ∷ bs) ≡ followed_by (Some (b ∷ [])) (unescaped bs)
unfolding unescaped
unescaped-plain b [] plain = rw plain
unescaped-plain b (c ∷ bs) plain = rw plain

pub unescaped-backslash : (c : ℕ) (bs : List ℕ) → unescaped (92 ∷ c ∷ bs) ≡ followed_by (meaning_of c) (unescaped bs)
unfolding unescaped
unescaped-backslash c bs = refl

pub unescaped-unfinished : unescaped (92 ∷ []) ≡ None
unfolding unescaped
unescaped-unfinished = refl

pub followed_by-twice : (xs ys : List ℕ) (rest : Option (List ℕ)) → followed_by (Some xs) (followed_by (Some ys) rest) ≡ followed_by (Some (xs ++ ys)) rest
followed_by-twice xs ys None = refl
followed_by-twice xs ys (Some zs) = ap Some (sym (append_assoc xs ys zs))

-- one written byte is read as that byte
unescaped-escaped_byte : (b : ℕ) (rest : List ℕ) → unescaped (escaped_byte b ++ rest) ≡ followed_by (Some (b ∷ [])) (unescaped rest)
unescaped-escaped_byte b rest = grind (arith, unescaped-backslash 92 rest, unescaped-backslash 110 rest, unescaped-backslash 115 rest, unescaped-plain b rest)

unescaped-flat_map : (bytes : List ℕ) → unescaped (flat_map escaped_byte bytes) ≡ Some bytes
unescaped-flat_map [] = unescaped-nil
unescaped-flat_map (b ∷ bs) = unescaped-escaped_byte b (flat_map escaped_byte bs) ∙ ap (followed_by (Some (b ∷ []))) (unescaped-flat_map bs)

pub unescaped-escaped : (bytes : List ℕ) → unescaped (escaped bytes) ≡ Some bytes
unfolding escaped
unescaped-escaped [] = unescaped-backslash 101 [] ∙ ap (followed_by (Some [])) unescaped-nil
unescaped-escaped (b ∷ bs) = rw (eqb-suc-zero (length bs)) (unescaped-flat_map (b ∷ bs))

-- The steps of a reading, where `bytes` have been read of `text` and `rest` is left.
abbrev pub IsReadTo : List ℕ → List ℕ → List ℕ → Type 0
IsReadTo text bytes rest = unescaped text ≡ followed_by (Some bytes) (unescaped rest)

-- what comes after the first element of a list whose elements are all so is so too
behind : (P : ℕ → Type 0) (b : ℕ) (bs : List ℕ) → All P (b ∷ bs) → All P bs
behind P b bs all k d h = all (suc k) d (omega (arith, h))

pub followed_by-nothing : (rest : Option (List ℕ)) → followed_by (Some []) rest ≡ rest
followed_by-nothing None = refl
followed_by-nothing (Some bytes) = refl

-- bytes with no backslash are read as they are
unescaped-run : (run rest : List ℕ) → HasNoBackslash run → unescaped (run ++ rest) ≡ followed_by (Some run) (unescaped rest)
unescaped-run [] rest none = sym (followed_by-nothing (unescaped rest))
unescaped-run (b ∷ bs) rest none =
    let apart : b ≢ 92 = none 0 0 (omega arith) in
    let test : eqb b 92 ≡ false = grind (arith, nat_tests, apart) in
    unescaped-plain b (bs ++ rest) test ∙ ap (followed_by (Some (b ∷ []))) (unescaped-run bs rest (behind (λ byte. byte ≢ 92) b bs none))
    ∙ followed_by-twice (b ∷ []) bs (unescaped rest)

-- a run up to a backslash, which is at the front of what is left then
pub read_run : (text bytes rest run escape after : List ℕ) (place : ℕ) → IsReadTo text bytes rest → HasBackslashAt rest place
    → run ≡ take place rest → escape ≡ drop place rest → after ≡ bytes ++ run
    → IsReadTo text after escape × (0 < length escape) × (get_or escape 0 0 ≡ 92)
read_run text bytes rest run escape after place read here front back grown =
    let parted : run ++ escape ≡ rest = ap (λ x. x ++ escape) front ∙ ap (λ x. take place rest ++ x) back ∙ take-append-drop place rest in
    let none : HasNoBackslash run = subst HasNoBackslash (sym front) here.before in
    let at : place + 0 ≡ place = omega arith in (
      read ∙ ap (λ x. followed_by (Some bytes) (unescaped x)) (sym parted)
          ∙ ap (followed_by (Some bytes)) (unescaped-run run escape none)
          ∙ followed_by-twice bytes run (unescaped escape)
          ∙ ap (λ x. followed_by (Some x) (unescaped escape)) (sym grown),
      omega (arith, ap length back, length-drop place rest, here.within),
      ap (λ x. get_or x 0 0) back ∙ get_or-drop place rest 0 0 ∙ ap (λ n. get_or rest n 0) at ∙ here.found,
    )

escape_read : (text bytes : List ℕ) (b c : ℕ) (bs : List ℕ) → IsReadTo text bytes (b ∷ c ∷ bs) → b ≡ 92
    → unescaped text ≡ followed_by (Some bytes) (followed_by (meaning_of c) (unescaped bs))
escape_read text bytes b c bs read is =
    read ∙ ap (λ x. followed_by (Some bytes) (unescaped (x ∷ c ∷ bs))) is ∙ ap (followed_by (Some bytes)) (unescaped-backslash c bs)

pub read_escape : (text bytes rest after meant : List ℕ) → IsReadTo text bytes rest → get_or rest 0 0 ≡ 92 → 2 ≤ length rest
    → Some meant ≡ meaning_of (get_or rest 1 0) → after ≡ bytes ++ meant → IsReadTo text after (take (length rest - 2) (drop 2 rest))
read_escape text bytes [] after meant read is more means grown = absurd (omega arith)
read_escape text bytes (b ∷ []) after meant read is more means grown = absurd (omega arith)
read_escape text bytes (b ∷ c ∷ bs) after meant read is more means grown =
    rw (grown, take_rest (b ∷ c ∷ bs) 2)
    (escape_read text bytes b c bs read is ∙ ap (λ x. followed_by (Some bytes) (followed_by x (unescaped bs))) (sym means)
    ∙ followed_by-twice bytes meant (unescaped bs))

pub read_unknown : (text bytes rest : List ℕ) → IsReadTo text bytes rest → get_or rest 0 0 ≡ 92 → 2 ≤ length rest
    → None ≡ meaning_of (get_or rest 1 0) → None ≡ unescaped text
read_unknown text bytes [] read is more means = absurd (omega arith)
read_unknown text bytes (b ∷ []) read is more means = absurd (omega arith)
read_unknown text bytes (b ∷ c ∷ bs) read is more means =
    sym (escape_read text bytes b c bs read is ∙ ap (λ x. followed_by (Some bytes) (followed_by x (unescaped bs))) (sym means))

pub read_unfinished : (text bytes rest : List ℕ) → IsReadTo text bytes rest → 0 < length rest → get_or rest 0 0 ≡ 92
    → length rest < 2 → None ≡ unescaped text
read_unfinished text bytes [] read some is end = absurd (omega arith)
read_unfinished text bytes (b ∷ []) read some is end =
    sym (read ∙ ap (λ x. followed_by (Some bytes) (unescaped (x ∷ []))) is ∙ ap (followed_by (Some bytes)) unescaped-unfinished)
read_unfinished text bytes (b ∷ c ∷ bs) read some is end = absurd (omega arith)

pub read_all : (text bytes rest after : List ℕ) → IsReadTo text bytes rest → HasNoBackslash rest → after ≡ bytes ++ rest → Some after ≡ unescaped text
read_all text bytes rest after read none grown =
    sym (read ∙ ap (λ x. followed_by (Some bytes) (unescaped x)) (sym (append-nil rest))
    ∙ ap (followed_by (Some bytes)) (unescaped-run rest [] none ∙ ap (followed_by (Some rest)) unescaped-nil ∙ ap Some (append-nil rest))
    ∙ ap Some (sym grown))

-- ---- what is written

escaped_byte-plain : (b : ℕ) → b ≢ 92 → b ≢ 10 → b ≢ 32 → escaped_byte b ≡ b ∷ []
escaped_byte-plain b x y z = grind (arith, nat_tests, x, y, z)

-- plain bytes are written as they are
written_plain : (bytes : List ℕ) → IsPlain bytes → flat_map escaped_byte bytes ≡ bytes
written_plain [] plain = refl
written_plain (b ∷ bs) plain =
    let p = plain 0 0 (omega arith) in
    ap (λ xs. xs ++ flat_map escaped_byte bs) (escaped_byte-plain b p.0 p.1 p.2) ∙ ap (λ xs. b ∷ xs) (written_plain bs (behind (λ byte. (byte ≢ 92) × (byte ≢ 10) × (byte ≢ 32)) b bs plain))

-- a plain run and the byte after it
run_and_byte : (rest : List ℕ) (size : ℕ) → EndsPlain rest size
    → flat_map escaped_byte (take (size + 1) rest) ≡ take size rest ++ escaped_byte (get_or rest size 0)
run_and_byte rest size ends =
    ap (λ n. flat_map escaped_byte (take n rest)) (add-one size)
    ∙ ap (flat_map escaped_byte) (take-suc rest size ends.0)
    ∙ flat_map-append escaped_byte (take size rest) (get_or rest size 0 ∷ [])
    ∙ ap (λ xs. xs ++ (escaped_byte (get_or rest size 0) ++ [])) (written_plain (take size rest) ends.1)
    ∙ ap (λ xs. take size rest ++ xs) (append-nil (escaped_byte (get_or rest size 0)))
  where
    take-suc : (xs : List ℕ) (n : ℕ) → n < length xs → take (suc n) xs ≡ take n xs ++ get_or xs n 0 ∷ []
    take-suc [] n h = absurd (omega arith)
    take-suc (x ∷ xs) zero h = refl
    take-suc (x ∷ xs) (suc n) h = ap (λ ys. x ∷ ys) (take-suc xs n (omega arith))

pub written_on : (bytes first before text after : List ℕ) (start size : ℕ) → before ≡ first ++ flat_map escaped_byte (take start bytes) → start ≤ length bytes
    → EndsPlain (drop start bytes) size → text ≡ before ++ take size (drop start bytes) → after ≡ text ++ escaped_byte (get_or bytes (start + size) 0)
    → after ≡ first ++ flat_map escaped_byte (take (start + size + 1) bytes)
written_on bytes first before text after start size so_far fits ends run one =
    let here : get_or (drop start bytes) size 0 ≡ get_or bytes (start + size) 0 = get_or-drop start bytes size 0 in
    let cut : take (start + (size + 1)) bytes ≡ take start bytes ++ take (size + 1) (drop start bytes) = take-add start (size + 1) bytes in
    one ∙ ap (λ x. x ++ escaped_byte (get_or bytes (start + size) 0)) (run ∙ ap (λ x. x ++ take size (drop start bytes)) so_far)
    ∙ append_assoc (first ++ flat_map escaped_byte (take start bytes)) (take size (drop start bytes)) (escaped_byte (get_or bytes (start + size) 0))
    ∙ append_assoc first (flat_map escaped_byte (take start bytes)) (take size (drop start bytes) ++ escaped_byte (get_or bytes (start + size) 0))
    ∙ ap (λ x. first ++ (flat_map escaped_byte (take start bytes) ++ x))
    (ap (λ b. take size (drop start bytes) ++ escaped_byte b) (sym here) ∙ sym (run_and_byte (drop start bytes) size ends))
    ∙ ap (λ x. first ++ x) (sym (flat_map-append escaped_byte (take start bytes) (take (size + 1) (drop start bytes))))
    ∙ ap (λ x. first ++ flat_map escaped_byte x) (sym cut)
    ∙ ap (λ n. first ++ flat_map escaped_byte (take n bytes)) (omega arith)

pub written_all : (bytes first before after : List ℕ) (start : ℕ) → before ≡ first ++ flat_map escaped_byte (take start bytes)
    → IsPlain (drop start bytes) → after ≡ before ++ drop start bytes → after ≡ first ++ flat_map escaped_byte bytes
written_all bytes first before after start so_far plain rest =
    rest ∙ ap (λ x. x ++ drop start bytes) so_far ∙ append_assoc first (flat_map escaped_byte (take start bytes)) (drop start bytes)
    ∙ ap (λ x. first ++ (flat_map escaped_byte (take start bytes) ++ x)) (sym (written_plain (drop start bytes) plain))
    ∙ ap (λ x. first ++ x) (sym (flat_map-append escaped_byte (take start bytes) (drop start bytes)))
    ∙ ap (λ x. first ++ flat_map escaped_byte x) (take-append-drop start bytes)

-- what is written of some bytes, one after another
pub escaped-some : (bytes : List ℕ) → 0 < length bytes → escaped bytes ≡ flat_map escaped_byte bytes
unfolding escaped
escaped-some [] some = absurd (omega arith)
escaped-some (b ∷ bs) some = rw (eqb-suc-zero (length bs))

-- What no byte is written with is nowhere in what is written.

escaped_byte-no_space : (b : ℕ) → list_any (λ x. x == 32) (escaped_byte b) ≡ false
escaped_byte-no_space b = grind (arith, nat_tests)

escaped_byte-no_line_feed : (b : ℕ) → list_any (λ x. x == 10) (escaped_byte b) ≡ false
escaped_byte-no_line_feed b = grind (arith, nat_tests)

flat_map-lacks : (p : ℕ → Bool) → ((b : ℕ) → list_any p (escaped_byte b) ≡ false) → (bytes : List ℕ) → list_any p (flat_map escaped_byte bytes) ≡ false
flat_map-lacks p lacks [] = refl
flat_map-lacks p lacks (b ∷ bs) =
    list_any-append p (escaped_byte b) (flat_map escaped_byte bs) ∙ or_from _ _ (lacks b) (flat_map-lacks p lacks bs)

escaped-lacks : (p : ℕ → Bool) → list_any p (92 ∷ 101 ∷ []) ≡ false → ((b : ℕ) → list_any p (escaped_byte b) ≡ false) → (bytes : List ℕ) → list_any p (escaped bytes) ≡ false
unfolding escaped
escaped-lacks p none lacks [] = none
escaped-lacks p none lacks (b ∷ bs) = rw (eqb-suc-zero (length bs)) (flat_map-lacks p lacks (b ∷ bs))

pub escaped-no_space : (bytes : List ℕ) → list_any (λ x. x == 32) (escaped bytes) ≡ false
escaped-no_space = escaped-lacks _ refl escaped_byte-no_space

pub escaped-no_line_feed : (bytes : List ℕ) → list_any (λ x. x == 10) (escaped bytes) ≡ false
escaped-no_line_feed = escaped-lacks _ refl escaped_byte-no_line_feed

length-escaped_byte : (b : ℕ) → 0 < length (escaped_byte b)
length-escaped_byte b = grind (arith, nat_tests)

pub escaped-nonempty : (bytes : List ℕ) → 0 < length (escaped bytes)
unfolding escaped
escaped-nonempty [] = lit< tt
escaped-nonempty (b ∷ bs) =
    rw (eqb-suc-zero (length bs)) (omega (arith, length-append (escaped_byte b) (flat_map escaped_byte bs), length-escaped_byte b))

-- digits are written as they are
digits-escaped : (digits : List ℕ) → AllDigits 10 digits → flat_map escaped_byte digits ≡ digits
digits-escaped [] all = refl
digits-escaped (d ∷ ds) all =
    let range : IsInRange 48 57 d = digit_from_value d all.0 in
    let plain : escaped_byte d ≡ d ∷ [] = grind (arith, nat_tests, range) in
    ap (λ xs. xs ++ flat_map escaped_byte ds) plain ∙ ap (λ xs. d ∷ xs) (digits-escaped ds all.1)

pub escaped-decimal : (n : ℕ) → n < 2 ^ 64 → escaped (decimal n) ≡ decimal n
escaped-decimal n small =
    let numeral = (decimal_is_IsNumeral n small).0 in
    escaped-some (decimal n) numeral.0 ∙ digits-escaped (decimal n) numeral.1
