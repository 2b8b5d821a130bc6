-- The files after the rename of a directory, put together file by file, from the first path to the last.
use Rattle.std.proofs.Common.{◌≡◌, ℕ, Bool, true, false, not, cond, ◌&&◌, ◌||◌, List, [], ◌∷◌, Option, Some, None, is_some, refl, sym, ap, ◌∙◌}
use Rattle.std.specs.Prelude.{if◌then◌else◌}
use Rattle.std.specs.List.{list_any}
use Rattle.std.specs.FinMap as fin
use Rattle.std.proofs.Math.Bool.{or-false, or_assoc}
use Rattle.eden_ids.specs.declared.content.Content.{Content}
use Rattle.eden_ids.specs.Paths.{lies_below}
use Rattle.eden_ids.specs.FileMaps.{FileMap, file_at, no_files, paths, same_path}
use Rattle.eden_ids.proofs.FileMapLemmas.{file_at-insert, file_at-none, same_file_map, same_path-is, same_path-refl}
use Rattle.eden_overlay.specs.Carried.{carried, carried_files, carried_rule}
use Rattle.eden_overlay.proofs.CarriedLemmas.{carried-back, carried-below, file_at-carried}
use Rattle.eden_history.specs.declared.change.Change.{Change}
use Rattle.eden_history.specs.declared.change.Change.TheVariants.{Write, Remove, Rename, RenameDir, Checkout, Reset, Flush, Remount, Import}
use Rattle.eden_history.specs.Outcome.{change_fault, refusal}
use Rattle.eden_history.specs.Worlds.{Row, Commits}
use Rattle.eden_history.proofs.LegalFiles.{allowed_files}
use Rattle.eden_world.specs.internal.Carrying.{MayMove, carried_onto}

-- the files with those of the paths that are left
abbrev pub carry_all : FileMap → List ℕ → List ℕ → FileMap → List (List ℕ) → FileMap
carry_all files old new next [] = next
carry_all files old new next (p ∷ ps) = carry_all files old new (carried_onto next old new p (file_at files p)) ps

-- ---- one file more

-- of two paths one lies below a directory, and the other does not
apart : (top q p : List ℕ) (b : Bool) → lies_below q top ≡ b → lies_below p top ≡ not b → same_path q p ≡ false
apart top q p b here there = by (same_path q p) refl
  where
    no : (b : Bool) → b ≡ not b → true ≡ false
    no true e = e
    no false e = sym e

    by : (same : Bool) → same_path q p ≡ same → same ≡ false
    by true e = no b (sym here ∙ ap (λ r. lies_below r top) (same_path-is q p e) ∙ there)
    by false e = refl

-- of two paths, one below each directory, either goes to the other
same_back : (old new q p : List ℕ) → lies_below q new ≡ true → lies_below p old ≡ true → same_path (carried new old q) p ≡ same_path q (carried old new p)
same_back old new q p into from = by (same_path (carried new old q) p) refl (same_path q (carried old new p)) refl
  where
    by : (a : Bool) → same_path (carried new old q) p ≡ a → (b : Bool) → same_path q (carried old new p) ≡ b → a ≡ b
    by true e true d = refl
    by true e false d =
        sym (same_path-refl q)
        ∙ ap (same_path q) (sym (carried-back new old q into) ∙ ap (carried old new) (same_path-is (carried new old q) p e)) ∙ d
    by false e true d =
        sym e ∙ ap (λ r. same_path r p) (ap (carried new old) (same_path-is q (carried old new p) d) ∙ carried-back old new p from) ∙ same_path-refl p
    by false e false d = refl

module _ (m : FileMap) (old new p : List ℕ) (f : Content) where
  abbrev after : FileMap
  after = fin.insert m p f

  -- what the rule gives with the one file more, where that is the file
  abbrev added : Bool → List ℕ → Option Content
  added same q = cond same (Some f) (carried_rule m old new q)

  cases : (into outof : Bool) (same : Bool) (q : List ℕ) → lies_below q new ≡ into → lies_below q old ≡ outof
      → (into ≡ true → same_path (carried new old q) p ≡ same) → (into ≡ false → same ≡ (not outof && same_path q p)) → carried_rule after old new q ≡ added same q
  cases true outof same q in-new in-old here there =
      ap (λ b. if b then file_at after (carried new old q) else if lies_below q old then None else file_at after q) in-new
      ∙ file_at-insert m p f (carried new old q)
      ∙ ap (λ b. cond b (Some f) (file_at m (carried new old q))) (here refl)
      ∙ sym (ap (λ b. cond same (Some f) (if b then file_at m (carried new old q) else if lies_below q old then None else file_at m q)) in-new)
  cases false true same q in-new in-old here there =
      (λ i. if in-new i then file_at after (carried new old q) else if in-old i then None else file_at after q)
      ∙ sym (λ i. cond (there refl i) (Some f) (if in-new i then file_at m (carried new old q) else if in-old i then None else file_at m q))
  cases false false same q in-new in-old here there =
      (λ i. if in-new i then file_at after (carried new old q) else if in-old i then None else file_at after q)
      ∙ file_at-insert m p f q
      ∙ sym (λ i. cond (there refl i) (Some f) (if in-new i then file_at m (carried new old q) else if in-old i then None else file_at m q))

  -- a file that moves
  moves : lies_below p old ≡ true → (q : List ℕ) → carried_rule after old new q ≡ added (same_path q (carried old new p)) q
  moves from q = cases (lies_below q new) (lies_below q old) (same_path q (carried old new p)) q refl refl
      (λ into. same_back old new q p into from)
      (λ out. apart new q (carried old new p) false out (carried-below old new p from) ∙ sym (by (lies_below q old) refl))
    where
      by : (outof : Bool) → lies_below q old ≡ outof → (not outof && same_path q p) ≡ false
      by true e = refl
      by false e = apart old q p false e from

  -- a file that is replaced
  replaced : lies_below p old ≡ false → lies_below p new ≡ true → (q : List ℕ) → carried_rule after old new q ≡ added false q
  replaced from into q = cases (lies_below q new) (lies_below q old) false q refl refl
      (λ below. apart old (carried new old q) p true (carried-below new old q below) from)
      (λ out. sym (by (lies_below q old) (apart new q p false out into)))
    where
      by : (outof : Bool) → same_path q p ≡ false → (not outof && same_path q p) ≡ false
      by true e = refl
      by false e = e

  -- any other
  stays : lies_below p old ≡ false → lies_below p new ≡ false → (q : List ℕ) → carried_rule after old new q ≡ added (same_path q p) q
  stays from into q = cases (lies_below q new) (lies_below q old) (same_path q p) q refl refl
      (λ below. apart old (carried new old q) p true (carried-below new old q below) from ∙ sym (apart new q p true below into))
      (λ out. by (lies_below q old) refl)
    where
      by : (outof : Bool) → lies_below q old ≡ outof → same_path q p ≡ (not outof && same_path q p)
      by true e = apart old q p true e from
      by false e = refl

  -- the files with one more at a path
  inserted : (k q : List ℕ) → carried_rule after old new q ≡ added (same_path q k) q → file_at (fin.insert (carried_files m old new) k f) q ≡ file_at (carried_files after old new) q
  inserted k q is =
      file_at-insert (carried_files m old new) k f q
      ∙ ap (cond (same_path q k) (Some f)) (file_at-carried m old new q)
      ∙ sym is ∙ sym (file_at-carried after old new q)

  pub carried-more : carried_onto (carried_files m old new) old new p (Some f) ≡ carried_files (fin.insert m p f) old new
  carried-more = same_file_map _ _ (λ q. by (lies_below p old) (lies_below p new) refl refl q)
    where
      by : (outof into : Bool) → lies_below p old ≡ outof → lies_below p new ≡ into → (q : List ℕ)
          → file_at (if outof then fin.insert (carried_files m old new) (carried old new p) f else if into then carried_files m old new else fin.insert (carried_files m old new) p f) q
          ≡ file_at (carried_files after old new) q
      by true into from to q = inserted (carried old new p) q (moves from q)
      by false true from to q = file_at-carried m old new q ∙ sym (replaced from to q) ∙ sym (file_at-carried after old new q)
      by false false from to q = inserted p q (stays from to q)

-- ---- all of them

abbrev put_one : FileMap → List ℕ → Option Content → FileMap
put_one m p None = m
put_one m p (Some f) = fin.insert m p f

-- the map with the files of the paths that are left
abbrev put_all : FileMap → FileMap → List (List ℕ) → FileMap
put_all files m [] = m
put_all files m (p ∷ ps) = put_all files (put_one m p (file_at files p)) ps

-- the map has the files at the paths that were seen, and no other
abbrev HasSeen : FileMap → (List ℕ → Bool) → FileMap → Type 0
HasSeen files seen m = (q : List ℕ) → file_at m q ≡ cond (seen q) (file_at files q) None

one_more : (files m : FileMap) (seen : List ℕ → Bool) (p : List ℕ) → HasSeen files seen m → HasSeen files (λ q. seen q || same_path q p) (put_one m p (file_at files p))
one_more files m seen p has q = by (file_at files p) refl (same_path q p) refl
  where
    late : (early : Bool) → cond early (file_at files q) None ≡ cond (early || false) (file_at files q) None
    late true = refl
    late false = refl

    here : (early : Bool) → cond (early || true) (file_at files q) None ≡ file_at files q
    here true = refl
    here false = refl

    none : (early : Bool) → file_at files q ≡ None → cond early (file_at files q) None ≡ file_at files q
    none true e = refl
    none false e = sym e

    by : (o : Option Content) → file_at files p ≡ o → (same : Bool) → same_path q p ≡ same
        → file_at (put_one m p o) q ≡ cond (seen q || same_path q p) (file_at files q) None
    by None at true e =
        has q ∙ none (seen q) (ap (file_at files) (same_path-is q p e) ∙ at)
        ∙ sym (ap (λ b. cond (seen q || b) (file_at files q) None) e ∙ here (seen q))
    by None at false e = has q ∙ late (seen q) ∙ sym (ap (λ b. cond (seen q || b) (file_at files q) None) e)
    by (Some f) at true e =
        file_at-insert m p f q ∙ ap (λ b. cond b (Some f) (file_at m q)) e
        ∙ sym (ap (λ b. cond (seen q || b) (file_at files q) None) e ∙ here (seen q) ∙ ap (file_at files) (same_path-is q p e) ∙ at)
    by (Some f) at false e =
        file_at-insert m p f q ∙ ap (λ b. cond b (Some f) (file_at m q)) e ∙ has q ∙ late (seen q)
        ∙ sym (ap (λ b. cond (seen q || b) (file_at files q) None) e)

all_seen : (files m : FileMap) (seen : List ℕ → Bool) (ps : List (List ℕ)) → HasSeen files seen m
    → HasSeen files (λ q. seen q || list_any (λ k. same_path q k) ps) (put_all files m ps)
all_seen files m seen [] has q = has q ∙ ap (λ b. cond b (file_at files q) None) (sym (or-false (seen q)))
all_seen files m seen (p ∷ ps) has q =
    all_seen files (put_one m p (file_at files p)) (λ r. seen r || same_path r p) ps (one_more files m seen p has) q
    ∙ ap (λ b. cond b (file_at files q) None) (or_assoc (seen q) (same_path q p) (list_any (λ k. same_path q k) ps))

put-itself : (files : FileMap) → put_all files no_files (paths files) ≡ files
put-itself files = same_file_map (put_all files no_files (paths files)) files (λ q.
    all_seen files no_files (λ r. false) (paths files) (λ r. file_at-none r) q
    ∙ ap (λ b. cond b (file_at files q) None) (sym (fin.contains_key-keys files q))
    ∙ one (file_at files q))
  where
    one : (o : Option Content) → cond (is_some o) o None ≡ o
    one None = refl
    one (Some f) = refl

carry-put : (files : FileMap) (old new : List ℕ) (m : FileMap) (ps : List (List ℕ))
    → carry_all files old new (carried_files m old new) ps ≡ carried_files (put_all files m ps) old new
carry-put files old new m [] = refl
carry-put files old new m (p ∷ ps) =
    ap (λ next. carry_all files old new next ps) (by (file_at files p))
    ∙ carry-put files old new (put_one m p (file_at files p)) ps
  where
    by : (o : Option Content) → carried_onto (carried_files m old new) old new p o ≡ carried_files (put_one m p o) old new
    by None = refl
    by (Some f) = carried-more m old new p f

carried-none : (old new : List ℕ) → carried_files no_files old new ≡ no_files
carried-none old new = same_file_map (carried_files no_files old new) no_files (λ q.
    file_at-carried no_files old new q ∙ by q (lies_below q new) (lies_below q old) ∙ sym (file_at-none q))
  where
    by : (q : List ℕ) (into outof : Bool) → (if into then file_at no_files (carried new old q) else if outof then None else file_at no_files q) ≡ None
    by q true outof = file_at-none (carried new old q)
    by q false true = refl
    by q false false = file_at-none q

-- from no file on, with those of all paths
pub carry-whole : (files : FileMap) (old new : List ℕ) → carry_all files old new no_files (paths files) ≡ carried_files files old new
carry-whole files old new =
    ap (λ next. carry_all files old new next (paths files)) (sym (carried-none old new))
    ∙ carry-put files old new no_files (paths files)
    ∙ ap (λ m. carried_files m old new) (put-itself files)

-- ---- what nothing refuses

allowed_move : (commits : Commits) (row : Row) (change : Change) → change_fault commits row change ≡ None → MayMove row.files change
allowed_move commits row (Write path kind bytes) e = tt
allowed_move commits row (Remove path) e = tt
allowed_move commits row (Rename old new) e = tt
allowed_move commits row (RenameDir old new) e = e
allowed_move commits row (Checkout commit mode) e = tt
allowed_move commits row (Reset commit) e = tt
allowed_move commits row Flush e = tt
allowed_move commits row (Remount generation) e = tt
allowed_move commits row (Import objects) e = tt

pub may_move : (commits : Commits) (row : Row) (change : Change) → refusal commits row change ≡ None → MayMove row.files change
may_move commits row change e = allowed_move commits row change (allowed_files commits row change e)
