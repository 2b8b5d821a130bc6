-- Looking at a tree's entries one by one, against the first fault of them all.
use Rattle.std.proofs.Common.{◌≡◌, ◌∙◌, sym, refl, ap, ℕ, zero, suc, ◌-◌, ◌+◌, ◌^◌, ◌<◌, ◌≤◌, List, [], ◌∷◌, ◌++◌, length, Some, None, Ok, Err, arith}
use Rattle.eden_git.specs.declared.columns.Columns.{Columns}
use Rattle.eden_git.specs.declared.fault.EntryFault.{EntryFault}
use Rattle.eden_git.specs.Columns.{AreColumns, AreColumnsOf}
use Rattle.eden_git.specs.Starts.{breadth, extent}
use Rattle.eden_git.specs.Trees.{Entry, read_entry, entries_of}
use Rattle.eden_git.proofs.Fuel.{after_read}
use Rattle.eden_git.proofs.Noting as noting
use Rattle.eden_git.proofs.Noting.{AreNoted}
use Rattle.eden_objects.specs.declared.fault.PutFault.{PutFault}
use Rattle.eden_objects.specs.declared.earlier_entries.Seen.{Seen}
use Rattle.eden_objects.specs.declared.size.Size.{Size}
use Rattle.eden_objects.specs.Commits.{entries_rows, tree_rows}
use Rattle.eden_objects.specs.Counts.{capped}
use Rattle.eden_objects.specs.Objects.{Held}
use Rattle.eden_objects.specs.Trees.{greater, depth_of, reach_of, entries_depth, entries_reach, tree_depth, tree_reach}
use Rattle.eden_objects.specs.Puts.{entries_fault, entry_fault, fault_after, first_fault, unread}
use Rattle.eden_objects.specs.internal.Earlier.{HasSeen}
use Rattle.eden_objects.specs.internal.Kept.{OutlineFits, files_of_entries}
use Rattle.eden_objects.proofs.FilesOf.{one_counted}

-- the step of the definitions, where bytes are left

fault_step : (n : ℕ) (held : List Held) (earlier : List Entry) (bytes : List ℕ) → length bytes ≤ n → 0 < length bytes
    → entries_fault n held earlier bytes ≡ fault_after held earlier (entries_fault (n - 1) held) (read_entry bytes)
fault_step n held earlier [] fits some = absurd (omega (arith, some))
fault_step zero held earlier (b ∷ bytes) fits some = absurd (omega (arith, fits))
fault_step (suc n) held earlier (b ∷ bytes) fits some =
    let e : suc n - 1 ≡ n = omega arith in
    rw e refl

no_fault : (n : ℕ) (held : List Held) (earlier : List Entry) (bytes : List ℕ) → length bytes ≡ 0 → entries_fault n held earlier bytes ≡ None
no_fault n held earlier [] none = refl
no_fault n held earlier (b ∷ bytes) none = absurd (omega (arith, none))

nothing_left : (bytes : List ℕ) → length bytes ≡ 0 → entries_of bytes ≡ []
nothing_left [] none = refl
nothing_left (b ∷ bytes) none = absurd (omega (arith, none))

-- a number that a word holds is its own bound
all_counted : (files whole : ℕ) → files < 2 ^ 64 → whole ≡ files → files ≡ capped whole
all_counted files whole small is = grind (arith, small, is)

-- the greater of two numbers

pub greater-zero : (a : ℕ) → greater 0 a ≡ a
greater-zero a = grind (arith)

pub zero-greater : (a : ℕ) → greater a 0 ≡ a
zero-greater a = grind (arith)

pub greater-assoc : (a b c : ℕ) → greater (greater a b) c ≡ greater a (greater b c)
greater-assoc a b c = grind (arith)

-- what is known of a payload's entries before the rest: none has a fault, they were seen, and these
-- are their size, the number of their files and their columns
pub record Judging (held : List Held) (payload : List ℕ) (seen : Seen) (size : Size) (files : ℕ) (columns : Columns) (rest : List ℕ) : Type 0 where
  pub earlier : List Entry
  pub fuel : ℕ
  pub enough : length rest ≤ fuel
  pub has_seen : HasSeen seen earlier
  pub no_fault : entries_fault (length payload) held [] payload ≡ entries_fault fuel held earlier rest
  pub depth : greater size.depth (entries_depth (tree_depth held) (entries_of rest)) ≡ entries_depth (tree_depth held) (entries_of payload)
  pub reach : greater size.reach (entries_reach (tree_reach held) (entries_of rest)) ≡ entries_reach (tree_reach held) (entries_of payload)
  pub counted : capped (files + length (entries_rows (tree_rows held) (entries_of rest))) ≡ files_of_entries held (entries_of payload)
  pub noted : AreNoted payload columns rest

pub begins : (held : List Held) (payload : List ℕ) (seen : Seen) (size : Size) (columns : Columns) → HasSeen seen [] → size.depth ≡ 0 → size.reach ≡ 0
    → AreColumnsOf [] columns → Judging held payload seen size 0 columns payload
begins held payload seen size columns new depth reach none =
    let all : ℕ = length (entries_rows (tree_rows held) (entries_of payload)) in
    let whole : 0 + all ≡ all = omega arith in record {
      earlier = [];
      fuel = length payload;
      enough = omega arith;
      has_seen = new;
      no_fault = refl;
      depth = ap (λ a. greater a (entries_depth (tree_depth held) (entries_of payload))) depth ∙ greater-zero (entries_depth (tree_depth held) (entries_of payload));
      reach = ap (λ a. greater a (entries_reach (tree_reach held) (entries_of payload))) reach ∙ greater-zero (entries_reach (tree_reach held) (entries_of payload));
      counted = ap capped whole;
      noted = noting.begins payload columns none;
    }

pub stands : (held : List Held) (payload : List ℕ) (seen : Seen) (size : Size) (files : ℕ) (columns : Columns) (rest : List ℕ) (e : Entry) (after : List ℕ) (fault : PutFault)
    → Judging held payload seen size files columns rest → 0 < length rest → read_entry rest ≡ Ok (e, after)
    → ((earlier : List Entry) → HasSeen seen earlier → Some fault ≡ entry_fault held earlier e)
    → entries_fault (length payload) held [] payload ≡ Some fault
stands held payload seen size files columns rest e after fault j some is faulty =
    j.no_fault ∙ fault_step j.fuel held j.earlier rest j.enough some ∙ ap (fault_after held j.earlier (entries_fault (j.fuel - 1) held)) is
    ∙ ap (λ f. first_fault f (entries_fault (j.fuel - 1) held (e ∷ j.earlier) after)) (sym (faulty j.earlier j.has_seen))

pub unreadable : (held : List Held) (payload : List ℕ) (seen : Seen) (size : Size) (files : ℕ) (columns : Columns) (rest : List ℕ) (fault : EntryFault)
    → Judging held payload seen size files columns rest → 0 < length rest → read_entry rest ≡ Err fault
    → entries_fault (length payload) held [] payload ≡ Some (unread fault)
unreadable held payload seen size files columns rest fault j some is =
    j.no_fault ∙ fault_step j.fuel held j.earlier rest j.enough some ∙ ap (fault_after held j.earlier (entries_fault (j.fuel - 1) held)) is

-- an entry without a fault, its size and the number of its files, as they are noted
pub record Notes (held : List Held) (payload : List ℕ) (seen more : Seen) (size larger : Size) (files greater_files : ℕ) (columns longer : Columns) (e : Entry) (after : List ℕ) : Type 0 where
  pub passes : (earlier : List Entry) → HasSeen seen earlier → None ≡ entry_fault held earlier e
  pub notes : (earlier : List Entry) → HasSeen seen earlier → HasSeen more (e ∷ earlier)
  pub depth : larger.depth ≡ greater size.depth (depth_of e.kind (tree_depth held e.id))
  pub reach : larger.reach ≡ greater size.reach (reach_of e.name e.kind (tree_reach held e.id))
  pub count : greater_files ≡ capped (files + files_of_entries held (e ∷ []))
  pub column : (es : List Entry) → AreColumnsOf es columns → length payload - length after ≡ extent es + breadth e → AreColumnsOf (es ++ e ∷ []) longer

pub goes_on : (held : List Held) (payload : List ℕ) (seen more : Seen) (size larger : Size) (files greater_files : ℕ) (columns longer : Columns) (rest : List ℕ) (e : Entry) (after : List ℕ)
    → Judging held payload seen size files columns rest → 0 < length rest → length after < length rest → length rest ≤ length payload → read_entry rest ≡ Ok (e, after)
    → Notes held payload seen more size larger files greater_files columns longer e after
    → Judging held payload more larger greater_files longer after
goes_on held payload seen more size larger files greater_files columns longer rest e after j some less within is n =
    let fits = j.enough in
    let left : entries_of rest ≡ e ∷ entries_of after = after_read rest e after is in
    let m : ℕ = j.fuel - 1 in record {
      earlier = e ∷ j.earlier;
      fuel = m;
      enough = omega (arith, fits, less, some);
      has_seen = n.notes j.earlier j.has_seen;
      no_fault =
          j.no_fault ∙ fault_step j.fuel held j.earlier rest j.enough some ∙ ap (fault_after held j.earlier (entries_fault m held)) is
          ∙ ap (λ f. first_fault f (entries_fault m held (e ∷ j.earlier) after)) (sym (n.passes j.earlier j.has_seen));
      depth =
          ap (λ a. greater a (entries_depth (tree_depth held) (entries_of after))) n.depth
          ∙ greater-assoc size.depth (depth_of e.kind (tree_depth held e.id)) (entries_depth (tree_depth held) (entries_of after))
          ∙ ap (λ es. greater size.depth (entries_depth (tree_depth held) es)) (sym left) ∙ j.depth;
      reach =
          ap (λ a. greater a (entries_reach (tree_reach held) (entries_of after))) n.reach
          ∙ greater-assoc size.reach (reach_of e.name e.kind (tree_reach held e.id)) (entries_reach (tree_reach held) (entries_of after))
          ∙ ap (λ es. greater size.reach (entries_reach (tree_reach held) es)) (sym left) ∙ j.reach;
      counted =
          one_counted (tree_rows held) files (files_of_entries held (e ∷ [])) greater_files (files_of_entries held (entries_of payload)) e
          (entries_of after) (entries_of rest) left refl n.count j.counted;
      noted = noting.goes_on payload columns longer rest e after (length payload - length after) j.noted is (omega (arith, less, within)) n.column;
    }

pub ends : (held : List Held) (payload : List ℕ) (seen : Seen) (size : Size) (files : ℕ) (columns : Columns) (rest : List ℕ)
    → Judging held payload seen size files columns rest → files < 2 ^ 64 → length rest ≡ 0
    → (entries_fault (length payload) held [] payload ≡ None) × AreColumns payload columns
    × OutlineFits held payload (record { size = size; files = files; columns = columns })
ends held payload seen size files columns rest j small none =
    let left : entries_of rest ≡ [] = nothing_left rest none in
    let whole : files + 0 ≡ files = omega arith in (
      j.no_fault ∙ no_fault j.fuel held j.earlier rest none,
      noting.ends payload columns rest j.noted left,
      (
        (
          sym (zero-greater size.depth) ∙ ap (λ es. greater size.depth (entries_depth (tree_depth held) es)) (sym left) ∙ j.depth,
          sym (zero-greater size.reach) ∙ ap (λ es. greater size.reach (entries_reach (tree_reach held) es)) (sym left) ∙ j.reach,
        ),
        all_counted files (files + length (entries_rows (tree_rows held) (entries_of rest))) small (ap (λ es. files + length (entries_rows (tree_rows held) es)) left ∙ whole) ∙ j.counted,
      ),
    )
