-- The entries of some bytes are the first one, and those of the bytes after it.
use Rattle.std.proofs.Common.{◌≡◌, ℕ, zero, suc, ◌<◌, ◌≤◌, List, [], ◌∷◌, length, Result, Ok, Err, refl, sym, ap, ◌∙◌, arith}
use Rattle.std.specs.Prelude.{IfOk, IfSome}
use Rattle.std.specs.Result.{result_ok}
use Rattle.std.specs.Borrow.{Bor}
use Rattle.eden_git.specs.declared.entry.RawEntry.{RawEntry}
use Rattle.eden_git.specs.declared.fault.EntryFault.{EntryFault}
use Rattle.eden_git.specs.Entries.{plain, reading_of}
use Rattle.eden_git.specs.Trees.{Entry, read_entry, entries, entries_after, entries_of}
use Rattle.eden_git.specs.Directories.{entries_read}
use Rattle.eden_git.proofs.Reading.{read_shorter}

same_after : (n m : ℕ) (bytes : List ℕ) (r : Result (Entry × List ℕ) EntryFault) → read_entry bytes ≡ r
    → ((rest : List ℕ) → length rest < length bytes → entries n rest ≡ entries m rest) → entries_after (entries n) r ≡ entries_after (entries m) r
same_after n m bytes (Err fault) is same = refl
same_after n m bytes (Ok read) is same = ap (λ (es : List Entry). read.0 ∷ es) (same read.1 (read_shorter bytes read is))

-- any bound on the number of entries that is not below the number of bytes will do
enough : (n m : ℕ) (bytes : List ℕ) → length bytes ≤ n → length bytes ≤ m → entries n bytes ≡ entries m bytes
enough zero zero bytes h g = refl
enough zero (suc m) [] h g = refl
enough zero (suc m) (b ∷ bytes) h g = absurd (omega arith)
enough (suc n) zero [] h g = refl
enough (suc n) zero (b ∷ bytes) h g = absurd (omega arith)
enough (suc n) (suc m) bytes h g =
    same_after n m bytes (read_entry bytes) refl (λ rest less. enough n m rest (omega (arith, less, h)) (omega (arith, less, g)))

after_none : (bytes : List ℕ) (n : ℕ) (fault : EntryFault) → read_entry bytes ≡ Err fault → entries n bytes ≡ []
after_none bytes zero fault is = refl
after_none bytes (suc n) fault is = ap (entries_after (entries n)) is

none_read : (bytes : List ℕ) (fault : EntryFault) → Err fault ≡ read_entry bytes → entries_of bytes ≡ []
none_read bytes fault is = after_none bytes (length bytes) fault (sym is)

after_one : (bytes : List ℕ) (n : ℕ) (e : Entry) (rest : List ℕ) → length bytes ≤ n → read_entry bytes ≡ Ok (e, rest) → entries n bytes ≡ e ∷ entries_of rest
after_one bytes zero e rest long is = absurd (let less = read_shorter bytes (e, rest) is in omega (arith, less, long))
after_one bytes (suc n) e rest long is =
    let less : length rest < length bytes = read_shorter bytes (e, rest) is in
    ap (entries_after (entries n)) is ∙ ap (λ (es : List Entry). e ∷ es) (enough n (length rest) rest (omega (arith, less, long)) (omega arith))

one_read : (bytes : List ℕ) (e : RawEntry) (rest : Bor (List ℕ)) → Ok (plain e, rest.now) ≡ read_entry bytes → entries_of bytes ≡ plain e ∷ entries_of rest.now
one_read bytes e rest is = after_one bytes (length bytes) (plain e) rest.now (omega arith) (sym is)

pub after_read : (bytes : List ℕ) (e : Entry) (rest : List ℕ) → read_entry bytes ≡ Ok (e, rest) → entries_of bytes ≡ e ∷ entries_of rest
after_read bytes e rest is = after_one bytes (length bytes) e rest (omega arith) is

pub none_left : (bytes : List ℕ) (fault : EntryFault) → read_entry bytes ≡ Err fault → entries_of bytes ≡ []
none_left bytes fault is = none_read bytes fault (sym is)

pub all_read : (bytes : List ℕ) (r : Result (RawEntry × Bor (List ℕ)) EntryFault) → reading_of r ≡ read_entry bytes → entries_of bytes ≡ entries_read (result_ok r)
all_read bytes (Err fault) is = none_read bytes fault is
all_read bytes (Ok read) is = one_read bytes read.0 read.1 is

pub still_shorter : (bytes : List ℕ) (r : Result (RawEntry × Bor (List ℕ)) EntryFault) → IfOk r (λ read. length read.1.now < length bytes) → IfSome (result_ok r) (λ read. length read.1.now < length bytes)
still_shorter bytes (Err fault) less = tt
still_shorter bytes (Ok read) less = less
