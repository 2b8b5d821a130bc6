-- Rows in order: those of one ticket or of one question are together.
use Rattle.std.proofs.Common.{◌≡◌, ◌<◌, ◌≤◌, ◌⊎◌, inl, inr, ℕ, ◌+◌, ◌-◌, Bool, true, false, nat_le, nat_lt, List, [], ◌∷◌, length, map, get_or, refl, sym, ap, subst, ◌∙◌, arith}
use Rattle.std.specs.Prelude.{All, Contains}
use Rattle.std.proofs.Math.ListN.{get_or-map}
use Rattle.std.proofs.lemmas.List.{length-map}
use Rattle.std.specs.Cmp.{IsTotalOrder}
use Rattle.std.specs.Cmp.Lexicographic.{nat_list_cmp_total}
use Rattle.std.specs.List.{between}
use Rattle.std.specs.List.Sorted.{IsNonDecreasingBy, IsPartitionPoint, IsPartitionedBy}
use Rattle.std.specs.Ordering.{is_le, is_lt, ordering_index}
use Rattle.std.specs.declared.cmp.Ordering.{Ordering}
use Rattle.std.specs.declared.cmp.Ordering.TheVariants.{Less, Equal, Greater}
use Rattle.std.proofs.lemmas.Bool.{ltb-true}
use Rattle.std.proofs.lemmas.Bool.Decides.{leb_tells}
use Rattle.std.proofs.lemmas.Cmp.{nat_cmp_total, on_total, then_total, tied_itself}
use Rattle.std.proofs.lemmas.List.Edits.{get_or-between, length-between}
use Rattle.std.proofs.lemmas.List.Sorted.{searchable_from_sorted}
use Rattle.eden_messages.specs.declared.message.Request.{Request}
use Rattle.eden_messages.specs.Mirrors.{query_of}
use Rattle.eden_follow.specs.declared.rows.RequestRow.{RequestRow}
use Rattle.eden_follow.specs.declared.rows.ReplyRow.{ReplyRow}
use Rattle.eden_follow.specs.internal.Orders.{AreInOrder, IsGroup, path_in, question_cmp}
use Rattle.eden_follow.specs.internal.Rows.{asked}

-- ---- a group between two points

module _ {X : Type 0} (IsIt : X → Type 0) (first upto : X → Bool) (not_first : (x : X) → first x ≡ true → IsIt x → ⊥) (not_last : (x : X) → upto x ≡ false → IsIt x → ⊥)
    (wider : (x : X) → first x ≡ true → upto x ≡ true) where
  ordered : (xs : List X) (start end : ℕ) → IsPartitionPoint (λ x. first x ≡ true) (λ x. first x ≡ false) xs start
      → IsPartitionPoint (λ x. upto x ≡ true) (λ x. upto x ≡ false) xs end → start ≤ length xs → start ≤ end
  ordered [] start end starts ends within = omega arith
  ordered (x ∷ xs) start end starts ends within = by (leb_tells start end)
    where
      by : ((nat_le start end ≡ true) × (start ≤ end)) ⊎ ((nat_le start end ≡ false) × (end < start)) → start ≤ end
      by (inl p) = p.1
      by (inr p) =
          let late = p.1 in
          let yes_upto : upto (get_or (x ∷ xs) end x) ≡ true = wider (get_or (x ∷ xs) end x) (starts.0 end x (omega arith) late) in
          let not_upto : upto (get_or (x ∷ xs) end x) ≡ false = ends.1 end x (omega arith) (omega arith) in
          absurd (cc (yes_upto, not_upto))

  pub grouped : (xs : List X) (start end : ℕ) → IsPartitionPoint (λ x. first x ≡ true) (λ x. first x ≡ false) xs start
      → IsPartitionPoint (λ x. upto x ≡ true) (λ x. upto x ≡ false) xs end → start ≤ length xs → end ≤ length xs → IsGroup IsIt xs start end
  grouped xs start end starts ends within bound =
      record {
        order = ordered xs start end starts ends within;
        bound = bound;
        before = λ k d h is. not_first (get_or xs k d) (starts.0 k d (omega arith) h) is;
        behind = λ k d h lt is. not_last (get_or xs k d) (ends.1 k d h lt) is;
      }

-- what holds of the group, and of all that are not in it, holds of all
pub all_of : {X : Type 0} (IsIt Holds : X → Type 0) (xs : List X) (start end : ℕ) → IsGroup IsIt xs start end → ((x : X) → (IsIt x → ⊥) → Holds x)
    → All Holds (between start end xs) → All Holds xs
all_of IsIt Holds xs start end group other all k d h = by (leb_tells start k) (leb_tells end k)
  where
    by : ((nat_le start k ≡ true) × (start ≤ k)) ⊎ ((nat_le start k ≡ false) × (k < start)) → ((nat_le end k ≡ true) × (end ≤ k)) ⊎ ((nat_le end k ≡ false) × (k < end))
        → Holds (get_or xs k d)
    by (inr p) q = other (get_or xs k d) (group.before k d p.1)
    by (inl p) (inl q) = other (get_or xs k d) (group.behind k d q.1 h)
    by (inl p) (inr q) =
        let low = p.1 in
        let high = q.1 in
        let at : start + (k - start) ≡ k = omega arith in
        subst (λ (n : ℕ). Holds (get_or xs n d)) at
        (subst Holds (get_or-between xs start end (k - start) d (omega arith)) (all (k - start) d (omega (arith, length-between xs start end group.bound))))

-- what holds of all holds of a part
pub all_in : {X : Type 0} (Holds : X → Type 0) (xs : List X) (start end : ℕ) → end ≤ length xs → All Holds xs → All Holds (between start end xs)
all_in Holds xs start end bound all k d h =
    let many = length-between xs start end bound in
    subst Holds (sym (get_or-between xs start end k d (omega (arith, many, h)))) (all (start + k) d (omega (arith, many, h)))

-- and what a part has, all have
pub part_of : {X : Type 0} (xs : List X) (start end : ℕ) (x : X) → end ≤ length xs → Contains (between start end xs) x → Contains xs x
part_of xs start end x bound (k, h, e) =
    let many = length-between xs start end bound in
    (start + k, omega (arith, many, h), sym (get_or-between xs start end k x (omega (arith, many, h))) ∙ e)

-- ---- by ticket

pub under : (rows : List ReplyRow) (ticket start end : ℕ) → IsPartitionPoint (λ (row : ReplyRow). nat_lt row.ticket ticket ≡ true) (λ (row : ReplyRow). nat_lt row.ticket ticket ≡ false) rows start
    → IsPartitionPoint (λ (row : ReplyRow). nat_le row.ticket ticket ≡ true) (λ (row : ReplyRow). nat_le row.ticket ticket ≡ false) rows end → start ≤ length rows → end ≤ length rows
    → IsGroup (λ (row : ReplyRow). row.ticket ≡ ticket) rows start end
under rows ticket start end =
    grouped (λ (row : ReplyRow). row.ticket ≡ ticket) (λ row. nat_lt row.ticket ticket) (λ row. nat_le row.ticket ticket)
    (λ row h e. below row.ticket h e) (λ row h e. above row.ticket (leb_tells row.ticket ticket) h e) (λ row h. within row.ticket h) rows start end
  where
    below : (n : ℕ) → nat_lt n ticket ≡ true → n ≡ ticket → ⊥
    below n h e = let lt = ltb-true n ticket h in omega (arith, lt, e)

    above : (n : ℕ) → ((nat_le n ticket ≡ true) × (n ≤ ticket)) ⊎ ((nat_le n ticket ≡ false) × (ticket < n)) → nat_le n ticket ≡ false → n ≡ ticket → ⊥
    above n (inl p) h e = cc (p.0, h)
    above n (inr p) h e = omega (arith, p.1, e)

    within : (n : ℕ) → nat_lt n ticket ≡ true → nat_le n ticket ≡ true
    within n h = by (leb_tells n ticket)
      where
        by : ((nat_le n ticket ≡ true) × (n ≤ ticket)) ⊎ ((nat_le n ticket ≡ false) × (ticket < n)) → nat_le n ticket ≡ true
        by (inl p) = p.0
        by (inr p) = let lt = ltb-true n ticket h in absurd (omega (arith, lt, p.1))

-- ---- by question

pub question_total : IsTotalOrder question_cmp
question_total =
    then_total (then_total (then_total (on_total (λ (r : Request). (query_of r).mirror) nat_cmp_total) (on_total (λ (r : Request). (query_of r).life) nat_cmp_total))
    (on_total (λ (r : Request). (query_of r).number) nat_cmp_total)) (on_total path_in nat_list_cmp_total)

less_low : (o : Ordering) → is_lt o ≡ true → ordering_index o ≤ 0
less_low Less e = omega arith
less_low Equal e = absurd (cc e)
less_low Greater e = absurd (cc e)

low_less : (o : Ordering) → ordering_index o ≤ 0 → is_lt o ≡ true
low_less Less h = refl
low_less Equal h = absurd (omega arith)
low_less Greater h = absurd (omega arith)

within_low : (o : Ordering) → is_le o ≡ true → ordering_index o ≤ 1
within_low Less e = omega arith
within_low Equal e = omega arith
within_low Greater e = absurd (cc e)

low_within : (o : Ordering) → ordering_index o ≤ 1 → is_le o ≡ true
low_within Less h = refl
low_within Equal h = refl
low_within Greater h = absurd (omega arith)

less_within : (o : Ordering) → is_lt o ≡ true → is_le o ≡ true
less_within Less e = refl
less_within Equal e = refl
less_within Greater e = absurd (cc e)

search_by : (rows : List RequestRow) (request : Request) → AreInOrder rows → IsNonDecreasingBy (λ (row : RequestRow). ordering_index (question_cmp row.request.now request)) rows
search_by rows request sorted = searchable_from_sorted question_total (λ (row : RequestRow). row.request.now) rows request sorted

low_enough : (a b n : ℕ) → a ≤ b → b ≤ n → a ≤ n
low_enough a b n h k = omega arith

pub before_parted : (rows : List RequestRow) (request : Request) → AreInOrder rows → IsPartitionedBy (λ (row : RequestRow). is_lt (question_cmp row.request.now request)) rows
before_parted rows request sorted i j d h lt e =
    low_less (question_cmp (get_or rows i d).request.now request)
    (low_enough (ordering_index (question_cmp (get_or rows i d).request.now request)) (ordering_index (question_cmp (get_or rows j d).request.now request)) 0
    (search_by rows request sorted i j d h lt) (less_low (question_cmp (get_or rows j d).request.now request) e))

pub upto_parted : (rows : List RequestRow) (request : Request) → AreInOrder rows → IsPartitionedBy (λ (row : RequestRow). is_le (question_cmp row.request.now request)) rows
upto_parted rows request sorted i j d h lt e =
    low_within (question_cmp (get_or rows i d).request.now request)
    (low_enough (ordering_index (question_cmp (get_or rows i d).request.now request)) (ordering_index (question_cmp (get_or rows j d).request.now request)) 1
    (search_by rows request sorted i j d h lt) (within_low (question_cmp (get_or rows j d).request.now request) e))

pub questioned : (rows : List RequestRow) (request : Request) (start end : ℕ)
    → IsPartitionPoint (λ (row : RequestRow). is_lt (question_cmp row.request.now request) ≡ true) (λ (row : RequestRow). is_lt (question_cmp row.request.now request) ≡ false) rows start
    → IsPartitionPoint (λ (row : RequestRow). is_le (question_cmp row.request.now request) ≡ true) (λ (row : RequestRow). is_le (question_cmp row.request.now request) ≡ false) rows end
    → start ≤ length rows → end ≤ length rows → IsGroup (λ (row : RequestRow). row.request.now ≡ request) rows start end
questioned rows request start end =
    grouped (λ (row : RequestRow). row.request.now ≡ request) (λ row. is_lt (question_cmp row.request.now request)) (λ row. is_le (question_cmp row.request.now request))
    (λ row h e. not_less row.request.now h e) (λ row h e. not_more row.request.now h e) (λ row h. less_within (question_cmp row.request.now request) h) rows start end
  where
    tied : (r : Request) → r ≡ request → question_cmp r request ≡ Equal
    tied r e = subst (λ (x : Request). question_cmp x request ≡ Equal) (sym e) (tied_itself question_total request)

    not_less : (r : Request) → is_lt (question_cmp r request) ≡ true → r ≡ request → ⊥
    not_less r h e = let bad : false ≡ true = sym (ap is_lt (tied r e)) ∙ h in cc bad

    not_more : (r : Request) → is_le (question_cmp r request) ≡ false → r ≡ request → ⊥
    not_more r h e = let bad : true ≡ false = sym (ap is_le (tied r e)) ∙ h in cc bad

-- marking leaves rows in order
pub still_in_order : (before after : List RequestRow) → map asked after ≡ map asked before → AreInOrder before → AreInOrder after
still_in_order before after same sorted k d low h =
    subst (λ (r : Request). is_lt (question_cmp r (get_or after k d).request.now) ≡ false) (sym (at (k + 1)))
    (subst (λ (r : Request). is_lt (question_cmp (get_or before (k + 1) d).request.now r) ≡ false) (sym (at k)) (sorted k d low (many h)))
  where
    at : (n : ℕ) → (get_or after n d).request.now ≡ (get_or before n d).request.now
    at n = ap (λ p. p.1) (sym (get_or-map asked after n d) ∙ ap (λ rows. get_or rows n (asked d)) same ∙ get_or-map asked before n d)

    many : k + 1 < length after → k + 1 < length before
    many h = omega (arith, h, sym (length-map after asked) ∙ ap length same ∙ length-map before asked)
