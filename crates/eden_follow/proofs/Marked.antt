-- Rows that are marked where their requests were sent.
use Rattle.std.proofs.Common.{◌≡◌, ◌≢◌, ◌<◌, ◌≤◌, ◌⊎◌, inl, inr, ℕ, ◌+◌, true, false, nat_le, List, [], ◌∷◌, ◌++◌, length, map, get_or, set, take, append_assoc, sym, ap, subst, ◌∙◌, arith}
use Rattle.std.specs.Prelude.{All, Contains, Option, nat_eq}
use Rattle.std.proofs.Math.ListN.{length-set}
use Rattle.std.proofs.Math.Seq.{map-set_same}
use Rattle.std.specs.List.{between}
use Rattle.std.proofs.lemmas.Bool.Decides.{eqb_tells, leb_tells}
use Rattle.std.proofs.lemmas.Grind.{get_or-set_at}
use Rattle.std.proofs.lemmas.List.{get_or-map, get_or-set_other, length-map}
use Rattle.eden_logs.proofs.Covered.{cons_cases, here, nowhere, taken_at, there}
use Rattle.std.proofs.lemmas.List.Elements.{All-contains, All-more, All-weaker, Contains-append_cases, Contains-append_left, Contains-push_cases}
use Rattle.eden_messages.specs.declared.message.Reply.{Reply}
use Rattle.eden_messages.specs.declared.message.Request.{Request}
use Rattle.eden_follow.specs.declared.rows.RequestRow.{RequestRow}
use Rattle.eden_follow.specs.declared.rows.ReplyRow.{ReplyRow}
use Rattle.eden_follow.specs.internal.Orders.{IsGroup}
use Rattle.eden_follow.specs.internal.Rows.{HasLate, HasLow, IsAbove, IsLateRow, IsMarked, IsTimelyRow, asked, told}
use Rattle.eden_follow.proofs.Grouped.{all_of, part_of}

-- ---- a row

pub marked_other : (sent : List Request) (request : Request) (row : RequestRow) → (row.request.now ≡ request → ⊥) → IsMarked sent row → IsMarked (sent ++ request ∷ []) row
marked_other sent request row apart is =
    record {
      there = λ e. Contains-append_left sent (request ∷ []) row.request.now (is.there e);
      marked = λ c. by (Contains-push_cases sent request row.request.now c);
    }
  where
    by : Contains sent row.request.now ⊎ (request ≡ row.request.now) → row.sent ≡ true
    by (inl old) = is.marked old
    by (inr e) = absurd (apart (sym e))

marked_still : (sent : List Request) (request : Request) (row : RequestRow) → Contains sent request → IsMarked sent row → IsMarked (sent ++ request ∷ []) row
marked_still sent request row old is =
    record {
      there = λ e. Contains-append_left sent (request ∷ []) row.request.now (is.there e);
      marked = λ c. by (Contains-push_cases sent request row.request.now c);
    }
  where
    by : Contains sent row.request.now ⊎ (request ≡ row.request.now) → row.sent ≡ true
    by (inl there) = is.marked there
    by (inr e) = is.marked (subst (Contains sent) e old)

-- of a request that was sent before
pub marked_again : (sent : List Request) (request : Request) (rows : List RequestRow) → Contains sent request → All (IsMarked sent) rows → All (IsMarked (sent ++ request ∷ [])) rows
marked_again sent request rows old marked =
    All-weaker (IsMarked sent) (IsMarked (sent ++ request ∷ [])) (λ row is. marked_still sent request row old is) rows marked

-- ---- what rows have

pub mapped : {A B : Type 0} (f : A → B) (xs : List A) (x : A) → Contains xs x → Contains (map f xs) (f x)
mapped f xs x c = (c.0, omega (arith, length-map xs f, c.1), get_or-map f xs c.0 x (f x) c.1 ∙ ap f c.2)

pub from_mapped : {A B : Type 0} (f : A → B) (xs : List A) (y : B) → Contains (map f xs) y → (x : A) × (Contains xs x × (f x ≡ y))
from_mapped f [] y c = absurd (nowhere y c)
from_mapped f (x ∷ xs) y c =
    elim (cons_cases (f x) (map f xs) y c) [
      | inl e ↦ (x, (here x xs, e))
      | inr k ↦ let rest = from_mapped f xs y k in (rest.0, (there x xs rest.0 rest.1.0, rest.1.1))
    ]

pub timely_row : (rows : List RequestRow) (request : Request) (highest : Option ℕ) → All (λ (row : RequestRow). row.request.now ≡ request → IsAbove highest row.ticket) rows
    → (ticket : ℕ) → Contains (map asked rows) (ticket, request) → IsAbove highest ticket
timely_row rows request highest above ticket c =
    let found = from_mapped asked rows (ticket, request) c in
    subst (IsAbove highest) (ap (λ p. p.0) found.1.1)
    (All-contains (λ (row : RequestRow). row.request.now ≡ request → IsAbove highest row.ticket) rows found.0 above found.1.0 (ap (λ p. p.1) found.1.1))

pub late_row : (rows : List RequestRow) (sent : List Request) (request : Request) (highest : Option ℕ) → All (IsMarked sent) rows
    → All (λ (row : RequestRow). row.request.now ≡ request → row.sent ≡ false) rows → HasLow rows request highest → IsLateRow (map asked rows) sent highest request
late_row rows sent request highest marked unsent low =
    record {
      first = λ c. never (All-contains (IsMarked sent) rows low.row marked low.there) c;
      ticket = low.row.ticket;
      there = subst (λ (r : Request). Contains (map asked rows) (low.row.ticket, r)) low.same (mapped asked rows low.row low.there);
      late = low.late;
    }
  where
    never : IsMarked sent low.row → Contains sent request → ⊥
    never is c =
        let marked_so : low.row.sent ≡ true = is.marked (subst (Contains sent) (sym low.same) c) in
        let unmarked : low.row.sent ≡ false = All-contains (λ (row : RequestRow). row.request.now ≡ request → row.sent ≡ false) rows low.row unsent low.there low.same in
        cc (marked_so, unmarked)

pub none_told : (rows : List ReplyRow) (ticket : ℕ) (reply : Reply) → All (λ (row : ReplyRow). row.ticket ≡ ticket → row.reply.now ≡ reply → ⊥) rows
    → Contains (map told rows) (ticket, reply) → ⊥
none_told rows ticket reply none c =
    let found = from_mapped told rows (ticket, reply) c in
    All-contains (λ (row : ReplyRow). row.ticket ≡ ticket → row.reply.now ≡ reply → ⊥) rows found.0 none found.1.0 (ap (λ p. p.0) found.1.1) (ap (λ p. p.1) found.1.1)

-- ---- one row marked after another

-- a row is put in place of the one at an index
module _ (request : Request) (first rows : List RequestRow) (i : ℕ) (e new : RequestRow) (within : i < length rows) (many : length rows ≡ length first)
    (same : asked new ≡ asked (get_or rows i e)) (marks : (sent : List Request) → IsMarked sent (get_or rows i e) → IsMarked (sent ++ request ∷ []) new) where
  pub set_rows : map asked rows ≡ map asked first → map asked (set rows i new) ≡ map asked first
  set_rows so_far = map-set_same asked rows i new e same ∙ so_far

  pub set_done : ((k : ℕ) (d : RequestRow) → i ≤ k → k < length rows → get_or rows k d ≡ get_or first k d)
      → ((sent : List Request) → All (IsMarked sent) first → (k : ℕ) (d : RequestRow) → k < i → IsMarked (sent ++ request ∷ []) (get_or rows k d))
      → (sent : List Request) → All (IsMarked sent) first → (k : ℕ) (d : RequestRow) → k < i + 1 → IsMarked (sent ++ request ∷ []) (get_or (set rows i new) k d)
  set_done left done sent marked k d h = by (eqb_tells k i)
    where
      now : IsMarked sent (get_or rows i e)
      now = subst (IsMarked sent) (sym (left i e (omega arith) within)) (marked i e (omega arith))

      by : ((nat_eq k i ≡ true) × (k ≡ i)) ⊎ ((nat_eq k i ≡ false) × (k ≢ i)) → IsMarked (sent ++ request ∷ []) (get_or (set rows i new) k d)
      by (inl p) = subst (IsMarked (sent ++ request ∷ [])) (sym (get_or-set_at rows i k new d p.1 within)) (marks sent now)
      by (inr p) = subst (IsMarked (sent ++ request ∷ [])) (sym (get_or-set_other rows i k new d p.1)) (done sent marked k d (let apart = p.1 in omega arith))

  pub set_left : ((k : ℕ) (d : RequestRow) → i ≤ k → k < length rows → get_or rows k d ≡ get_or first k d)
      → (k : ℕ) (d : RequestRow) → i + 1 ≤ k → k < length (set rows i new) → get_or (set rows i new) k d ≡ get_or first k d
  set_left left k d h lt =
      get_or-set_other rows i k new d (λ e. omega (arith, e, h)) ∙ left k d (omega arith) (omega (arith, length-set rows i new))

-- the rows of the request are all between two places
module _ (request : Request) (first : List RequestRow) (start end : ℕ) (group : IsGroup (λ (row : RequestRow). row.request.now ≡ request) first start end) where
  pub none_done : (sent : List Request) → All (IsMarked sent) first → (k : ℕ) (d : RequestRow) → k < start → IsMarked (sent ++ request ∷ []) (get_or first k d)
  none_done sent marked k d h = marked_other sent request (get_or first k d) (group.before k d h) (marked k d (omega (arith, group.order, group.bound)))

  pub all_done : (rows : List RequestRow) (at : ℕ) → end ≤ at → length rows ≡ length first
      → ((sent : List Request) → All (IsMarked sent) first → (k : ℕ) (d : RequestRow) → k < at → IsMarked (sent ++ request ∷ []) (get_or rows k d))
      → ((k : ℕ) (d : RequestRow) → at ≤ k → k < length rows → get_or rows k d ≡ get_or first k d)
      → (sent : List Request) → All (IsMarked sent) first → All (IsMarked (sent ++ request ∷ [])) rows
  all_done rows at over many done left sent marked k d h = by (leb_tells at k)
    where
      by : ((nat_le at k ≡ true) × (at ≤ k)) ⊎ ((nat_le at k ≡ false) × (k < at)) → IsMarked (sent ++ request ∷ []) (get_or rows k d)
      by (inr p) = done sent marked k d p.1
      by (inl p) =
          let low = p.1 in
          subst (IsMarked (sent ++ request ∷ [])) (sym (left k d low h))
          (marked_other sent request (get_or first k d) (group.behind k d (omega arith) (omega arith)) (marked k d (omega arith)))

  -- what the group says, all rows say
  pub all_unsent : All (λ (row : RequestRow). row.request.now ≡ request → row.sent ≡ false) (between start end first)
      → All (λ (row : RequestRow). row.request.now ≡ request → row.sent ≡ false) first
  all_unsent =
      all_of (λ (row : RequestRow). row.request.now ≡ request) (λ (row : RequestRow). row.request.now ≡ request → row.sent ≡ false) first start end group (λ row apart is. absurd (apart is))

  pub all_above : (highest : Option ℕ) → All (λ (row : RequestRow). row.request.now ≡ request → IsAbove highest row.ticket) (between start end first)
      → All (λ (row : RequestRow). row.request.now ≡ request → IsAbove highest row.ticket) first
  all_above highest =
      all_of (λ (row : RequestRow). row.request.now ≡ request) (λ (row : RequestRow). row.request.now ≡ request → IsAbove highest row.ticket) first start end group (λ row apart is. absurd (apart is))

  pub low_in : (highest : Option ℕ) → HasLow (between start end first) request highest → HasLow first request highest
  low_in highest low = record { row = low.row; there = part_of first start end low.row group.bound low.there; same = low.same; late = low.late }

-- the rows of a ticket are all between two places
module _ (ticket : ℕ) (reply : Reply) (rows : List ReplyRow) (start end : ℕ) (group : IsGroup (λ (row : ReplyRow). row.ticket ≡ ticket) rows start end) where
  pub told_in_all : Contains (map told (between start end rows)) (ticket, reply) → Contains (map told rows) (ticket, reply)
  told_in_all c =
      let found = from_mapped told (between start end rows) (ticket, reply) c in
      subst (Contains (map told rows)) found.1.1 (mapped told rows found.0 (part_of rows start end found.0 group.bound found.1.0))

  pub untold_in_all : All (λ (row : ReplyRow). row.ticket ≡ ticket → row.reply.now ≡ reply → ⊥) (between start end rows)
      → All (λ (row : ReplyRow). row.ticket ≡ ticket → row.reply.now ≡ reply → ⊥) rows
  untold_in_all =
      all_of (λ (row : ReplyRow). row.ticket ≡ ticket) (λ (row : ReplyRow). row.ticket ≡ ticket → row.reply.now ≡ reply → ⊥) rows start end group (λ row apart is. absurd (apart is))

-- ---- several requests that are sent together

pub timely_among : (rows : List (ℕ × Request)) (sent before : List Request) (highest : Option ℕ) (request : Request) → All (IsTimelyRow rows sent highest) before
    → IsTimelyRow rows (sent ++ before) highest request → IsTimelyRow rows sent highest request
timely_among rows sent before highest request all (inr above) = inr above
timely_among rows sent before highest request all (inl c) =
    elim (Contains-append_cases sent before request c) [
      | inl old ↦ inl old
      | inr k ↦ All-contains (IsTimelyRow rows sent highest) before request all k
    ]

pub late_among : (rows : List (ℕ × Request)) (sent before requests : List Request) (highest : Option ℕ) (request : Request) → Contains requests request
    → IsLateRow rows (sent ++ before) highest request → HasLate rows sent highest requests
late_among rows sent before requests highest request there late =
    record {
      request = request;
      there = there;
      is_late = record { first = λ c. late.first (Contains-append_left sent before request c); ticket = late.ticket; there = late.there; late = late.late };
    }

-- with the next of the requests
pub sent_next : (rows : List RequestRow) (sent requests : List Request) (i : ℕ) (request : Request) → i < length requests → request ≡ get_or requests i request
    → All (IsMarked ((sent ++ take i requests) ++ request ∷ [])) rows → All (IsMarked (sent ++ take (i + 1) requests)) rows
sent_next rows sent requests i request h same marked =
    subst (λ (rs : List Request). All (IsMarked rs) rows)
    (append_assoc sent (take i requests) (request ∷ []) ∙ ap (λ rs. sent ++ rs) (sym (taken_at requests i request h same))) marked

pub timely_next : (rows : List (ℕ × Request)) (sent requests : List Request) (highest : Option ℕ) (i : ℕ) (request : Request) → i < length requests → request ≡ get_or requests i request
    → All (IsTimelyRow rows sent highest) (take i requests) → IsTimelyRow rows (sent ++ take i requests) highest request
    → All (IsTimelyRow rows sent highest) (take (i + 1) requests)
timely_next rows sent requests highest i request h same all now =
    All-more (IsTimelyRow rows sent highest) requests i request h all
    (subst (IsTimelyRow rows sent highest) same (timely_among rows sent (take i requests) highest request all now))
