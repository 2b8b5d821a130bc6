-- Requests that went out and replies that came in, one more after some.
use Rattle.std.proofs.Common.{◌≡◌, ℕ, ◌+◌, ◌<◌, inl, inr, Bool, false, true, ◌||◌, List, [], ◌∷◌, ◌++◌, length, map, drop, Option, refl, sym, ap, ◌∙◌, subst, append_assoc, append-nil, arith, length-append}
use Rattle.std.proofs.KnownBytes.{Appends-nil, Appends-trans, Consumes-trans}
use Rattle.std.proofs.lemmas.Grind.{flat_map-append}
use Rattle.std.proofs.lemmas.List.{length-map, map-append}
use Rattle.std.specs.Int.{w32, to_be_bytes}
use Rattle.std.specs.List.{flat_map}
use Rattle.std.specs.Io.KnownBytes.{Appends, Consumes}
use Rattle.eden_stream.specs.Frames.{frame}
use Rattle.eden_messages.specs.declared.message.Request.{Request}
use Rattle.eden_messages.specs.declared.message.Reply.{Reply}
use Rattle.eden_messages.specs.Mirrors.{MirrorState, delivered, is_idle, outstanding_of}
use Rattle.eden_messages.specs.Spells.{request_bytes}
use Rattle.eden_mirror.specs.Counting.{after}
use Rattle.eden_connect.specs.Connections.{Receives}
use Rattle.eden_connect.specs.Rounds.{any_counts, counts}
use Rattle.eden_connect.specs.internal.Exchanges.{AsksInVain, Exchanges, Sends, Takes, frame_size, request_frame}
use Rattle.eden_connect.specs.internal.Talks.{Hears, HearsAll, ReceivesAll}
use Rattle.eden_connect.proofs.Following.{after-append, any_counts-snoc, receives_append}

receives_snoc : (a b c : Option (List ℕ)) (replies : List Reply) (reply : Reply)
    → ReceivesAll a b replies → Receives b c reply → ReceivesAll a c (replies ++ reply ∷ [])
receives_snoc a b c [] reply none next = (c, subst (λ x. Receives x c reply) none next, refl)
receives_snoc a b c (first ∷ replies) reply past next = (past.0, past.1, receives_snoc past.0 b c replies reply past.2 next)

pub takes_none : (got : Option (List ℕ)) (m : MirrorState) → Takes got got m m [] false
takes_none got m = record { came = refl; taken = refl; told = refl }

-- one more reply comes, and the mirror takes it
pub takes_more : (got1 got2 got3 : Option (List ℕ)) (m1 m2 m3 : MirrorState) (replies : List Reply) (reply : Reply) (before counted : Bool)
    → Takes got1 got2 m1 m2 replies before → Receives got2 got3 reply → m3 ≡ (delivered m2 reply).0 → counted ≡ counts (delivered m2 reply).1
    → Takes got1 got3 m1 m3 (replies ++ reply ∷ []) (before || counted)
takes_more got1 got2 got3 m1 m2 m3 replies reply before counted past next e told = record {
  came = receives_snoc got1 got2 got3 replies reply past.came next;
  taken = e ∙ ap (λ s. (delivered s reply).0) past.taken ∙ sym (after-append m1 replies (reply ∷ []));
  told = ap (λ b. b || counted) past.told ∙ ap (λ b. any_counts m1 replies || b) (told ∙ ap (λ s. counts (delivered s reply).1) past.taken)
      ∙ sym (any_counts-snoc m1 replies reply);
}

-- the four bytes of a length, and this many bytes
pub receives_frame : (a b c : Option (List ℕ)) (told body : List ℕ) (len : ℕ)
    → Consumes a b told → to_be_bytes w32 len ≡ told → length body ≡ len → Consumes b c body → Consumes a c (frame body)
unfolding frame
receives_frame a b c told body len first spelled same second =
    subst (λ l. Consumes a c (l ++ body)) (sym spelled ∙ ap (to_be_bytes w32) (sym same)) (Consumes-trans a b c told body first second)

-- ---- requests that are gathered

pub sized : (request : Request) (len : ℕ) → len ≡ length (request_bytes request) → 4 + len ≡ frame_size request
unfolding frame
sized request len e =
    ap (λ n. 4 + n) e ∙ sym (length-append (to_be_bytes w32 (length (request_bytes request))) (request_bytes request))

-- the first of the requests are
pub record IsGathered (window window' : List ℕ) (requests rest : List Request) (text text' : List ℕ) : Type 0 where
  pub first : List Request
  pub parted : requests ≡ first ++ rest
  pub noted : window' ≡ window ++ map frame_size first
  pub framed : text' ≡ text ++ flat_map request_frame first

one_sent : (request : Request) → flat_map request_frame (request ∷ []) ≡ request_frame request
one_sent request = append-nil (request_frame request)

sent_more : (first : List Request) (request : Request) → flat_map request_frame first ++ request_frame request ≡ flat_map request_frame (first ++ request ∷ [])
sent_more first request =
    sym (flat_map-append request_frame first (request ∷ []) ∙ ap (λ l. flat_map request_frame first ++ l) (one_sent request))

pub gathered_more : (w w1 w2 : List ℕ) (requests rest : List Request) (request : Request) (t t1 t2 : List ℕ) (size : ℕ)
    → IsGathered w w1 requests (request ∷ rest) t t1 → t2 ≡ t1 ++ request_frame request → size ≡ frame_size request → w2 ≡ w1 ++ size ∷ []
    → IsGathered w w2 requests rest t t2
gathered_more w w1 w2 requests rest request t t1 t2 size past framed sized noted = record {
  first = past.first ++ request ∷ [];
  parted = past.parted ∙ sym (append_assoc past.first (request ∷ []) rest);
  noted = noted ∙ ap (λ l. l ++ size ∷ []) past.noted ∙ append_assoc w (map frame_size past.first) (size ∷ [])
      ∙ ap (λ n. w ++ (map frame_size past.first ++ n ∷ [])) sized ∙ ap (λ l. w ++ l) (sym (map-append frame_size past.first (request ∷ [])));
  framed = framed ∙ ap (λ l. l ++ request_frame request) past.framed ∙ append_assoc t (flat_map request_frame past.first) (request_frame request)
      ∙ ap (λ l. t ++ l) (sent_more past.first request);
}

-- ---- an exchange

-- this many replies have come, and the requests in the window are not answered
pub record IsExchanging (window : List ℕ) (index : ℕ) (requests unsent : List Request) (sent sent' got got' : Option (List ℕ)) (m m' : MirrorState) (counted : Bool) : Type 0 where
  pub first : List Request
  pub replies : List Reply
  pub each : length replies ≡ index
  pub parted : requests ≡ first ++ unsent
  pub unanswered : length window + index ≡ length first
  pub went : Appends sent sent' (flat_map request_frame first)
  pub came : Takes got got' m m' replies counted

pub exchanging_none : (requests : List Request) (sent got : Option (List ℕ)) (m : MirrorState) → IsExchanging [] 0 requests requests sent sent got got m m false
exchanging_none requests sent got m = record {
  first = [];
  replies = [];
  each = refl;
  parted = refl;
  unanswered = refl;
  went = Appends-nil sent;
  came = takes_none got m;
}

length_drop : (l : List ℕ) → 0 < length l → length (drop 1 l) + 1 ≡ length l
length_drop [] e = absurd (omega (arith, e))
length_drop (x ∷ l) e = omega arith

pub exchanging_more : (w w1 : List ℕ) (i : ℕ) (requests unsent rest : List Request) (sent sent1 sent2 got got1 got2 : Option (List ℕ))
    (m m1 m2 : MirrorState) (reply : Reply) (before counted : Bool)
    → IsExchanging w i requests unsent sent sent1 got got1 m m1 before → i < length requests → Sends w w1 unsent rest sent1 sent2
    → Receives got1 got2 reply → m2 ≡ (delivered m1 reply).0 → counted ≡ counts (delivered m1 reply).1
    → IsExchanging (drop 1 w1) (i + 1) requests rest sent sent2 got got2 m m2 (before || counted)
exchanging_more w w1 i requests unsent rest sent sent1 sent2 got got1 got2 m m1 m2 reply before counted past more next come e told = record {
  first = past.first ++ next.first;
  replies = past.replies ++ reply ∷ [];
  each = length-append past.replies (reply ∷ []) ∙ ap (λ n. n + 1) past.each;
  parted = parted;
  unanswered = omega (arith, length_drop w1 taken, noted, both, past.unanswered);
  went = subst (Appends sent sent2) (sym (flat_map-append request_frame past.first next.first)) (Appends-trans sent sent1 sent2 _ _ past.went next.went);
  came = takes_more got got1 got2 m m1 m2 past.replies reply before counted past.came come e told;
}
  where
    parted : requests ≡ (past.first ++ next.first) ++ rest
    parted = past.parted ∙ ap (λ l. past.first ++ l) next.parted.parted ∙ sym (append_assoc past.first next.first rest)

    both : length (past.first ++ next.first) ≡ length past.first + length next.first
    both = length-append past.first next.first

    noted : length w1 ≡ length w + length next.first
    noted = ap (λ l. length l) next.parted.noted ∙ length-append w (map frame_size next.first) ∙ ap (λ n. length w + n) (length-map next.first frame_size)

    all : length requests ≡ length (past.first ++ next.first) + length rest
    all = ap (λ l. length l) parted ∙ length-append (past.first ++ next.first) rest

    by : (l : List ℕ) → w ≡ l → 0 < length w1
    by [] none = elim (next.parted.some none) [
      | inl last ↦ omega (arith, noted, all, both, past.unanswered, more, ap (λ l. length l) last)
      | inr some ↦ omega (arith, noted, some)
    ]
    by (x ∷ l) e = omega (arith, noted, ap (λ l. length l) e)

    taken : 0 < length w1
    taken = by w refl

-- ---- the end of a round

pub given_up : (requests : List Request) (sent sent' got got' : Option (List ℕ)) (before m' : MirrorState) (counted : Bool)
    → Exchanges requests sent sent' got got' before m' counted → requests ≡ outstanding_of before → counted ≡ false → AsksInVain sent' got' m'
given_up requests sent sent' got got' before m' counted last all none = record {
  sent = sent;
  got = got;
  before = before;
  last = subst (λ l. Exchanges l sent sent' got got' before m' false) all (subst (λ b. Exchanges requests sent sent' got got' before m' b) none last);
}

pub exchanges_heard : (requests : List Request) (sent sent' got got' : Option (List ℕ)) (m m' : MirrorState) (counted : Bool)
    → Exchanges requests sent sent' got got' m m' counted → Hears got got' m m'
exchanges_heard requests sent sent' got got' m m' counted all = record { replies = all.replies; came = all.came.came; taken = all.came.taken }

-- no reply counted of those that came for all that was outstanding
pub ended_vain : (a b c : Option (List ℕ)) (m n o : MirrorState) (requests : List Request) (sent sent' : Option (List ℕ)) (counted : Bool)
    → Hears a b m n → Exchanges requests sent sent' b c n o counted → requests ≡ outstanding_of n → counted ≡ false → HearsAll a c m o
ended_vain a b c m n o requests sent sent' counted past last all none = record {
  heard = record {
    replies = past.replies ++ last.replies;
    came = receives_append a b c past.replies last.replies past.came last.came.came;
    taken = last.came.taken ∙ ap (λ s. after s last.replies) past.taken ∙ sym (after-append m past.replies last.replies);
  };
  ended = inr (record {
    past = past.replies;
    last = last.replies;
    parted = refl;
    each = last.each ∙ ap (λ l. length l) all ∙ ap (λ s. length (outstanding_of s)) past.taken;
    none = ap (λ s. any_counts s last.replies) (sym past.taken) ∙ sym last.came.told ∙ none;
  });
}

pub ended_idle : (a c : Option (List ℕ)) (m o : MirrorState) → Hears a c m o → is_idle o.round ≡ true → HearsAll a c m o
ended_idle a c m o past idle = record { heard = past; ended = inl (subst (λ s. is_idle s.round ≡ true) past.taken idle) }
