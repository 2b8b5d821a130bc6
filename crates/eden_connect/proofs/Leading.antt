-- Where connections lead a client, one more after some.
use Rattle.std.proofs.Common.{◌≡◌, ℕ, ◌+◌, ◌<◌, ◌≤◌, inl, inr, List, [], ◌∷◌, ◌++◌, Option, refl, sym, ap, subst, ◌∙◌, arith}
use Rattle.std.specs.Prelude.{None, Some}
use Rattle.eden_messages.specs.declared.message.Reply.{Reply}
use Rattle.eden_messages.specs.Mirrors.{MirrorState, begun}
use Rattle.eden_mirror.specs.Counting.{after}
use Rattle.eden_connect.specs.Connections.{Along, Brings, BringsAll, Client, Event, FollowsOver, IsCutOff, replies_of, tries_of}
use Rattle.eden_connect.specs.Connections.Event.{Dials, Comes, Loses}
use Rattle.eden_connect.specs.Rounds.{HasEnded}
use Rattle.eden_connect.specs.internal.Talks.{Leads, ReceivesAll, Resumes, Talks}
use Rattle.eden_connect.proofs.Following.{after-append, ended_more, follows_more, follows_none}

-- ---- events

replies_append : (events more : List Event) → replies_of (events ++ more) ≡ replies_of events ++ replies_of more
replies_append [] more = refl
replies_append (Dials made ∷ events) more = replies_append events more
replies_append (Comes reply ∷ events) more = ap (λ l. reply ∷ l) (replies_append events more)
replies_append (Loses ∷ events) more = replies_append events more

tries_append : (events more : List Event) → tries_of (events ++ more) ≡ tries_of events + tries_of more
tries_append [] more = omega arith
tries_append (Dials made ∷ events) more = omega (arith, tries_append events more)
tries_append (Comes reply ∷ events) more = tries_append events more
tries_append (Loses ∷ events) more = tries_append events more

abbrev comes : List Reply → List Event
comes [] = []
comes (reply ∷ replies) = Comes reply ∷ comes replies

replies_comes : (replies : List Reply) → replies_of (comes replies) ≡ replies
replies_comes [] = refl
replies_comes (reply ∷ replies) = ap (λ l. reply ∷ l) (replies_comes replies)

tries_comes : (replies : List Reply) → tries_of (comes replies) ≡ 0
tries_comes [] = refl
tries_comes (reply ∷ replies) = tries_comes replies

module _ {D : Type 0} (dials : D → Option (Option (List ℕ)) → D → Type 0) where
  abbrev pub at : D → Option (Option (List ℕ)) → Client D
  at d left = record { dial = d; left = left }

  along_append : (events more : List Event) (a b c : Client D) → Along dials events a b → Along dials more b c → Along dials (events ++ more) a c
  along_append [] more a b c none next = subst (λ x. Along dials more x c) none next
  along_append (event ∷ events) more a b c past next = (past.0, past.1, along_append events more past.0 b c past.2 next)

  along_comes : (d : D) (got got' : Option (List ℕ)) (replies : List Reply)
      → ReceivesAll got got' replies → Along dials (comes replies) (at d (Some got)) (at d (Some got'))
  along_comes d got got' [] none = ap (λ x. at d (Some x)) none
  along_comes d got got' (reply ∷ replies) came = (at d (Some came.0), (refl, came.1), along_comes d came.0 got' replies came.2)

  -- ---- over one connection

  talks_lead : (d : D) (got : Option (List ℕ)) (kept : Option (Option (List ℕ))) (m m' : MirrorState)
      → Talks got kept m m' → Leads dials 0 (at d (Some got)) (at d kept) m m'
  talks_lead d got None m m' some =
      let replies = some.1.replies in
      record {
        events = comes replies ++ Loses ∷ [];
        along = along_append (comes replies) (Loses ∷ []) (at d (Some got)) (at d (Some some.0)) (at d None)
            (along_comes d got some.0 replies some.1.came) (at d None, (refl, refl), refl);
        count = tries_append (comes replies) (Loses ∷ []) ∙ ap (λ n. n + 0) (tries_comes replies);
        taken = some.1.taken ∙ ap (after m) (sym (replies_append (comes replies) (Loses ∷ []) ∙ by replies));
        ended = inl refl;
      }
    where
      by : (replies : List Reply) → replies_of (comes replies) ++ [] ≡ replies
      by [] = refl
      by (reply ∷ replies) = ap (λ l. reply ∷ l) (by replies)
  talks_lead d got (Some got') m m' all = record {
    events = comes all.heard.replies;
    along = along_comes d got got' all.heard.replies all.heard.came;
    count = tries_comes all.heard.replies;
    taken = all.heard.taken ∙ ap (after m) (sym (replies_comes all.heard.replies));
    ended = inr (subst (HasEnded m) (sym (replies_comes all.heard.replies)) all.ended);
  }

  pub resumes_lead : (d : D) (left kept : Option (Option (List ℕ))) (m m' : MirrorState)
      → Resumes left kept m m' → Leads dials 0 (at d left) (at d kept) m m'
  resumes_lead d None kept m m' none = record { events = []; along = ap (at d) none.0; count = refl; taken = none.1; ended = inl none.0 }
  resumes_lead d (Some got) kept m m' talks = talks_lead d got kept m m' talks

  -- ---- over one more

  pub dialled_leads : (d d' : D) (got : Option (List ℕ)) (kept : Option (Option (List ℕ))) (m m' : MirrorState)
      → dials d (Some got) d' → Talks got kept m m' → Leads dials 1 (at d None) (at d' kept) m m'
  dialled_leads d d' got kept m m' made talks =
      let lead = talks_lead d' got kept m m' talks in
      record {
        events = Dials (Some got) ∷ lead.events;
        along = (at d' (Some got), (made, refl), lead.along);
        count = ap (λ n. n + 1) lead.count;
        taken = lead.taken;
        ended = lead.ended;
      }

  pub refused_leads : (d d' : D) (m : MirrorState) → dials d None d' → Leads dials 1 (at d None) (at d' None) m m
  refused_leads d d' m made = record {
    events = Dials None ∷ [];
    along = (at d' None, (made, refl), refl);
    count = refl;
    taken = refl;
    ended = inl refl;
  }

  pub leads_more : (i j : ℕ) (a b c : Client D) (m n o : MirrorState) → Leads dials i a b m n → Leads dials j b c n o → Leads dials (i + j) a c m o
  leads_more i j a b c m n o past next = record {
    events = past.events ++ next.events;
    along = along_append past.events next.events a b c past.along next.along;
    count = omega (arith, tries_append past.events next.events, past.count, next.count);
    taken = next.taken ∙ ap (λ s. after s (replies_of next.events)) past.taken
        ∙ sym (ap (after m) (replies_append past.events next.events) ∙ after-append m (replies_of past.events) (replies_of next.events));
    ended = elim next.ended [
      | inl none ↦ inl none
      | inr end ↦ inr (subst (HasEnded m) (sym (replies_append past.events next.events))
          (ended_more m (replies_of past.events) (replies_of next.events) (subst (λ s. HasEnded s (replies_of next.events)) past.taken end)))
    ];
  }

  -- ---- rounds

  brings_snoc : (heard : List (List Reply)) (replies : List Reply) (a b c : Client D)
      → BringsAll dials heard a b → Brings dials b c replies → BringsAll dials (heard ++ replies ∷ []) a c
  brings_snoc [] replies a b c none next = (c, subst (λ x. Brings dials x c replies) none next, refl)
  brings_snoc (first ∷ heard) replies a b c past next = (past.0, past.1, brings_snoc heard replies past.0 b c past.2 next)

  pub follows_over_none : (a : Client D) (m : MirrorState) → FollowsOver dials 0 a a m m
  follows_over_none a m = record { followed = follows_none m; came = refl }

  pub follows_over_more : (rounds tries : ℕ) (a b c : Client D) (got : Option (List ℕ)) (m n o : MirrorState)
      → FollowsOver dials rounds a b m n → tries ≤ 16 → Leads dials tries b c (begun n) o → c.left ≡ Some got → FollowsOver dials (rounds + 1) a c m o
  follows_over_more rounds tries a b c got m n o past few lead there = record {
    followed = follows_more m n o rounds past.followed (replies_of lead.events) lead.taken ended;
    came = brings_snoc past.followed.heard (replies_of lead.events) a b c past.came
        (record { events = lead.events; along = lead.along; tries = omega (arith, lead.count, few); brought = refl });
  }
    where
      ended : HasEnded (begun n) (replies_of lead.events)
      ended = elim lead.ended [
        | inl none ↦ absurd (by (sym none ∙ there))
        | inr end ↦ end
      ]
        where
          by : ¬ (None ≡ Some got)
          by e = cc

  pub cut_off : (done rounds : ℕ) (a b c : Client D) (m n o : MirrorState)
      → FollowsOver dials done a b m n → done < rounds → Leads dials 16 b c (begun n) o → c.left ≡ None → IsCutOff dials rounds a c m
  cut_off done rounds a b c m n o past fewer lead none = record {
    done = done;
    fewer = fewer;
    before = b;
    mirror = n;
    past = past;
    events = lead.events;
    along = lead.along;
    tries = lead.count;
    lost = none;
  }
