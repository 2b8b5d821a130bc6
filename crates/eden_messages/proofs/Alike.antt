-- When `==` says that two messages are the same: if they are one.
use Rattle.std.proofs.Common.{◌≡◌, ap, rules}
use Rattle.std.specs.Bool.{Decides}
use Rattle.std.specs.Cmp.Lexicographic.{bytes_decides}
use Rattle.std.proofs.lemmas.Bool.Decides.{Decides-and, Decides-like}
use Rattle.eden_ids.proofs.Alike.{found_decides, paths_decide}
use Rattle.eden_globs.specs.Filters.{Patterns, same_filter}
use Rattle.eden_history.proofs.Alike.{marks_decide, position_decides}
use Rattle.eden_messages.specs.declared.message.Cause.{Cause}
use Rattle.eden_messages.specs.declared.message.Query.{Query}
use Rattle.eden_messages.specs.declared.message.Reply.{Reply}
use Rattle.eden_messages.specs.declared.message.Reply.TheVariants.{BasisIs, ChangesAre, ContentIs, Refused, ListIs}
use Rattle.eden_messages.specs.declared.message.Request.{Request}
use Rattle.eden_messages.specs.declared.message.Request.TheVariants.{Basis, Poll, Fetch, List as Below}
use Rattle.eden_messages.specs.contracts.message.CausePartialEq.TheImpl as cause
use Rattle.eden_messages.specs.contracts.message.QueryPartialEq.TheImpl as query
use Rattle.eden_messages.specs.contracts.message.ReplyPartialEq.TheImpl as reply
use Rattle.eden_messages.specs.contracts.message.RequestPartialEq.TheImpl as request

query_decides : (a b : Query) → Decides (query.ghosts.eq a b) (a ≡ b)
query_decides a b = search rules

cause_decides : (a b : Cause) → Decides (cause.ghosts.eq a b) (a ≡ b)
cause_decides a b = search rules

filters_decide : (f g : Patterns) → Decides (same_filter f g) (f ≡ g)
filters_decide f g =
    Decides-like _ (λ (h : (f.included ≡ g.included) × (f.excluded ≡ g.excluded)). λ i. record { included = h.0 i; excluded = h.1 i })
    (λ e. (ap (λ (k : Patterns). k.included) e, ap (λ (k : Patterns). k.excluded) e)) (Decides-and _ _ (paths_decide f.included g.included) (paths_decide f.excluded g.excluded))

pub request_decides : (a b : Request) → Decides (request.ghosts.eq a b) (a ≡ b)
request_decides (Basis q f) (Basis r g) =
    Decides-like _ (λ (h : (q ≡ r) × (f ≡ g)). λ i. Basis (h.0 i) (h.1 i)) (λ e. ((cc), (cc))) (Decides-and _ _ (query_decides q r) (filters_decide f g))
request_decides (Poll q p f) (Poll r o g) =
    Decides-like _ (λ (h : (q ≡ r) × ((p ≡ o) × (f ≡ g))). λ i. Poll (h.0 i) (h.1.0 i) (h.1.1 i)) (λ e. ((cc), ((cc), (cc))))
    (Decides-and _ _ (query_decides q r) (Decides-and _ _ (position_decides p o) (filters_decide f g)))
request_decides (Fetch q a) (Fetch r b) =
    Decides-like _ (λ (h : (q ≡ r) × (a ≡ b)). λ i. Fetch (h.0 i) (h.1 i)) (λ e. ((cc), (cc))) (Decides-and _ _ (query_decides q r) (bytes_decides a b))
request_decides (Below q p f) (Below r o g) =
    Decides-like _ (λ (h : (q ≡ r) × ((p ≡ o) × (f ≡ g))). λ i. Below (h.0 i) (h.1.0 i) (h.1.1 i)) (λ e. ((cc), ((cc), (cc))))
    (Decides-and _ _ (query_decides q r) (Decides-and _ _ (bytes_decides p o) (filters_decide f g)))
request_decides a b = search rules

pub reply_decides : (a b : Reply) → Decides (reply.ghosts.eq a b) (a ≡ b)
reply_decides (BasisIs q p ps) (BasisIs r o os) =
    Decides-like _ (λ (h : (q ≡ r) × ((p ≡ o) × (ps ≡ os))). λ i. BasisIs (h.0 i) (h.1.0 i) (h.1.1 i)) (λ e. ((cc), ((cc), (cc))))
    (Decides-and _ _ (query_decides q r) (Decides-and _ _ (position_decides p o) (paths_decide ps os)))
reply_decides (ChangesAre q p ms ps) (ChangesAre r o ns os) =
    Decides-like _ (λ (h : (q ≡ r) × ((p ≡ o) × ((ms ≡ ns) × (ps ≡ os)))). λ i. ChangesAre (h.0 i) (h.1.0 i) (h.1.1.0 i) (h.1.1.1 i)) (λ e. ((cc), ((cc), ((cc), (cc)))))
    (Decides-and _ _ (query_decides q r) (Decides-and _ _ (position_decides p o) (Decides-and _ _ (marks_decide ms ns) (paths_decide ps os))))
reply_decides (ContentIs q p a c) (ContentIs r o b d) =
    Decides-like _ (λ (h : (q ≡ r) × ((p ≡ o) × ((a ≡ b) × (c ≡ d)))). λ i. ContentIs (h.0 i) (h.1.0 i) (h.1.1.0 i) (h.1.1.1 i)) (λ e. ((cc), ((cc), ((cc), (cc)))))
    (Decides-and _ _ (query_decides q r) (Decides-and _ _ (position_decides p o) (Decides-and _ _ (bytes_decides a b) (found_decides c d))))
reply_decides (Refused q c) (Refused r d) = search (rules, query_decides, cause_decides)
reply_decides (ListIs q p a ps) (ListIs r o b os) =
    Decides-like _ (λ (h : (q ≡ r) × ((p ≡ o) × ((a ≡ b) × (ps ≡ os)))). λ i. ListIs (h.0 i) (h.1.0 i) (h.1.1.0 i) (h.1.1.1 i)) (λ e. ((cc), ((cc), ((cc), (cc)))))
    (Decides-and _ _ (query_decides q r) (Decides-and _ _ (position_decides p o) (Decides-and _ _ (bytes_decides a b) (paths_decide ps os))))
reply_decides a b = search rules
