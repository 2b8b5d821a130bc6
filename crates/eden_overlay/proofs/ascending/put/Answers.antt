use Rattle.std.proofs.Common.{◌≡◌, true, false, subst, sym, ap, ◌∙◌}
use Rattle.std.specs.Option.{is_none}
use Rattle.eden_overlay.specs.Places.{place}
use Rattle.eden_overlay.specs.internal.There.{IsThere}
use Rattle.eden_overlay.proofs.Placing.{put_over, put_beside, still_sorted, told_there, not_told}
use Rattle.eden_overlay.proofs.ascending.put.Goals as goal

pub returns-then-is_there-clause-ok : goal.returns-then-is_there-clause-ok
returns-then-is_there-clause-ok g c =
    let path : c.as_bytes-2.result.now ≡ c.args.path = c.as_bytes-2.ensures.bytes in
    let place_path : c.as_bytes.result.now ≡ c.args.path = c.as_bytes.ensures.bytes in
    let there : IsThere true c.args.path c.args.entries.now.items c.place_of-at.result =
    subst (λ b. IsThere b c.args.path c.args.entries.now.items c.place_of-at.result) c.if-is_there.true
    (subst (λ p. IsThere c.is_there.result p c.args.entries.now.items c.place_of-at.result) path
    (subst (λ es. IsThere c.is_there.result c.as_bytes-2.result.now es c.place_of-at.result) c.deref-2.ensures.value c.is_there.ensures)) in
    put_over c.args.path c.args.value c.args.entries.now.items c.place_of-at.result
    (c.place_of-at.ensures.is ∙ ap (λ p. place p c.deref.result.now) place_path ∙ ap (place c.args.path) c.deref.ensures.value) there

pub returns-then-is_there-clause-added : goal.returns-then-is_there-clause-added
returns-then-is_there-clause-added g c =
    let path : c.as_bytes-2.result.now ≡ c.args.path = c.as_bytes-2.ensures.bytes in
    let place_path : c.as_bytes.result.now ≡ c.args.path = c.as_bytes.ensures.bytes in
    let there : IsThere true c.args.path c.args.entries.now.items c.place_of-at.result =
    subst (λ b. IsThere b c.args.path c.args.entries.now.items c.place_of-at.result) c.if-is_there.true
    (subst (λ p. IsThere c.is_there.result p c.args.entries.now.items c.place_of-at.result) path
    (subst (λ es. IsThere c.is_there.result c.as_bytes-2.result.now es c.place_of-at.result) c.deref-2.ensures.value c.is_there.ensures)) in
    let is : c.place_of-at.result ≡ place c.args.path c.args.entries.now.items =
    c.place_of-at.ensures.is ∙ ap (λ p. place p c.deref.result.now) place_path ∙ ap (place c.args.path) c.deref.ensures.value in
    sym (ap is_none (told_there c.args.path c.args.entries.now.items (subst (IsThere true c.args.path c.args.entries.now.items) is there)).1)

pub returns-clause-added : goal.returns-clause-added
returns-clause-added g c =
    let path : c.as_bytes-2.result.now ≡ c.args.path = c.as_bytes-2.ensures.bytes in
    let place_path : c.as_bytes.result.now ≡ c.args.path = c.as_bytes.ensures.bytes in
    let apart : IsThere false c.args.path c.args.entries.now.items c.place_of-at.result =
    subst (λ b. IsThere b c.args.path c.args.entries.now.items c.place_of-at.result) c.if-is_there.false
    (subst (λ p. IsThere c.is_there.result p c.args.entries.now.items c.place_of-at.result) path
    (subst (λ es. IsThere c.is_there.result c.as_bytes-2.result.now es c.place_of-at.result) c.deref-2.ensures.value c.is_there.ensures)) in
    let is : c.place_of-at.result ≡ place c.args.path c.args.entries.now.items =
    c.place_of-at.ensures.is ∙ ap (λ p. place p c.deref.result.now) place_path ∙ ap (place c.args.path) c.deref.ensures.value in
    sym (ap is_none (not_told c.args.path c.args.entries.now.items c.requires (subst (IsThere false c.args.path c.args.entries.now.items) is apart)))

pub returns-clause-ok : goal.returns-clause-ok
returns-clause-ok g c =
    let path : c.as_bytes-2.result.now ≡ c.args.path = c.as_bytes-2.ensures.bytes in
    let place_path : c.as_bytes.result.now ≡ c.args.path = c.as_bytes.ensures.bytes in
    let apart : IsThere false c.args.path c.args.entries.now.items c.place_of-at.result =
    subst (λ b. IsThere b c.args.path c.args.entries.now.items c.place_of-at.result) c.if-is_there.false
    (subst (λ p. IsThere c.is_there.result p c.args.entries.now.items c.place_of-at.result) path
    (subst (λ es. IsThere c.is_there.result c.as_bytes-2.result.now es c.place_of-at.result) c.deref-2.ensures.value c.is_there.ensures)) in
    c.in_ok-insert.ensures.items
    ∙ put_beside c.args.path c.args.value c.args.entries.now.items c.place_of-at.result c.requires
    (c.place_of-at.ensures.is ∙ ap (λ p. place p c.deref.result.now) place_path ∙ ap (place c.args.path) c.deref.ensures.value) apart

pub returns-then-is_there-clause-sorted : goal.returns-then-is_there-clause-sorted
returns-then-is_there-clause-sorted g c = still_sorted c.args.path c.args.value c.args.entries.now.items _ c.requires (returns-then-is_there-clause-ok g c)

pub returns-clause-sorted : goal.returns-clause-sorted
returns-clause-sorted g c = still_sorted c.args.path c.args.value c.args.entries.now.items _ c.requires (returns-clause-ok g c)
