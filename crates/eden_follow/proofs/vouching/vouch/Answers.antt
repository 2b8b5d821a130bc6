use Rattle.std.proofs.Common.{◌≡◌, List, map, ap, sym, subst, ◌∙◌}
use Rattle.std.proofs.lemmas.Result.{IfErr-weaker, on_ok_weaker}
use Rattle.eden_messages.specs.Mirrors.{MirrorState}
use Rattle.eden_logs.specs.Logs.{entries_in}
use Rattle.eden_headline.specs.declared.note.Note.{Note}
use Rattle.eden_headline.specs.Vouched.{IsVouched}
use Rattle.eden_headline.proofs.Vouching.{goes_with}
use Rattle.eden_follow.specs.Causes.{IsAgainst}
use Rattle.eden_follow.specs.Followers.{Followed}
use Rattle.eden_follow.specs.internal.Judged.{Lists}
use Rattle.eden_follow.specs.internal.Rows.{asked, told}
use Rattle.eden_follow.proofs.Judged.{excludes, lists_all, lists_moved}
use Rattle.eden_follow.proofs.vouching.vouch.Goals as goal

pub returns-clause-vouched : goal.returns-clause-vouched
returns-clause-vouched c =
    let lists : Lists (entries_in c.args.logs.now) (map told c.as_slice.result.now) (map asked c.as_mut_slice.result.now) =
    subst (λ rows. Lists (entries_in c.args.logs.now) (map told rows) (map asked c.as_mut_slice.result.now)) (sym c.as_slice.ensures.value)
    (subst (λ rows. Lists (entries_in c.args.logs.now) (map told c.sort_replies.new.rows.items) (map asked rows)) (sym c.as_mut_slice.ensures.value)
    (lists_moved (entries_in c.args.logs.now) c.in_ok-replies.replies.items c.sort_replies.new.rows.items c.in_ok-rows.rows.items c.sort_requests.new.rows.items
    c.sort_replies.ensures.same c.sort_requests.ensures.same (lists_all (entries_in c.args.logs.now) _ _ c.in_ok-replies.ensures c.in_ok-rows.ensures.rows))) in
    let notes : c.as_slice-notes.result.now ≡ c.args.follower.now.notes = c.as_slice-notes.ensures.value ∙ ap (λ (f : Followed). f.notes) c.follower.view_is in
    on_ok_weaker c.check.result (λ is. subst (λ (ns : List Note). IsVouched c.args.logs.now c.args.follower.now.mirror ns) notes
    (is c.args.logs.now c.args.follower.now.mirror lists
    (c.id.ensures ∙ ap (λ (m : MirrorState). m.id) c.mirror-mirror.ensures.mirror) (c.life.ensures ∙ ap (λ (m : MirrorState). m.life) c.mirror-mirror.ensures.mirror)))
    c.check.ensures.vouched

pub returns-clause-merges : goal.returns-clause-merges
returns-clause-merges c =
    on_ok_weaker c.check.result (λ is. goes_with c.args.logs.now c.args.follower.now.mirror c.args.follower.now.notes c.mirror-mirror.ensures.notes is) (returns-clause-vouched c)

pub returns-clause-fault : goal.returns-clause-fault
returns-clause-fault c =
    let lists : Lists (entries_in c.args.logs.now) (map told c.as_slice.result.now) (map asked c.as_mut_slice.result.now) =
    subst (λ rows. Lists (entries_in c.args.logs.now) (map told rows) (map asked c.as_mut_slice.result.now)) (sym c.as_slice.ensures.value)
    (subst (λ rows. Lists (entries_in c.args.logs.now) (map told c.sort_replies.new.rows.items) (map asked rows)) (sym c.as_mut_slice.ensures.value)
    (lists_moved (entries_in c.args.logs.now) c.in_ok-replies.replies.items c.sort_replies.new.rows.items c.in_ok-rows.rows.items c.sort_requests.new.rows.items
    c.sort_replies.ensures.same c.sort_requests.ensures.same (lists_all (entries_in c.args.logs.now) _ _ c.in_ok-replies.ensures c.in_ok-rows.ensures.rows))) in
    let notes : c.as_slice-notes.result.now ≡ c.args.follower.now.notes = c.as_slice-notes.ensures.value ∙ ap (λ (f : Followed). f.notes) c.follower.view_is in
    IfErr-weaker c.check.result _ _ (λ f is. subst (λ (ns : List Note). IsAgainst c.args.logs.now c.args.follower.now.mirror ns f) notes
    (is c.args.logs.now c.args.follower.now.mirror lists
    (c.id.ensures ∙ ap (λ (m : MirrorState). m.id) c.mirror-mirror.ensures.mirror) (c.life.ensures ∙ ap (λ (m : MirrorState). m.life) c.mirror-mirror.ensures.mirror)))
    c.check.ensures.against

pub returns-clause-excluded : goal.returns-clause-excluded
returns-clause-excluded c =
    IfErr-weaker c.check.result _ _ (λ f is other vouched. excludes c.args.logs.now c.args.follower.now.mirror c.args.follower.now.notes f is other vouched) (returns-clause-fault c)
