use Rattle.std.proofs.Common.{ap, arith, subst, ◌∙◌}
use Rattle.eden_messages.specs.Mirrors.{new_mirror}
use Rattle.eden_connect.specs.Rounds.{Follows}
use Rattle.eden_connect.proofs.Following.{tells_front_wider, tells_wider, tells_wider_if}
use Rattle.eden_connect.proofs.program.connect_program.Goals as goal

pub returns-clause-placed : goal.returns-clause-placed
returns-clause-placed g c =
    let fresh = c.new-mirror.ensures ∙ ap (new_mirror c.args.mirror c.args.life) c.in-Ok.ensures in
    tells_wider_if _ _ _ _ _ _ (λ m over. subst (λ f. Follows f c.args.rounds m) fresh over.1.followed) c.keep_mirror.ensures.placed

pub returns-clause-unplaced : goal.returns-clause-unplaced
returns-clause-unplaced g c = λ is.
    let fresh = c.new-mirror.ensures ∙ ap (new_mirror c.args.mirror c.args.life) c.in-Ok.ensures in
    tells_wider _ _ _ _ _ (λ m over. subst (λ f. Follows f c.args.rounds m) fresh over.1.followed) (c.keep_mirror.ensures.unplaced is)

pub returns-clause-torn : goal.returns-clause-torn
returns-clause-torn g c = λ is.
    let fresh = c.new-mirror.ensures ∙ ap (new_mirror c.args.mirror c.args.life) c.in-Ok.ensures in
    tells_front_wider _ _ _ _ (λ m over. subst (λ f. Follows f c.args.rounds m) fresh over.1.followed) (c.keep_mirror.ensures.torn is)

pub returns-clause-rounds : goal.returns-clause-rounds
returns-clause-rounds g c = λ is. let cut = c.keep_mirror.ensures.cut_off is in omega (arith, cut.fewer)
