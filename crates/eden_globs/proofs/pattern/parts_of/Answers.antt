use Rattle.std.proofs.Common.{ℕ, List, ◌∷◌, ◌++◌, ◌<◌, [], arith, subst, sym, ap, ◌∙◌, append_assoc}
use Rattle.std.proofs.lemmas.Slice.Zip.{all_zipped_more}
use Rattle.eden_globs.specs.declared.pattern.Part.{Part}
use Rattle.eden_globs.specs.internal.Compiled.{AreParts, IsPartOf, left_length, left_of}
use Rattle.eden_globs.proofs.pattern.parts_of.Goals as goal

pub loop-left-smaller : goal.loop-left-smaller
loop-left-smaller c = subst (λ o. left_length c.cut.result.1 < left_length o) (sym c.in-Some.is) (omega (arith, c.cut.ensures.shorter))

pub loop-left-preserved : goal.loop-left-preserved
loop-left-preserved c =
    let done = c.loop-left.invariant.0 in
    let text = c.cut.result.0.now in (
      done ++ text ∷ [],
      (
        subst (λ ps. AreParts ps (done ++ text ∷ [])) (sym {A = List Part} c.in_ok-push.ensures.items)
            (all_zipped_more IsPartOf c.loop-left.parts.items done c.in_ok-compile.field-0 text c.loop-left.invariant.1.0 c.in_ok-compile.ensures),
        c.loop-left.invariant.1.1 ∙ ap (λ o. done ++ left_of o) c.in-Some.is ∙ ap (λ ps. done ++ ps) c.cut.ensures.parts
            ∙ sym {A = List (List ℕ)} (append_assoc done (text ∷ []) (left_of c.cut.result.1)),
      ),
    )
