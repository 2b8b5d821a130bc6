use Rattle.std.proofs.Common.{◌≡◌, ℕ, List, ◌+◌, ◌∷◌, ◌++◌, [], subst, sym, ap, ◌∙◌, take}
use Rattle.std.proofs.lemmas.List.{map-append, take_more}
use Rattle.std.proofs.lemmas.Slice.Zip.{all_zipped_more}
use Rattle.std.specs.Global.{Vec}
use Rattle.eden_globs.specs.declared.pattern.Part.{Part}
use Rattle.eden_ids.specs.Paths.{components}
use Rattle.eden_globs.specs.Filters.{lists}
use Rattle.eden_globs.specs.internal.Compiled.{AreCompiled, AreParts}
use Rattle.eden_globs.proofs.filter.compile.Goals as goal

pub loop-pattern-preserved : goal.loop-pattern-preserved
loop-pattern-preserved c =
    let patterns = c.args.patterns.now in
    let i = c.loop-pattern.pattern-index in
    let pattern = c.pattern-item.result in
    let more : lists (take (i + 1) patterns) ≡ lists (take i patterns) ++ pattern.items ∷ [] =
    ap lists (take_more patterns i pattern c.loop-pattern-test.true ∙ ap (λ p. take i patterns ++ p ∷ []) (sym c.pattern-item.is)) ∙ map-append (λ v. v.items) (take i patterns) (pattern ∷ []) in
    subst (AreCompiled c.push.new.self.items) (sym {A = List (List ℕ)} more)
    (subst (λ ps. AreCompiled ps (lists (take i patterns) ++ pattern.items ∷ [])) (sym {A = List (Vec Part)} c.in_ok-push.ensures.items)
    (all_zipped_more (λ parts p. AreParts parts.items (components p)) c.loop-pattern.compiled.items (lists (take i patterns)) c.in_ok-parts_of.field-0 pattern.items c.loop-pattern.invariant
    (subst (λ p. AreParts c.in_ok-parts_of.field-0.items (components p)) c.as_slice.ensures.value c.in_ok-parts_of.ensures)))
