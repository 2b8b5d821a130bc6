use Rattle.std.proofs.Common.{◌≡◌, true, false, ◌||◌, Option, None, Some, is_some, List, ℕ, refl, sym, ap, ◌∙◌}
use Rattle.std.specs.Cmp.Lexicographic.{pointwise, bytes_decides}
use Rattle.std.specs.List.{list_any}
use Rattle.std.specs.FinMap as fin
use Rattle.std.specs.Prelude.{nat_eq}
use Rattle.eden_ids.specs.declared.content.Content.{Content}
use Rattle.eden_ids.specs.FileMaps.{file_at, same_path}
use Rattle.eden_ids.proofs.FileMapLemmas.{same_path-other}
use Rattle.eden_ids.proofs.files.FilesFileTree.file.Goals as goal

pub loop-at-init : goal.loop-at-init
loop-at-init c = ap (list_any (λ q. same_path c.args.path.now q)) (c.into_iter-at-iterator.ensures.into_iter_gives ∙ c.paths-at-items.ensures.rest)

pub loop-at-preserved : goal.loop-at-preserved
loop-at-preserved c =
    let path = c.args.path.now in
    let at = c.in-Some.at.now in
    let apart : same_path path at ≡ false = same_path-other path at (λ e. elsewhere path at e (c.if-eq.ensures ∙ ap (λ b. pointwise nat_eq b path) c.as_bytes.ensures.bytes)) in
    sym (ap (λ b. b || list_any (λ q. same_path path q) c.next.new.self) apart) ∙ ap (list_any (λ q. same_path path q)) (sym c.in-Some.ensures.steps) ∙ c.loop-at.invariant
  where
    elsewhere : (p q : List ℕ) → p ≡ q → false ≡ pointwise nat_eq q p → ⊥
    elsewhere p q e other = let bad : false ≡ true = other ∙ (bytes_decides q p).1 (sym e) in absurd (cc)

pub returns : goal.returns
returns c = none (file_at c.args.self.now c.args.path.now) (fin.contains_key-keys c.args.self.now c.args.path.now ∙ sym c.loop-at.invariant ∙ ap (list_any (λ q. same_path c.args.path.now q)) c.in-None.ensures.steps.0)
  where
    none : (file : Option Content) → is_some file ≡ false → None ≡ file
    none None e = refl
    none (Some f) e = absurd (cc)
