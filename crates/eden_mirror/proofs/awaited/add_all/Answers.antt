use Rattle.std.proofs.Common.{◌≡◌, true, false, [], ◌∷◌, ◌++◌, take, Result, Ok, Err, OnOk, OnErr, is_err, sym, ap, ◌∙◌, arith, append_assoc}
use Rattle.std.proofs.lemmas.List.{take_more}
use Rattle.indexmap.specs.IndexMap.{insert_entry}
use Rattle.eden_ids.specs.Sameness.{same_bytes}
use Rattle.eden_messages.specs.Mirrors.{distinct}
use Rattle.eden_mirror.specs.internal.Pending.{fresh, pending}
use Rattle.eden_mirror.proofs.Pending.{fresh-back, fresh-more, fresh-none}
use Rattle.eden_mirror.proofs.awaited.add_all.Goals as goal

on_err : {A E P : Type 0} (r : Result A E) → true ≡ is_err r → OnErr r P → P
on_err (Ok x) e p = cc
on_err (Err x) e p = p

on_ok : {A E P : Type 0} (r : Result A E) → false ≡ is_err r → OnOk r P → P
on_ok (Ok x) e p = p
on_ok (Err x) e p = cc

pub loop-path-init : goal.loop-path-init
loop-path-init c = fresh-none c.args.paths.now.entries c.len-len.ensures.unique c.requires

pub returns-then-is_err-clause-err : goal.returns-then-is_err-clause-err
returns-then-is_err-clause-err c =
    let es = c.args.paths.now.entries in
    c.truncate.ensures.entries
    ∙ ap (take c.len-len.result) (on_err c.add.result c.if-is_err.ensures.value c.add.ensures.err ∙ c.loop-path.invariant)
    ∙ ap (λ n. take n (fresh (distinct (pending es ++ take c.loop-path.path-index c.args.listed.now)))) c.len-len.ensures.len
    ∙ fresh-back es (take c.loop-path.path-index c.args.listed.now) c.len-len.ensures.unique c.requires

pub loop-path-preserved : goal.loop-path-preserved
loop-path-preserved c =
    let old = pending c.args.paths.now.entries in
    let came = take c.loop-path.path-index c.args.listed.now in
    on_ok c.add.result c.if-is_err.ensures.value c.add.ensures.ok
    ∙ ap (λ es. insert_entry same_bytes es c.path-item.result false) c.loop-path.invariant
    ∙ fresh-more (old ++ came) c.path-item.result
    ∙ ap (λ ps. fresh (distinct ps)) (append_assoc old came (c.path-item.result ∷ []))
    ∙ ap (λ ps. fresh (distinct (old ++ ps))) (sym (take_more c.args.listed.now c.loop-path.path-index c.path-item.result (omega arith)
    ∙ ap (λ p. came ++ p ∷ []) (sym c.path-item.is)))
