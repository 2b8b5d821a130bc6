use Rattle.std.proofs.Common.{rules, ◌≡◌, ◌∙◌, ◌-◌, ◌+◌, ap, refl, length, take, drop}
use Rattle.eden_git.specs.Starts.{mode_of}
use Rattle.eden_git.proofs.Placing.{front_written, id_written, name_between}
use Rattle.eden_git.proofs.search.entry_in.Goals as goal

pub returns : goal.returns
returns c = λ e is kind long.
    let parts : c.in-Some.front.now ≡ take (length c.args.bytes.now - 20) c.args.bytes.now = search rules in
    let id : c.in-Some.id.now ≡ drop (length c.args.bytes.now - 20) c.args.bytes.now = search rules in
    let name = name_between (mode_of e.kind) e.name c.in-Some.front.now (c.mode_length.result + 1) (length c.in-Some.front.now - 1)
    (parts ∙ ap (λ bytes. take (length bytes - 20) bytes) is ∙ front_written e long) (ap (λ n. n + 1) (c.mode_length.ensures ∙ ap (λ k. length (mode_of k)) kind)) refl in
    let same : c.in-Some.id.now ≡ e.id.0 = id ∙ ap (λ bytes. drop (length bytes - 20) bytes) is ∙ id_written e long in
    λ i. record { name = name i; kind = kind i; id = record { 0 = same i } }
