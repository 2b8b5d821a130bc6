use Rattle.std.proofs.Common.{◌∙◌, sym, ap}
use Rattle.std.specs.Prelude.{Some}
use Rattle.eden_script.specs.Escapes.{followed_by, unescaped}
use Rattle.eden_script.proofs.EscapeLemmas.{followed_by-nothing, read_run, read_escape, read_unknown, read_unfinished, read_all}
use Rattle.eden_script.proofs.escapes.unescape.Goals as goal

pub loop-place-init : goal.loop-place-init
loop-place-init c = sym (ap (λ bytes. followed_by (Some bytes) (unescaped c.args.text.now)) c.new-bytes.ensures.items ∙ followed_by-nothing (unescaped c.args.text.now))

pub returns-in_default-escape : goal.returns-in_default-escape
returns-in_default-escape c =
    let run = read_run _ _ c.loop-place.rest.now c.split_at.result.0.now c.split_at.result.1.now c.extend_from_slice.new.self.items c.in-Some.place
    c.loop-place.invariant c.in-Some.ensures c.split_at.ensures.front c.split_at.ensures.back c.in_ok-extend_from_slice.ensures.items in
    read_unfinished _ _ c.split_at.result.1.now run.0 run.1 run.2 c.in_default-escape.len_below

pub returns-in_default-meaning : goal.returns-in_default-meaning
returns-in_default-meaning c =
    let run = read_run _ _ c.loop-place.rest.now c.split_at.result.0.now c.split_at.result.1.now c.extend_from_slice.new.self.items c.in-Some.place
    c.loop-place.invariant c.in-Some.ensures c.split_at.ensures.front c.split_at.ensures.back c.in_ok-extend_from_slice.ensures.items in
    read_unknown _ _ c.split_at.result.1.now run.0 run.2 c.in-len2-up.len_at_least c.in_default-meaning.ensures

pub loop-place-preserved : goal.loop-place-preserved
loop-place-preserved c =
    let run = read_run _ _ c.loop-place.rest.now c.split_at.result.0.now c.split_at.result.1.now c.extend_from_slice.new.self.items c.in-Some.place
    c.loop-place.invariant c.in-Some.ensures c.split_at.ensures.front c.split_at.ensures.back c.in_ok-extend_from_slice.ensures.items in
    read_escape _ _ c.split_at.result.1.now _ _ run.0 run.2 c.in-len2-up.len_at_least c.in-Some-meaning.ensures c.in_ok-extend_from_slice-2.ensures.items

pub returns : goal.returns
returns c =
    read_all c.args.text.now c.loop-place.bytes.items c.loop-place.rest.now c.extend_from_slice-2.new.self.items c.loop-place.invariant c.in_default.ensures
    c.in_ok-extend_from_slice-3.ensures.items
