use Rattle.std.proofs.Common.{◌∷◌, [], ◌++◌, arith, ap, length}
use Rattle.eden_messages.specs.Spells.{paths_bytes, position_bytes}
use Rattle.eden_wire.specs.Commands as formats
use Rattle.eden_wire.proofs.DoneLaws.{conflicts_few}
use Rattle.eden_wire.proofs.Written.{behind}
use Rattle.eden_wire.proofs.done.put_done.Goals as goal

pub put_paths-requires : goal.put_paths-requires
put_paths-requires c =
    let is = ap (λ d. length (formats.done.spell d)) c.in-Checked.is in
    rw c.as_slice.ensures (conflicts_few c.in-Checked.position c.in-Checked.conflicts (omega (arith, c.requires, is)))

pub returns-in_ok-put_paths-in-Checked-clause-told : goal.returns-in_ok-put_paths-in-Checked-clause-told
returns-in_ok-put_paths-in-Checked-clause-told c =
    let checked = c.in-Checked in
    let place = position_bytes checked.position in
    let last = paths_bytes checked.conflicts in
    let new = c.put_paths.new.out.items in
    let told = rw c.as_slice.ensures at c.in_ok-put_paths-in-Checked.ensures.told in
    let rest = behind c.put_bytes-in-Checked.new.out.items place last c.put_position-in-Checked.new.out.items new c.in_ok-put_position-in-Checked.ensures.told told in
    rw checked.is (behind c.args.out.now.items (2 ∷ []) (place ++ last) c.put_bytes-in-Checked.new.out.items new c.in_ok-put_bytes-in-Checked.ensures.told rest)
