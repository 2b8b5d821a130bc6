use Rattle.std.proofs.Common.{rules, ◌≡◌, ◌+◌, ◌<◌, ◌≤◌, true, length}
use Rattle.eden_ids.specs.Paths.{components}
use Rattle.eden_renames.specs.Renames.{is_path}
use Rattle.eden_workcopy.proofs.CarriedWhole.{roomy}
use Rattle.eden_workcopy.proofs.renaming.has_room.Goals as goal
use Rattle.eden_workcopy.proofs.renaming.has_room.Goals.{then-is_path, else-is_path}

pub returns-then-saturating_add-lt1024 : goal.returns-then-saturating_add-lt1024
returns-then-saturating_add-lt1024 c = λ shallow rest within.
    let flat : length (components c.args.directory.now) + c.args.size.depth ≤ 64 = search rules in
    elim c.if-is_path.branch [
      | then-is_path w ↦
          let path : is_path c.args.directory.now ≡ true = search rules in
          let short : length c.args.directory.now + c.args.size.reach < 1024 = search rules in
          roomy c.args.directory.now rest c.args.size path short flat within
      | else-is_path w ↦ search rules
    ]
