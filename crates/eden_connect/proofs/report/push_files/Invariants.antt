use Rattle.std.proofs.Common.{◌≡◌, ◌++◌, take}
use Rattle.std.specs.List.{flat_map}
use Rattle.eden_ids.specs.FileMaps.{file_at}
use Rattle.eden_connect.specs.Reports.{file_text}
use Rattle.eden_connect.proofs.report.push_files.Given as goal

-- the lines of the files so far
abbrev pub invariant-loop-path : goal.invariant-loop-path
invariant-loop-path l =
    l.text.items ≡ l.initial.text.items ++ flat_map (λ path. file_text path (file_at l.mirror.files path)) (take l.path-index l.paths)
