use Rattle.std.proofs.Common.{◌≡◌, Some}
use Rattle.eden_logs.specs.Histories.{replay}
use Rattle.eden_headline.specs.Headline.{AgreesAtHead, HasPlace, HasValues, IsCovered, IsTold}
use Rattle.eden_headline.specs.Imports.{IsScheduleWithImports}
use Rattle.eden_headline.specs.Merges.{ending_of, merged, opening_of}
use Rattle.eden_headline.proofs.Vouching.{on_merges}
use Rattle.eden_headline.proofs.merge_laws.merge_law.Goals as goal

pub returns : goal.returns
returns c =
    record {
      schedule = on_merges (λ name world entries m notes. IsScheduleWithImports name (opening_of world m) (merged m entries notes)) (λ name world entries m notes is. is.schedule);
      world = on_merges (λ name world entries m notes. (ending_of name world m entries notes).world ≡ replay name world entries) (λ name world entries m notes is. is.replays);
      mirror = on_merges (λ name world entries m notes. (ending_of name world m entries notes).mirrors m.id ≡ Some m) (λ name world entries m notes is. is.follows);
      covered = on_merges (λ name world entries m notes. IsCovered (replay name world entries) m) (λ name world entries m notes is. is.faithful.covered);
      told = on_merges (λ name world entries m notes. IsTold (replay name world entries) m) (λ name world entries m notes is. is.faithful.told);
      at_head = on_merges (λ name world entries m notes. AgreesAtHead (replay name world entries) m) (λ name world entries m notes is. is.faithful.at_head);
      place = on_merges (λ name world entries m notes. HasPlace (replay name world entries) m) (λ name world entries m notes is. is.faithful.place);
      values = on_merges (λ name world entries m notes. HasValues (replay name world entries) m) (λ name world entries m notes is. is.faithful.values);
    }
