use Rattle.eden_headline.specs.Headline.{AgreeTogether, AgreesAtHead, HasPlace, HasValues, IsCovered, IsTold, OfMirrors, OfPairs}
use Rattle.eden_headline.proofs.Scheduling.{after_all, at_head, covered, places, together, told, values}
use Rattle.eden_headline.proofs.schedule_laws.schedule_law.Goals as goal

pub returns : goal.returns
returns c =
    record {
      covered = after_all (OfMirrors IsCovered) covered;
      told = after_all (OfMirrors IsTold) told;
      at_head = after_all (OfMirrors AgreesAtHead) at_head;
      together = after_all (OfPairs AgreeTogether) together;
      places = after_all (OfMirrors HasPlace) places;
      values = after_all (OfMirrors HasValues) values;
    }
