use Rattle.eden_headline.specs.Headline.{AgreeTogether, AgreesAtHead, HasPlace, HasValues, IsCovered, IsTold, OfMirrors, OfPairs}
use Rattle.eden_headline.proofs.Importing.{with_imports}
use Rattle.eden_headline.proofs.Scheduling.{at_head, covered, places, together, told, values}
use Rattle.eden_headline.proofs.import_laws.import_law.Goals as goal

pub returns : goal.returns
returns c =
    record {
      covered = with_imports (OfMirrors IsCovered) covered;
      told = with_imports (OfMirrors IsTold) told;
      at_head = with_imports (OfMirrors AgreesAtHead) at_head;
      together = with_imports (OfPairs AgreeTogether) together;
      places = with_imports (OfMirrors HasPlace) places;
      values = with_imports (OfMirrors HasValues) values;
    }
