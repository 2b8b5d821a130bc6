-- What is said of lines that were answered, said otherwise.
use Rattle.std.proofs.Common.{ℕ, List, Option}
use Rattle.std.specs.Str.Lines.{lines}
use Rattle.eden_stream.specs.LineEnds.{AnswersAll, StopsAfterLines, StopsAtBadLine, StopsBetweenLines, StopsInText}

module _ {r0 r1 w0 w1 : Option (List ℕ)} where
  pub answers_all : {P Q : List (List ℕ) → List ℕ → Type 0} {count : ℕ} (e : AnswersAll P r0 r1 w0 w1 count) → Q (lines e.stream) e.text → AnswersAll Q r0 r1 w0 w1 count
  answers_all e says = record { stream = e.stream; text = e.text; read = e.read; at_end = e.at_end; says = says; count_is = e.count_is; written = e.written }

  pub stops_at_bad_line : {P Q : List (List ℕ) → List ℕ → List ℕ → Type 0} {number : ℕ} (e : StopsAtBadLine P r0 r1 w0 w1 number) → Q e.good e.bad e.text
      → StopsAtBadLine Q r0 r1 w0 w1 number
  stops_at_bad_line e says = record {
    stream = e.stream;
    good = e.good;
    bad = e.bad;
    text = e.text;
    read = e.read;
    judged = e.judged;
    says = says;
    number_is = e.number_is;
    written = e.written;
  }

  pub stops_between_lines : {P Q : List (List ℕ) → List ℕ → Type 0} (e : StopsBetweenLines P r0 r1 w0 w1) → Q (lines e.whole) e.text → StopsBetweenLines Q r0 r1 w0 w1
  stops_between_lines e says = record {
    stream = e.stream;
    whole = e.whole;
    rest = e.rest;
    text = e.text;
    read = e.read;
    split = e.split;
    ends_lines = e.ends_lines;
    unended = e.unended;
    says = says;
    written = e.written;
  }

  pub stops_after_lines : {P Q : List ℕ → List (List ℕ) → List ℕ → Type 0} (e : StopsAfterLines P r0 r1 w0 w1) → Q e.stream e.good e.text → StopsAfterLines Q r0 r1 w0 w1
  stops_after_lines e says = record { stream = e.stream; good = e.good; text = e.text; read = e.read; first = e.first; says = says; written = e.written }

  pub stops_in_text : {P Q : List ℕ → List (List ℕ) → List ℕ → Type 0} (e : StopsInText P r0 r1 w0 w1) → Q e.stream e.good e.text → StopsInText Q r0 r1 w0 w1
  stops_in_text e says = record {
    stream = e.stream;
    good = e.good;
    text = e.text;
    taken = e.taken;
    read = e.read;
    first = e.first;
    says = says;
    written = e.written;
  }
