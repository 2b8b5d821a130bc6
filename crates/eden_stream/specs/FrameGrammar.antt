-- The frames of a stream as items, of which the bodies are answered.
use Rattle.std.specs.Prelude.{◌≡◌, true, ◌<◌, ◌⊎◌, length}
use Rattle.eden_stream.specs.Frames.{IsBody, IsCut, IsPartial, IsTooLong}
use Rattle.eden_stream.specs.Grammars.{Grammar}
use Rattle.eden_stream.specs.declared.frame_fault.FrameFault.{FrameFault}
use Rattle.eden_stream.specs.declared.frame_fault.FrameFault.TheVariants.{CutShort, TooLarge}

-- every frame asks for an answer; the faulty ones are too long, or lack their end where no more
-- bytes come
abbrev pub frame_grammar : Grammar FrameFault
frame_grammar = record {
  cut = λ ended stream bodies held. IsCut stream bodies held;
  item = IsBody;
  silent = λ body. ⊥;
  partial = λ ended held. IsPartial held × (ended ≡ true → length held ≡ 0);
  faulty = λ ended stream bodies held fault. (IsTooLong held × (fault ≡ TooLarge)) ⊎ ((ended ≡ true) × IsPartial held × (0 < length held) × (fault ≡ CutShort));
}
