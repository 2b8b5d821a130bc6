use Rattle.std.proofs.Common.{[], ◌∷◌, ap, ◌∙◌}
use Rattle.std.specs.Int.{from_be_bytes, w64}
use Rattle.eden_ranges.specs.internal.Heads.{head_from}
use Rattle.eden_ranges.proofs.Heads.{head_read}
use Rattle.eden_ranges.proofs.sorting.head_of.Goals as goal

pub returns : goal.returns
returns c =
    c.from_be_bytes.ensures
    ∙ (λ i. from_be_bytes w64 (c.byte_at.ensures i ∷ c.byte_at-2.ensures i ∷ c.byte_at-3.ensures i ∷ c.byte_at-4.ensures i
    ∷ c.byte_at-5.ensures i ∷ c.byte_at-6.ensures i ∷ c.byte_at-7.ensures i ∷ c.byte_at-8.ensures i ∷ []))
    ∙ head_read c.as_bytes-bytes.result.now
    ∙ ap (head_from 8) c.as_bytes-bytes.ensures.bytes
