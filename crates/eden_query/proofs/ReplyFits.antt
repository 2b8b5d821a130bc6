-- What is replied fits a frame.
use Rattle.std.proofs.Common.{◌≡◌, ◌≤◌, true, false, nat_lt, length, refl, arith}
use Rattle.std.specs.Prelude.{if◌then◌else◌}
use Rattle.std.proofs.lemmas.Bool.{ltb-false}
use Rattle.eden_messages.specs.declared.message.Cause.{Cause}
use Rattle.eden_messages.specs.declared.message.Cause.TheVariants.{Stale, Ahead, Truncated, TooLarge}
use Rattle.eden_messages.specs.declared.message.Query.{Query}
use Rattle.eden_messages.specs.declared.message.Reply.{Reply}
use Rattle.eden_messages.specs.declared.message.Reply.TheVariants.{Refused}
use Rattle.eden_messages.specs.Replies.{bounded}
use Rattle.eden_messages.specs.Spells.{reply_bytes}
use Rattle.eden_stream.specs.Frames.{body_limit}

refusal-length : (query : Query) (cause : Cause) → length (reply_bytes (Refused query cause)) ≡ 35
refusal-length query (Stale generation) = refl
refusal-length query (Ahead head) = refl
refusal-length query (Truncated floor) = refl
refusal-length query TooLarge = refl

pub refusal_fits : (query : Query) (cause : Cause) → length (reply_bytes (Refused query cause)) ≤ 16777216
refusal_fits query cause = let h = refusal-length query cause in omega (arith, h)

pub bounded_fits : (query : Query) (reply : Reply) → length (reply_bytes (bounded query reply)) ≤ 16777216
unfolding bounded
bounded_fits query reply =
    elim (nat_lt body_limit (length (reply_bytes reply))) as (λ b. nat_lt body_limit (length (reply_bytes reply)) ≡ b
    → length (reply_bytes (if b then Refused query TooLarge else reply)) ≤ 16777216) [
      | true ↦ λ e. refusal_fits query TooLarge
      | false ↦ λ e. ltb-false body_limit (length (reply_bytes reply)) e
    ] refl
