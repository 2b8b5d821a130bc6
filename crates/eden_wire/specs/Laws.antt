-- Decoding and encoding undo each other.
use Rattle.std.specs.Prelude.{◌≡◌, ℕ, List, Ok}
use Rattle.eden_ids.specs.Texts.{AreBytes}
use Rattle.eden_wire.specs.Reading.{read_request, read_reply}
use Rattle.eden_messages.specs.declared.message.Reply.{Reply}
use Rattle.eden_messages.specs.declared.message.Request.{Request}
use Rattle.eden_messages.specs.Spells.{SpellsRequest, SpellsReply}

-- the body of a request is read as that request: what was encoded is decoded to the same
abbrev pub RequestsAreReadBack : Type 0
RequestsAreReadBack = (body : List ℕ) (request : Request) → SpellsRequest body request → read_request body ≡ Ok request

-- a body that is read as a request encodes it: what was decoded is encoded to the same
abbrev pub ReadRequestsAreSpelled : Type 0
ReadRequestsAreSpelled = (body : List ℕ) (request : Request) → AreBytes body → read_request body ≡ Ok request → SpellsRequest body request

abbrev pub RepliesAreReadBack : Type 0
RepliesAreReadBack = (body : List ℕ) (reply : Reply) → SpellsReply body reply → read_reply body ≡ Ok reply

abbrev pub ReadRepliesAreSpelled : Type 0
ReadRepliesAreSpelled = (body : List ℕ) (reply : Reply) → AreBytes body → read_reply body ≡ Ok reply → SpellsReply body reply
