-- Reading a body from left to right: what it holds, or the first fault that is met.
use Rattle.std.specs.Prelude.{◌≡◌, ◌≢◌, ℕ, ◌≤◌, List, ◌∷◌, length, Result, Ok, Err, nat_lt, ◌==◌, if◌then◌else◌}
use Rattle.eden_ids.specs.Texts.{AreBytes}
use Rattle.eden_messages.specs.declared.message.Request.{Request}
use Rattle.eden_messages.specs.declared.message.Reply.{Reply}
use Rattle.eden_wire.specs.declared.fault.DecodeFault.{DecodeFault}
use Rattle.eden_stream.specs.Frames.{body_limit}
use Rattle.eden_wire.specs.declared.fault.DecodeFault.TheVariants.{BadTag, TooLarge, Trailing, NoMemory}
use Rattle.eden_wire.specs.Formats.{◌>>=◌, Format, byte, versioned}
use Rattle.eden_wire.specs.Messages.{request, reply}

-- what was returned, seen through `view`, is what reading gives; only NoMemory may come
-- in its place
abbrev pub Gives : {X Y : Type 0} → (X → Y) → Result X DecodeFault → Result Y DecodeFault → Type 0
Gives view (Ok x) read = read ≡ Ok (view x)
Gives view (Err fault) read = fault ≢ NoMemory → read ≡ Err fault

-- no byte comes after the message
abbrev pub ended : {A : Type 0} → A → List ℕ → Result A DecodeFault
ended message rest = if length rest == 0 then Ok message else Err Trailing

-- a message after its tag, and no byte after it
abbrev pub read_to_end : {A B : Type 0} → Format A → (A → B) → List ℕ → Result B DecodeFault
read_to_end format message bytes = format.read bytes >>= λ x. ended (message x.0) x.1

-- a body has at most 16,777,216 bytes, and no byte comes after its message
abbrev pub read_whole : {A : Type 0} → Format A → List ℕ → Result A DecodeFault
read_whole format body =
    if nat_lt 16777216 (length body) then Err TooLarge else
    read_to_end format (λ x. x) body

-- the request that a body encodes, or the first fault
unfoldable pub read_request : List ℕ → Result Request DecodeFault
read_request body = read_whole request body

-- the reply that a body encodes, or the first fault
unfoldable pub read_reply : List ℕ → Result Reply DecodeFault
read_reply body = read_whole reply body

-- the tag, which comes after the version, and the bytes after it
unfoldable pub tag_at : List ℕ → Result (ℕ × List ℕ) DecodeFault
tag_at body = if nat_lt 16777216 (length body) then Err TooLarge else (versioned byte).read body

-- ---- messages with a tag of their own

-- the bytes after this tag; another one is a fault
abbrev pub after_tag : ℕ → List ℕ → Result (List ℕ) DecodeFault
after_tag wanted body = tag_at body >>= λ tag. if tag.0 == wanted then Ok tag.1 else Err BadTag

-- the message of this tag that a body encodes, or the first fault
abbrev pub read_tagged : {A : Type 0} → ℕ → Format A → List ℕ → Result A DecodeFault
read_tagged wanted format body = after_tag wanted body >>= λ rest. read_to_end format (λ x. x) rest

-- the body encodes the message after the version and this tag
pub record Spells {A : Type 0} (tag : ℕ) (format : Format A) (body : List ℕ) (message : A) : Type 0 where
  pub fields : format.fits message
  pub bytes : body ≡ 2 ∷ tag ∷ format.spell message
  pub limit : length body ≤ body_limit

-- the body of a message is read as that message
abbrev pub AreReadBack : {A : Type 0} → ℕ → Format A → Type 0
AreReadBack {A} tag format = (body : List ℕ) (message : A) → Spells tag format body message → read_tagged tag format body ≡ Ok message

-- a body that is read as a message encodes it
abbrev pub ReadAreSpelled : {A : Type 0} → ℕ → Format A → Type 0
ReadAreSpelled {A} tag format = (body : List ℕ) (message : A) → AreBytes body → read_tagged tag format body ≡ Ok message → Spells tag format body message
