-- The payload of an object that is put: its bytes, whether the store copies or shares them.
use Rattle.std.specs.Prelude.{ℕ, List}
use Rattle.eden_objects.specs.declared.payload.Payload.{Payload}
use Rattle.eden_objects.specs.declared.payload.Payload.TheVariants.{Copied, Shared}

abbrev pub payload_bytes : Payload → List ℕ
payload_bytes (Copied bytes) = bytes.now
payload_bytes (Shared bytes) = bytes.now
