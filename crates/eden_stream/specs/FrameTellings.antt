-- How the answering of frames ends, by the story of what was answered: from a reader whose bytes go from
-- r0 to r1, to a writer whose bytes go from w0 to w1.
use Rattle.std.specs.Prelude.{◌≡◌, ℕ, List, Option, Result, Ok, Err}
use Rattle.eden_stream.specs.Pumps.{Ends}
use Rattle.eden_stream.specs.Stories.{Story}
use Rattle.eden_stream.specs.declared.pump.Stop.{Stop}
use Rattle.eden_stream.specs.declared.pump.Stop.TheVariants as stops
use Rattle.eden_stream.specs.FrameGrammar.{frame_grammar}
use Rattle.eden_stream.specs.declared.frame_fault.FrameFault.{FrameFault}
use Rattle.eden_stream.specs.declared.frames.ServeFault.{ServeFault}
use Rattle.eden_stream.specs.declared.frames.ServeFault.TheVariants.{Frame, Read, Write, TurnsSpent, NoMemory}

-- each end of the pump under the name that it has where frames are served
abbrev pub served_as : Result ℕ (Stop FrameFault) → Result ℕ ServeFault
served_as (Ok count) = Ok count
served_as (Err (stops.Item number fault)) = Err (Frame number fault)
served_as (Err stops.Read) = Err Read
served_as (Err stops.Write) = Err Write
served_as (Err stops.TurnsSpent) = Err TurnsSpent
served_as (Err stops.NoMemory) = Err NoMemory

-- the frames were cut off and answered as the pump does it
abbrev pub EndsTelling : Story FrameFault → Option (List ℕ) → Option (List ℕ) → Option (List ℕ) → Option (List ℕ) → Result ℕ ServeFault → Type 0
EndsTelling story r0 r1 w0 w1 result = (stopped : Result ℕ (Stop FrameFault)) × (result ≡ served_as stopped) × Ends frame_grammar story r0 r1 w0 w1 stopped
