-- What the teller of the tests of frames answers.
use Rattle.std.specs.Prelude.{ℕ, List, [], ◌∷◌, ◌++◌, Result, Ok, Err, slice_index, ◌==◌, if◌then◌else◌}
use Rattle.eden_stream.specs.declared.frame_fault.FrameFault.{FrameFault}
use Rattle.eden_stream.specs.declared.frame_fault.FrameFault.TheVariants.{BadTag}

-- a body that begins with `!` can't be read, and each other one comes back with an LF behind it
abbrev pub echoed : List ℕ → Result (List ℕ) FrameFault
echoed body = if slice_index body 0 == 33 then Err BadTag else Ok (body ++ 10 ∷ [])
