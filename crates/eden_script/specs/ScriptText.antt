-- What a script prints: the result of each of its lines, over the session so far. Byte 35
-- is `#`.
use Rattle.std.specs.Prelude.{ℕ, Bool, true, ◌==◌, nat_lt, if◌then◌else◌, List, [], ◌∷◌, ◌++◌, length, Option, Some, None, option_map, option_and_then}
use Rattle.eden_script.specs.Words.{words_of}
use Rattle.eden_script.specs.declared.command.Command.{Command}
use Rattle.eden_script.specs.ScriptLines.{command_of}
use Rattle.eden_script.specs.Sessions.{Session, Acted, acted}
use Rattle.eden_script.specs.ToldText.{told_text}

-- the session after a line, and the line's text: its result, by the labels of that
-- session
abbrev pub printed : Acted → Session × List ℕ
printed step = (step.0, told_text step.0.bindings step.1)

unfoldable pub told : Session → Command → Session × List ℕ
told session command = printed (acted session command)

-- an empty line or a comment is skipped
abbrev pub is_skipped : List ℕ → Bool
is_skipped [] = true
is_skipped (b ∷ line) = b == 35

-- a line, without its end; `None` if no row of the table matches it. A line has at most
-- 65,536 bytes, a comment any number
abbrev pub line_told : Session → List ℕ → Option (Session × List ℕ)
line_told session line =
    if is_skipped line then Some (session, []) else
    if nat_lt 65536 (length line) then None else
    option_map (told session) (option_and_then command_of (words_of line))

abbrev pub before_text : List ℕ → Option (List ℕ) → Option (List ℕ)
before_text text None = None
before_text text (Some more) = Some (text ++ more)

-- a line's text and then that of the others, which go on from the session after it
abbrev pub continued : Option (Session × List ℕ) → (Session → Option (List ℕ)) → Option (List ℕ)
continued None others = None
continued (Some step) others = before_text step.1 (others step.0)

-- what these lines print, in order; `None` if one of them is invalid
unfoldable pub script_text : Session → List (List ℕ) → Option (List ℕ)
script_text session [] = Some []
script_text session (line ∷ lines) = continued (line_told session line) (λ next. script_text next lines)
