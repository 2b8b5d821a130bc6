-- What a session answers to a line, by what the line is.
use Rattle.std.proofs.Common.{◌≡◌, ℕ, List, ◌∷◌, Option, Some, None, refl, sym, ap, ◌∙◌}
use Rattle.std.specs.Prelude.{option_and_then, option_map}
use Rattle.eden_script.specs.Words.{words_of}
use Rattle.eden_stream.specs.Scripts.{in_front}
use Rattle.eden_stream.specs.Answers.{TakesLine, RefusesLine}
use Rattle.eden_script.specs.declared.command.Command.{Command}
use Rattle.eden_script.specs.ScriptLines.{command_of}
use Rattle.eden_stream.specs.Lines.{IsSpoken}
use Rattle.eden_script.specs.ScriptText.{told, before_text, continued, script_text}
use Rattle.eden_accumulate.specs.Mounts.{State}
use Rattle.eden_edend.specs.internal.SessionScript.{spoken-text}
use Rattle.eden_edend.specs.declared.objects.Objects.{Objects}
use Rattle.eden_edend.specs.internal.Standing.{SessionStands, Tells}

before-front : (text : List ℕ) (more : Option (List ℕ)) → before_text text more ≡ in_front text more
before-front text None = refl
before-front text (Some more) = refl

pub refuses_unread : (mount : Option State) (objects : Objects) (script : List (List ℕ) → Option (List ℕ)) (line : List ℕ) → SessionStands mount objects script → IsSpoken line
    → None ≡ option_and_then command_of (words_of line) → RefusesLine script line
refuses_unread mount objects script line stands spoken unread = λ more.
    stands.2 (line ∷ more) ∙ spoken-text stands.0 line more spoken
    ∙ ap (λ command. continued (option_map (told stands.0) command) (λ next. script_text next more)) (sym unread)

pub takes_command : (mount next : Option State) (objects after : Objects) (script : List (List ℕ) → Option (List ℕ)) (line old new : List ℕ) (command : Command)
    → SessionStands mount objects script → IsSpoken line → Some command ≡ option_and_then command_of (words_of line)
    → Tells mount objects command next after old new → TakesLine (SessionStands next after) script line old new
takes_command mount next objects after script line old new command stands spoken read tells =
    let step = told stands.0 command in
    let made = tells stands.0 stands.1 in
    record {
      printed = step.1;
      next = script_text step.0;
      stands = (step.0, made.0, λ lines. refl);
      appended = made.1;
      goes_on = λ more.
          stands.2 (line ∷ more) ∙ spoken-text stands.0 line more spoken
          ∙ ap (λ o. continued (option_map (told stands.0) o) (λ at. script_text at more)) (sym read)
          ∙ before-front step.1 (script_text step.0 more);
    }
