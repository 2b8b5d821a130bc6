-- What is made of a line that says something.
use Rattle.std.proofs.Common.{inl, inr, refl, sym, ◌∙◌}
use Rattle.eden_edend.specs.Changings.{LineMakes}
use Rattle.eden_edend.specs.internal.ChangeStory.{along_more}
use Rattle.eden_edend.proofs.changer.ChangingTellerLinesUnit.answer.Goals as goal

pub returns-in-Ok-None : goal.returns-in-Ok-None
returns-in-Ok-None g c = λ before lines sent told. (told, (c.requires, sym c.in-Ok-None.ensures ∙ c.in-Ok-None.field-0-is))

pub returns-in-Err : goal.returns-in-Err
returns-in-Err g c = λ before lines sent told. (c.args.changer.now, told, inl refl)

pub returns-in-Ok : goal.returns-in-Ok
returns-in-Ok g c = λ before lines sent told.
    along_more (LineMakes g.C.Changer.made c.args.self.now.labels.now) lines c.args.line.now before c.args.changer.now c.make.new.changer told
    (inr (record {
      change = c.in-Ok-Some.change;
      spoken = c.requires;
      read = sym c.in-Ok-Some.ensures ∙ c.in-Ok-Some.field-0-is;
      makes = c.in-Ok.ensures.ok;
    }))

pub returns-in-Err-make : goal.returns-in-Err-make
returns-in-Err-make g c = λ before lines sent told. elim c.in-Err-make.ensures.err [
  | inl same ↦ (c.args.changer.now, told, inl same)
  | inr lost ↦ (c.args.changer.now, told, inr (record { change = c.in-Ok-Some.change; read = sym c.in-Ok-Some.ensures ∙ c.in-Ok-Some.field-0-is; loses = lost }))
]
