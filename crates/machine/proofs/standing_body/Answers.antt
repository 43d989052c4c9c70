use mathlib.Core.Path.{◌∙◌}
use Rattle.machine.proofs.Standing.{standing_lies}
use Rattle.machine.proofs.standing_body.Goals as goal

pub cut-requires : goal.cut-requires
cut-requires c = (standing_lies c.in-InMessage.ensures).within

pub cut-requires-in-InState : goal.cut-requires-in-InState
cut-requires-in-InState c = (standing_lies c.in-InState.ensures).within

pub returns-in-InMessage : goal.returns-in-InMessage
returns-in-InMessage c = c.cut.ensures.0 ∙ (standing_lies c.in-InMessage.ensures).there

pub returns-in-InState : goal.returns-in-InState
returns-in-InState c = c.cut-in-InState.ensures.0 ∙ (standing_lies c.in-InState.ensures).there
