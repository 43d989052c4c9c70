use Rattle.text.specs.Ascii.{ascii}
use Rattle.text.proofs.PageLaws.{says_then}
use Rattle.wording.specs.Answers.{certificate_text}
use Rattle.refusals.proofs.RefusalLaws.{says_refused}
use Rattle.wording.proofs.certificate.Goals as goal

pub returns-in-Ok-Confirmed : goal.returns-in-Ok-Confirmed
unfolding ascii certificate_text
returns-in-Ok-Confirmed c = let case = c.in-Ok-Confirmed in rw (case.is, rw case.is at case.field-0-is) (says_then _ _ _ c.say.ensures c.machines.ensures)

pub returns-in-Ok-Already : goal.returns-in-Ok-Already
unfolding ascii certificate_text
returns-in-Ok-Already c = let case = c.in-Ok-Already in rw (case.is, rw case.is at case.field-0-is) (says_then _ _ _ c.say-in-Ok-Already.ensures c.machines-in-Ok-Already.ensures)

pub returns-in-Err : goal.returns-in-Err
unfolding certificate_text
returns-in-Err c = rw c.in-Err.is (says_refused _ c.in-Err.refusal _ c.refused.ensures)
