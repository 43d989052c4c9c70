use Rattle.text.specs.Ascii.{ascii}
use Rattle.wording.specs.Answers.{funding_text}
use Rattle.refusals.proofs.RefusalLaws.{says_refused}
use Rattle.wording.proofs.funding.Goals as goal

pub returns-in-Ok : goal.returns-in-Ok
unfolding ascii funding_text
returns-in-Ok c = rw c.in-Ok.is c.say.ensures

pub returns-in-Err : goal.returns-in-Err
unfolding funding_text
returns-in-Err c = rw c.in-Err.is (says_refused _ c.in-Err.refusal _ c.refused.ensures)
