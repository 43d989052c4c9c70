use Rattle.text.specs.Ascii.{ascii}
use Rattle.wording.specs.Answers.{order_text}
use Rattle.refusals.proofs.RefusalLaws.{says_refused}
use Rattle.wording.proofs.order.Goals as goal

pub returns-in-Ok-New : goal.returns-in-Ok-New
unfolding ascii order_text
returns-in-Ok-New c = let case = c.in-Ok-New in rw (case.is, rw case.is at case.field-0-is) c.say.ensures

pub returns-in-Ok-Repeated : goal.returns-in-Ok-Repeated
unfolding ascii order_text
returns-in-Ok-Repeated c = let case = c.in-Ok-Repeated in rw (case.is, rw case.is at case.field-0-is) c.say-in-Ok-Repeated.ensures

pub returns-in-Err : goal.returns-in-Err
unfolding order_text
returns-in-Err c = rw c.in-Err.is (says_refused _ c.in-Err.refusal _ c.refused.ensures)
