use Rattle.text.specs.Ascii.{ascii}
use Rattle.text.proofs.PageLaws.{says_then}
use Rattle.wording.specs.Answers.{log_text}
use Rattle.refusals.proofs.RefusalLaws.{says_refused}
use Rattle.wording.proofs.log.Goals as goal

pub returns-in-Ok-true : goal.returns-in-Ok-true
unfolding ascii log_text
returns-in-Ok-true c = rw (c.in-Ok-true.is, c.in-Ok-true.field-0-test) (says_then _ _ _ c.entry.ensures c.say.ensures)

pub returns-in-Ok-false : goal.returns-in-Ok-false
unfolding ascii log_text
returns-in-Ok-false c = rw (c.in-Ok-false.is, c.in-Ok-false.field-0-test) (says_then _ _ _ c.entry-in-Ok-false.ensures c.say-in-Ok-false.ensures)

pub returns-in-Err : goal.returns-in-Err
unfolding log_text
returns-in-Err c = rw c.in-Err.is (says_refused _ c.in-Err.refusal _ c.refused.ensures)
