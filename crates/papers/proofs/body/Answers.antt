use Rattle.text.specs.Ascii.{ascii}
use Rattle.text.proofs.PageLaws.{says_then}
use Rattle.papers.specs.Papers.{body_text}
use Rattle.refusals.proofs.RefusalLaws.{says_refused}
use Rattle.papers.proofs.body.Goals as goal

pub returns-in-Ok : goal.returns-in-Ok
unfolding ascii body_text
returns-in-Ok c = rw c.in-Ok.is (says_then _ _ _ (says_then _ _ _ c.say.ensures c.payment.ensures) c.note.ensures)

pub returns-in-Err : goal.returns-in-Err
unfolding body_text
returns-in-Err c = rw c.in-Err.is (says_refused _ c.in-Err.refusal _ c.refused.ensures)
