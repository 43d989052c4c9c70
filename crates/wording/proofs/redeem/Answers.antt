use Rattle.text.specs.Ascii.{ascii}
use Rattle.text.proofs.PageLaws.{says_then_two}
use Rattle.wording.specs.Answers.{redeem_text}
use Rattle.refusals.proofs.RefusalLaws.{says_refused}
use Rattle.wording.proofs.redeem.Goals as goal

pub returns-in-Ok : goal.returns-in-Ok
unfolding ascii redeem_text
returns-in-Ok c = rw c.in-Ok.is (says_then_two _ _ _ _ c.say_numbered.ensures c.say_numbered-in-Ok.ensures)

pub returns-in-Err : goal.returns-in-Err
unfolding redeem_text
returns-in-Err c = rw c.in-Err.is (says_refused _ c.in-Err.refusal _ c.refused.ensures)
