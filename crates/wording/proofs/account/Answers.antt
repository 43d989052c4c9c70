use Rattle.wording.specs.Answers.{account_text}
use Rattle.refusals.proofs.RefusalLaws.{says_refused}
use Rattle.wording.proofs.account.Goals as goal

pub returns-in-Err : goal.returns-in-Err
unfolding account_text
returns-in-Err c = rw c.in-Err.is (says_refused _ c.in-Err.refusal _ c.refused.ensures)
