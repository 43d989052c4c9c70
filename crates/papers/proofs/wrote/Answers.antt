use Rattle.papers.specs.Papers.{written_text}
use Rattle.refusals.proofs.RefusalLaws.{says_refused}
use Rattle.papers.proofs.wrote.Goals as goal

pub returns-in-Ok : goal.returns-in-Ok
unfolding written_text
returns-in-Ok c = rw (c.in-Ok.is, ← c.up_to.ensures) c.say_hexadecimal.ensures

pub returns-in-Err : goal.returns-in-Err
unfolding written_text
returns-in-Err c = rw c.in-Err.is (says_refused _ c.in-Err.refusal _ c.refused.ensures)
