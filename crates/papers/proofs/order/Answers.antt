use Rattle.text.specs.Ascii.{ascii}
use Rattle.text.proofs.PageLaws.{says_then}
use Rattle.papers.specs.Papers.{order_read_text}
use Rattle.refusals.proofs.RefusalLaws.{says_refused}
use Rattle.papers.proofs.order.Goals as goal

pub returns-in-Ok : goal.returns-in-Ok
unfolding ascii order_read_text
returns-in-Ok c =
    let noted = says_then _ _ _ (says_then _ _ _ c.say.ensures c.payment.ensures) c.note.ensures in
    rw c.in-Ok.is (says_then _ _ _ (says_then _ _ _ noted c.say-in-Ok.ensures) c.say_hexadecimal.ensures)

pub returns-in-Err : goal.returns-in-Err
unfolding order_read_text
returns-in-Err c = rw c.in-Err.is (says_refused _ c.in-Err.refusal _ c.refused.ensures)
