use borrow.Author.Tests.{eq-eqb, ne_eqb}
use Rattle.text.specs.Ascii.{ascii}
use Rattle.text.proofs.PageLaws.{says_then}
use Rattle.wording.proofs.machines.Goals as goal

pub returns-then-n-eq1 : goal.returns-then-n-eq1
unfolding ascii
returns-then-n-eq1 c = rw (eq-eqb _ _ c.if-n-eq1.true) (says_then _ _ _ c.say_decimal.ensures c.say.ensures)

pub returns-else-n-eq1 : goal.returns-else-n-eq1
unfolding ascii
returns-else-n-eq1 c = rw (ne_eqb _ _ c.if-n-eq1.false) (says_then _ _ _ c.say_decimal.ensures c.say-else-n-eq1.ensures)
