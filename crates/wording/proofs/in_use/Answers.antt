use Rattle.text.specs.Ascii.{ascii}
use Rattle.wording.proofs.in_use.Goals as goal

pub returns-then-used : goal.returns-then-used
unfolding ascii
returns-then-used c = rw c.if-used.true c.say.ensures

pub returns-else-used : goal.returns-else-used
unfolding ascii
returns-else-used c = rw c.if-used.false c.say-else-used.ensures
