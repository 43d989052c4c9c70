use Rattle.ledger.proofs.Facts.{}
use Rattle.ledger.specs.Calls.{read_pot}
use Rattle.ledger.proofs.read_pot.Goals as goal

pub returns-in_default : goal.returns-in_default
unfolding read_pot
returns-in_default c = simp c.in_default.ensures

pub returns : goal.returns
unfolding read_pot
returns c = simp (← c.in-Some.ensures.0, c.in-Some.ensures.1, ← c.last_index.ensures.0, ← c.pot.ensures)
