use Rattle.ledger.specs.States.{with_redeemed}
use Rattle.ledger.proofs.log.Entry.redeem.Goals as goal

pub returns : goal.returns
unfolding with_redeemed
returns c = rw (← c.place-at.ensures.0, ← c.get-byte.ensures.0, ← c.marked.ensures.0) c.put.ensures
