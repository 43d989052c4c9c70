use mathlib.Core.Path.{refl}
use Rattle.ledger.specs.States.{is_redeemed}
use Rattle.ledger.proofs.log.Entry.is_redeemed.Goals as goal

pub returns : goal.returns
unfolding is_redeemed
returns c = rw (← c.place.ensures.0, ← c.get-byte.ensures.0) refl
