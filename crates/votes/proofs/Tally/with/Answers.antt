use mathlib.Core.Path.{refl}
use Rattle.votes.proofs.Tallies.{counted_unknown, counted_known}
use Rattle.votes.proofs.Tally.with.Goals as goal

pub returns-then-last-machine : goal.returns-then-last-machine
returns-then-last-machine c = counted_unknown _ _ _ refl c.if-last-machine.true

pub returns : goal.returns
returns c = counted_known _ _ _ refl c.if-last-machine.false c.requires.0
