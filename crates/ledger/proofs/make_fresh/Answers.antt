use Rattle.ledger.specs.States.{fresh_state}
use Rattle.ledger.specs.Calls.{fresh}
use Rattle.states.specs.Outcomes.{outcome, done}
use borrow.Author.Tests.{eq-eqb, ne_eqb}
use mathlib.Core.Path.{ap}
use Rattle.ledger.proofs.make_fresh.Goals as goal

pub returns-then-s-ne-LENGTH : goal.returns-then-s-ne-LENGTH
unfolding fresh
returns-then-s-ne-LENGTH c = simp (ne_eqb _ _ c.if-s-ne-LENGTH.true)

pub returns-then-not-in_range : goal.returns-then-not-in_range
unfolding fresh
returns-then-not-in_range c = simp (eq-eqb _ _ c.if-s-ne-LENGTH.false, ← c.in_range.ensures, c.if-not-in_range.true)

pub returns : goal.returns
unfolding fresh fresh_state
returns c = simp (eq-eqb _ _ c.if-s-ne-LENGTH.false, ← c.in_range.ensures, c.if-not-in_range.false) (ap (outcome done) (rw c.if-s-ne-LENGTH.false at c.write_fresh.ensures))
