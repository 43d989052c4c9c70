use Rattle.ledger.proofs.Facts.{log_told}
use Rattle.ledger.specs.Calls.{read_log}
use Rattle.ledger.proofs.read_log.Goals as goal

pub returns-in_default : goal.returns-in_default
unfolding read_log
returns-in_default c = simp c.in_default.ensures

pub returns-then-not-in_range : goal.returns-then-not-in_range
unfolding read_log
returns-then-not-in_range c = simp (← c.in-Some.ensures.0, c.in-Some.ensures.1, ← c.in_range.ensures, c.if-not-in_range.true)

pub returns-then-not-in_range-2 : goal.returns-then-not-in_range-2
unfolding read_log
returns-then-not-in_range-2 c = simp (← c.in-Some.ensures.0, c.in-Some.ensures.1, ← c.in_range.ensures, c.if-not-in_range.false, ← c.in_range-2.ensures, c.if-not-in_range-2.true)

pub returns : goal.returns
unfolding read_log
returns c = simp (← c.in-Some.ensures.0, c.in-Some.ensures.1, ← c.in_range.ensures, c.if-not-in_range.false, ← c.in_range-2.ensures, c.if-not-in_range-2.false, ← c.is_redeemed.ensures) (log_told c.is_redeemed.result)
