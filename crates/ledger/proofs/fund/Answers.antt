use Rattle.ledger.proofs.Facts.{state_pot, next_in_range, funding_left, outcome_same}
use Rattle.wire.proofs.Ranges.{amount_most}
use Rattle.ledger.specs.Calls.{fund}
use borrow.Author.Tests.{lt-leb, le-leb, lt-ltb, le-ltb}
use mathlib.Core.Path.{sym, ◌∙◌}
use native.Mathlib.Omega.{arith}
use Rattle.ledger.proofs.fund.Goals as goal

pub returns-in_default : goal.returns-in_default
unfolding fund
returns-in_default c = simp c.in_default.ensures.value

pub returns-then-not-in_range : goal.returns-then-not-in_range
unfolding fund
returns-then-not-in_range c = simp (← c.in-Some.ensures.value.0, c.in-Some.ensures.value.1, ← c.in_range.ensures, c.if-not-in_range.true)

pub returns-then-not-amount_in_range : goal.returns-then-not-amount_in_range
unfolding fund
returns-then-not-amount_in_range c = simp (← c.in-Some.ensures.value.0, c.in-Some.ensures.value.1, ← c.in_range.ensures, c.if-not-in_range.false, ← c.amount_in_range.ensures, c.if-not-amount_in_range.true)

pub returns-then-last-ge-LAST : goal.returns-then-last-ge-LAST
unfolding fund
returns-then-last-ge-LAST c = simp (← c.in-Some.ensures.value.0, c.in-Some.ensures.value.1, ← c.in_range.ensures, c.if-not-in_range.false, ← c.amount_in_range.ensures, c.if-not-amount_in_range.false, ← c.last_index-last.ensures.0, le-ltb _ _ c.if-last-ge-LAST.true)

pub returns-then-out-lt16 : goal.returns-then-out-lt16
unfolding fund
returns-then-out-lt16 c = simp (← c.in-Some.ensures.value.0, c.in-Some.ensures.value.1, ← c.in_range.ensures, c.if-not-in_range.false, ← c.amount_in_range.ensures, c.if-not-amount_in_range.false, ← c.last_index-last.ensures.0, lt-ltb _ _ c.if-last-ge-LAST.false, lt-leb _ _ c.if-out-lt16.true)

pub overflow_add-pot : goal.overflow_add-pot
overflow_add-pot c = omega (arith, amount_most c.args.amount (sym c.amount_in_range.ensures ∙ c.if-not-amount_in_range.false), rw (← c.pot.ensures) at (state_pot _ (c.in-Some.ensures.value.1)))

pub returns-then-pot-gt-MOST_POT : goal.returns-then-pot-gt-MOST_POT
unfolding fund
returns-then-pot-gt-MOST_POT c = simp (← c.in-Some.ensures.value.0, c.in-Some.ensures.value.1, ← c.in_range.ensures, c.if-not-in_range.false, ← c.amount_in_range.ensures, c.if-not-amount_in_range.false, ← c.last_index-last.ensures.0, lt-ltb _ _ c.if-last-ge-LAST.false, le-leb _ _ c.if-out-lt16.false, ← c.pot.ensures, lt-leb _ _ c.if-pot-gt-MOST_POT.true)

pub returns : goal.returns
unfolding fund
returns c = simp (← c.in-Some.ensures.value.0, c.in-Some.ensures.value.1, ← c.in_range.ensures, c.if-not-in_range.false, ← c.amount_in_range.ensures, c.if-not-amount_in_range.false, ← c.last_index-last.ensures.0, lt-ltb _ _ c.if-last-ge-LAST.false, le-leb _ _ c.if-out-lt16.false, ← c.pot.ensures, le-leb _ _ c.if-pot-gt-MOST_POT.false, ← c.put_index.ensures)
    (outcome_same c.put_pot.ensures (funding_left _ _ _ c.write_funding.result (next_in_range _ _ _ c.if-last-ge-LAST.false (sym c.in_range.ensures ∙ c.if-not-in_range.false) (sym c.amount_in_range.ensures ∙ c.if-not-amount_in_range.false)) c.if-out-lt16.false c.write_funding.ensures))
