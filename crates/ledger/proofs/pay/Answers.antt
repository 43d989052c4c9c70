use Rattle.ledger.specs.Calls.{pay}
use Rattle.ledger.specs.Answers.{paid}
use Rattle.states.specs.Outcomes.{outcome}
use Rattle.wire.proofs.Ranges.{payment_range}
use borrow.Author.Tests.{eq-eqb, ne_eqb, lt-leb, le-leb}
use mathlib.Core.Path.{ap}
use Rattle.ledger.proofs.pay.Goals as goal

pub returns-then-payment-ne1 : goal.returns-then-payment-ne1
unfolding pay
returns-then-payment-ne1 c = simp (ne_eqb _ _ c.if-payment-ne1.true)

pub invariant_of-entry : goal.invariant_of-entry
invariant_of-entry c = let r = payment_range _ c.requires in record { in_range = (r.sender, r.sequence) }

pub returns-then-is_redeemed : goal.returns-then-is_redeemed
unfolding pay
returns-then-is_redeemed c = simp (eq-eqb _ _ c.if-payment-ne1.false, ← c.is_redeemed.ensures, c.if-is_redeemed.true)

pub returns-then-pot-amount : goal.returns-then-pot-amount
unfolding pay
returns-then-pot-amount c = simp (eq-eqb _ _ c.if-payment-ne1.false, ← c.is_redeemed.ensures, c.if-is_redeemed.false, ← c.pot-pot.ensures, lt-leb _ _ c.if-pot-amount.true)

pub returns : goal.returns
unfolding pay
returns c = simp (eq-eqb _ _ c.if-payment-ne1.false, ← c.is_redeemed.ensures, c.if-is_redeemed.false, ← c.pot-pot.ensures, le-leb _ _ c.if-pot-amount.false, ← c.redeem.ensures) (ap (outcome (paid _ _)) c.put_pot.ensures)
