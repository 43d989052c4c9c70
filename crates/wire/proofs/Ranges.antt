-- What the values of a payment or a funding order in range keep to. Assumes nothing.
use Prim.Native.Nat.{ℕ, zero, suc, ◌≤◌}
use mathlib.Core.Path.{◌≡◌}
use mathlib.Core.Bool.{true, false≢true, and-eq-true_iff}
use native.Mathlib.Omega.{arith}
use borrow.Author.Tests.{leb-true}
use Rattle.wire.specs.Numbers.{is_recipient, is_amount}
use Rattle.wire.specs.Messages.{is_payment, is_funding}
use Rattle.wire.specs.declared.kinds.Payment.{Payment}
use Rattle.wire.specs.declared.kinds.Funding.{Funding}

pub amount_most : (amount : ℕ) → is_amount amount ≡ true → amount ≤ 1_000_000_000
amount_most amount h = let tests = simp and-eq-true_iff at h in leb-true _ _ tests.1

pub record PaymentRange (p : Payment) : Type 0 where
  pub sender : p.sender.0 ≤ 63
  pub kind : p.kind ≤ 1
  pub recipient : p.kind ≡ 0 → p.recipient ≤ 63
  pub amount : p.amount ≤ 1_000_000_000
  pub sequence : p.sequence.0 ≤ 4_095

recipient_range : (kind n : ℕ) → is_recipient kind n ≡ true → (kind ≤ 1) × (kind ≡ 0 → n ≤ 63)
recipient_range zero n h = (omega arith, λ _. leb-true _ _ h)
recipient_range (suc zero) n h = (omega arith, λ e. omega arith)
recipient_range (suc (suc kind)) n h = absurd (false≢true h)

pub payment_range : (p : Payment) → is_payment p ≡ true → PaymentRange p
unfolding is_payment
payment_range p h =
    let tests = simp and-eq-true_iff at h in
    let r = recipient_range p.kind p.recipient tests.1.0 in
    record { sender = leb-true _ _ tests.0; kind = r.0; recipient = r.1; amount = leb-true _ _ tests.1.1.0.1; sequence = leb-true _ _ tests.1.1.1 }

pub record FundingRange (o : Funding) : Type 0 where
  pub index : o.index.0 ≤ 65_535
  pub account : o.account.0 ≤ 63
  pub amount : o.amount ≤ 1_000_000_000

pub funding_range : (o : Funding) → is_funding o ≡ true → FundingRange o
unfolding is_funding
funding_range o h =
    let tests = simp and-eq-true_iff at h in
    record { index = leb-true _ _ tests.0.1; account = leb-true _ _ tests.1.0; amount = leb-true _ _ tests.1.1.1 }
