use Rattle.std.proofs.Common.{◌≡◌, ℕ, false, ◌&&◌, eqb, List, length, sym, eq-eqb, ne_eqb}
use Rattle.wire.specs.Refusals.{gives, payment_values}
use Rattle.wire.specs.Readers.{read_payment}
use Rattle.wire.specs.declared.kinds.Payment.{Payment}
use Rattle.messages.proofs.Onward.{payment_refused}
use Rattle.messages.proofs.Told.{payment_told}
use Rattle.records.specs.Records.{is_pending}
use Rattle.records.proofs.record.pending_formed.Goals as goal

-- of a body that is there and was read, its sender and its sequence decide
decided : (account next : ℕ) (b : List ℕ) (p : Payment) → eqb (length b) 0 ≡ false → gives (payment_values p) ≡ read_payment b → (eqb p.sender.0 account && eqb p.sequence.0 next) ≡ is_pending account next b
unfolding is_pending
decided account next b p some e = let t = payment_told p b e in simp (some, t.0, ← t.1)

pub returns-then-is_empty : goal.returns-then-is_empty
unfolding is_pending
returns-then-is_empty c = simp (← c.if-is_empty.ensures)

pub returns-in_default : goal.returns-in_default
unfolding is_pending
returns-in_default c = simp (← c.if-is_empty.ensures, payment_refused c.args.pending.now _ c.in_default.ensures)

pub returns-then-payment-account : goal.returns-then-payment-account
returns-then-payment-account c = rw (eq-eqb _ _ c.if-payment-account.true) at (decided c.args.account.0 c.args.next.0 c.args.pending.now _ (sym c.if-is_empty.ensures) c.in-Ok.ensures)

pub returns-else-payment-account : goal.returns-else-payment-account
returns-else-payment-account c = let h = ne_eqb _ _ c.if-payment-account.false in rw h (rw h at (decided c.args.account.0 c.args.next.0 c.args.pending.now _ (sym c.if-is_empty.ensures) c.in-Ok.ensures))
