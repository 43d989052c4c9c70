use Rattle.std.proofs.Common.{◌≡◌, ℕ, true, List, sym, ap, ◌∙◌, arith, lt-ltb, le-ltb}
use Rattle.wire.specs.Refusals.{gives, payment_values}
use Rattle.wire.specs.Readers.{read_order_payment}
use Rattle.wire.specs.declared.kinds.Payment.{Payment}
use Rattle.wire.proofs.Ranges.{payment_range}
use Rattle.messages.proofs.Onward.{order_refused}
use Rattle.messages.proofs.Told.{order_told, order_facts}
use Rattle.records.specs.Answers.{in_message}
use Rattle.records.specs.States.{base, is_state}
use Rattle.records.specs.Calls.{standing_at, standing_on_at}
use Rattle.machine.proofs.standing_at.Goals as goal

-- the order's sender has a body standing
standing-for : (m s t : List ℕ) (p : Payment) → (t ≡ s) × (is_state base s ≡ true) → gives (payment_values p) ≡ read_order_payment m → standing_at base m s ≡ standing_on_at base m t p.sender.0
unfolding standing_at
standing-for m s t p f e = let o = order_told p m e in rw (f.0, f.1, o.0, o.1)

pub returns-in_default-order_payment : goal.returns-in_default-order_payment
unfolding standing_at
returns-in_default-order_payment c = simp (c.in-Some.ensures.1, order_refused c.args.message.now _ c.in_default-order_payment.ensures)

pub formed-requires : goal.formed-requires
formed-requires c = (payment_range _ (order_told _ c.args.message.now c.in-Ok.ensures).2).sender

pub returns-then-not-formed : goal.returns-then-not-formed
unfolding standing_on_at
returns-then-not-formed c = rw (standing-for _ _ _ _ c.in-Some.ensures c.in-Ok.ensures, ← c.formed.ensures, c.if-not-formed.true)

pub pending-length-requires : goal.pending-length-requires
pending-length-requires c = ((payment_range _ (order_told _ c.args.message.now c.in-Ok.ensures).2).sender, sym c.formed.ensures ∙ c.if-not-formed.false)

pub place-place-requires : goal.place-place-requires
place-place-requires c = (payment_range _ (order_told _ c.args.message.now c.in-Ok.ensures).2).sender

pub returns-then-length-gt0 : goal.returns-then-length-gt0
unfolding standing_on_at
returns-then-length-gt0 c = rw (standing-for _ _ _ _ c.in-Some.ensures c.in-Ok.ensures, ← c.formed.ensures, c.if-not-formed.false, ← c.pending-length.ensures, lt-ltb _ _ c.if-length-gt0.true, ← c.place-place.ensures.0)

pub get-requires : goal.get-requires
get-requires c = let d = order_facts c.args.message.now c.in-Ok.ensures in (omega arith, omega arith)

pub returns : goal.returns
unfolding standing_on_at
returns c = rw (standing-for _ _ _ _ c.in-Some.ensures c.in-Ok.ensures, ← c.formed.ensures, c.if-not-formed.false, ← c.pending-length.ensures, le-ltb _ _ c.if-length-gt0.false) (ap (in_message 3) c.get.ensures.0)
