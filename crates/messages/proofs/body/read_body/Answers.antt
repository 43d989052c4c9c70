use Prim.Native.Nat.{ℕ}
use mathlib.Core.List.{List, []}
use mathlib.Core.Path.{◌≡◌, sym, ap, ◌∙◌}
use native.Mathlib.Omega.{arith}
use Rattle.std.proofs.lemmas.Result.{err_from_is_err_and}
use Rattle.wire.specs.declared.kinds.Note.{Note}
use Rattle.wire.specs.Readers.{BodyShown, read_payment, is_body, note_held, read_body}
use Rattle.wire.specs.Refusals.{Said}
use Rattle.wire.specs.Messages.{note_in}
use Rattle.octets.specs.Tests.{need}
use Rattle.wire.proofs.Laid.{body_laid}
use Rattle.messages.proofs.Onward.{payment_read, payment_refused}
use Rattle.messages.proofs.body.read_body.Goals as goal

-- the answer and the note, together
shown : (m : List ℕ) (a : Said) (n : Note) → a ≡ read_payment m → n ≡ note_held (need (is_body m) [] (note_in m)) → ◌≡◌ {A = BodyShown} (record { answer = a; note = n }) (read_body m)
unfolding read_body
shown m a n e f = λ i. record { answer = e i; note = f i }

pub returns-in_err-payment : goal.returns-in_err-payment
returns-in_err-payment c =
    let m = c.args.message.now in
    let e = c.in_err-payment.ensures in
    let p = err_from_is_err_and c.from_residual.result c.from_residual.ensures.1 in
    rw (p.1, p.2) (shown m _ _ e (ap note_held (sym (simp (payment_refused m _ e)))))

pub overflow_sub-message : goal.overflow_sub-message
overflow_sub-message c = omega (arith, body_laid c.args.message.now (payment_read c.args.message.now c.in_ok-payment.ensures).0)

pub cut-requires : goal.cut-requires
cut-requires c = omega (arith, body_laid c.args.message.now (payment_read c.args.message.now c.in_ok-payment.ensures).0)

pub note_of-requires : goal.note_of-requires
note_of-requires c = omega (arith, body_laid c.args.message.now (payment_read c.args.message.now c.in_ok-payment.ensures).0, c.cut.ensures.1)

pub returns : goal.returns
returns c = let m = c.args.message.now in
    let e = c.in_ok-payment.ensures in
    let q = payment_read m e in
    shown m _ _ e (c.note_of.ensures ∙ ap note_held (c.cut.ensures.0 ∙ sym (simp (q.0, q.1))))
