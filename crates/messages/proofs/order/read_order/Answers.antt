use Prim.Native.Nat.{ℕ, ◌+◌}
use mathlib.Core.List.{List, []}
use mathlib.Core.Path.{◌≡◌, sym, ap, ◌∙◌}
use native.Mathlib.Omega.{arith}
use Rattle.std.proofs.lemmas.Result.{err_from_is_err_and}
use Rattle.octets.specs.Octets.{cut}
use Rattle.wire.specs.declared.kinds.Note.{Note}
use Rattle.wire.specs.Readers.{OrderShown, read_order_payment, is_order, held, note_held, read_order}
use Rattle.wire.specs.Refusals.{Said}
use Rattle.wire.specs.Messages.{note_in, inside, signature_in}
use Rattle.octets.specs.Tests.{need}
use Rattle.messages.proofs.Onward.{order_refused}
use Rattle.messages.proofs.Told.{order_facts}
use Rattle.messages.proofs.order.read_order.Goals as goal

-- the answer, the note and the signature, together
shown : (m : List ℕ) (a : Said) (n : Note) (s : List ℕ) → a ≡ read_order_payment m → n ≡ note_held (need (is_order m) [] (note_in (inside m)))
    → s ≡ held 64 (need (is_order m) [] (signature_in m)) → ◌≡◌ {A = OrderShown} (record { answer = a; note = n; signature = s }) (read_order m)
unfolding read_order
shown m a n s e f g = λ i. record { answer = e i; note = f i; signature = g i }

pub returns-in_err-payment : goal.returns-in_err-payment
returns-in_err-payment c =
    let m = c.args.message.now in
    let e = c.in_err-payment.ensures in
    let q = order_refused m _ e in
    let p = err_from_is_err_and c.from_residual.result c.from_residual.ensures.1 in
    rw (p.1, p.2) (shown m _ _ _ e (ap note_held (sym (simp q))) (ap (held 64) (sym (simp q))))

pub enclosed-inside-requires : goal.enclosed-inside-requires
enclosed-inside-requires c = let d = order_facts c.args.message.now c.in_ok-payment.ensures in omega arith

pub overflow_sub-size : goal.overflow_sub-size
overflow_sub-size c = let d = order_facts c.args.message.now c.in_ok-payment.ensures in omega (arith, c.enclosed-inside.ensures.1)

pub cut-requires : goal.cut-requires
cut-requires c = let d = order_facts c.args.message.now c.in_ok-payment.ensures in omega (arith, c.enclosed-inside.ensures.1)

pub note_of-requires : goal.note_of-requires
note_of-requires c = let d = order_facts c.args.message.now c.in_ok-payment.ensures in omega (arith, c.enclosed-inside.ensures.1, c.cut.ensures.1)

pub cut-requires-2 : goal.cut-requires-2
cut-requires-2 c = let d = order_facts c.args.message.now c.in_ok-payment.ensures in omega (arith, c.enclosed-inside.ensures.1)

pub returns : goal.returns
returns c =
    let m = c.args.message.now in
    let e = c.in_ok-payment.ensures in
    let d = order_facts m e in
    let n = c.cut.ensures.0 ∙ ap note_in c.enclosed-inside.ensures.0 in
    let g = c.cut-2.ensures.0 ∙ ap (λ (j : ℕ). cut m (j + 6) 64) c.enclosed-inside.ensures.1 in
    shown m _ _ _ e (c.note_of.ensures ∙ ap note_held (n ∙ sym (simp d.accepted))) (c.held.ensures ∙ ap (held 64) (g ∙ sym (simp d.accepted)))
