use mathlib.Core.Path.{◌∙◌}
use borrow.Author.Rules.{rules}
use borrow.Author.Tests.{le-leb, lt-leb, eq-eqb, ne_eqb}
use Rattle.std.proofs.lemmas.Result.{err_from_is_err_and}
use Rattle.wire.specs.Writers.{unwritten, write_certificate}
use Rattle.messages.proofs.Onward.{payment_onward, payment_most}
use Rattle.writing.proofs.write_certificate.Goals as goal

pub returns-then-f-gt5 : goal.returns-then-f-gt5
unfolding write_certificate
returns-then-f-gt5 c = simp (lt-leb _ _ c.if-f-gt5.true)

pub returns-then-run-ne0 : goal.returns-then-run-ne0
unfolding write_certificate
returns-then-run-ne0 c = simp (le-leb _ _ c.if-f-gt5.false, ne_eqb _ _ c.if-run-ne0.true)

pub returns-in_err-read_payment : goal.returns-in_err-read_payment
unfolding write_certificate
returns-in_err-read_payment c =
    let p = err_from_is_err_and c.from_residual.result c.from_residual.ensures.1 in
    rw (p.1, p.2) (simp (le-leb _ _ c.if-f-gt5.false, eq-eqb _ _ c.if-run-ne0.false)
    (payment_onward (λ n. unwritten n c.args.out.now) _ _ c.in_err-read_payment.ensures))

pub write_voted-requires : goal.write_voted-requires
write_voted-requires c = (search rules, payment_most _ c.in_ok-read_payment.ensures, search rules)

pub returns : goal.returns
unfolding write_certificate
returns c =
    simp (le-leb _ _ c.if-f-gt5.false, eq-eqb _ _ c.if-run-ne0.false)
    (c.write_voted.ensures ∙ payment_onward (λ n. unwritten n c.args.out.now) _ _ c.in_ok-read_payment.ensures)
