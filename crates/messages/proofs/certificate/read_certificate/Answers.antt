use mathlib.Core.Bool.{true}
use mathlib.Core.List.{◌∷◌}
use mathlib.Core.Path.{ap, ◌∙◌}
use borrow.Author.Tests.{le-leb}
use Rattle.std.proofs.lemmas.Result.{err_from_is_err_and}
use Rattle.wire.specs.Messages.{inside}
use Rattle.wire.specs.Refusals.{gives, refuses, payment_values}
use Rattle.wire.specs.Readers.{read_payment, read_certificate_of}
use Rattle.wire.specs.Votes.{signers_in}
use Rattle.messages.proofs.Onward.{payment_onward, votes_onward, votes_number}
use Rattle.messages.proofs.Told.{payment_told, votes_told}
use Rattle.messages.proofs.certificate.read_certificate.Goals as goal

pub returns-in_err-opened : goal.returns-in_err-opened
unfolding read_certificate_of
returns-in_err-opened c =
    let p = err_from_is_err_and c.from_residual.result c.from_residual.ensures.1 in
    rw (p.1, p.2) (c.in_err-opened.ensures _)

pub returns-in_err-payment : goal.returns-in_err-payment
unfolding read_certificate_of
returns-in_err-payment c =
    let o = c.in_ok-opened.ensures in
    let p = err_from_is_err_and c.from_residual-in_err-payment.result c.from_residual-in_err-payment.ensures.1 in
    rw (p.1, p.2) (simp (le-leb _ _ o.faults, o.laid_down) (payment_onward refuses _ _ (c.in_err-payment.ensures ∙ ap read_payment o.body)))

pub count-requires : goal.count-requires
count-requires c = let o = c.in_ok-opened.ensures in (o.faults, (votes_told o).0)

pub returns-in_err-machines : goal.returns-in_err-machines
unfolding read_certificate_of
returns-in_err-machines c =
    let o = c.in_ok-opened.ensures in
    let paid = c.in_ok-payment.ensures ∙ ap read_payment o.body in
    let p = err_from_is_err_and c.from_residual-in_err-machines.result c.from_residual-in_err-machines.ensures.1 in
    rw (p.1, p.2) (simp (le-leb _ _ o.faults, o.laid_down)
    (votes_onward refuses _ c.args.f _ true (rw (votes_told o).1 at c.in_err-machines.ensures) ∙ payment_onward refuses _ _ paid))

pub returns : goal.returns
unfolding read_certificate_of
returns c =
    let o = c.in_ok-opened.ensures in
    let m = c.args.message.now in
    let paid = c.in_ok-payment.ensures ∙ ap read_payment o.body in
    let voted = rw (votes_told o).1 at c.in_ok-machines.ensures in
    let number = votes_number c.args.f (signers_in m) true voted in
    let payment = (payment_told _ (inside m) paid).1 in
    simp (le-leb _ _ o.faults, o.laid_down)
    ((λ i. gives (number i ∷ payment_values (payment i))) ∙ votes_onward refuses _ c.args.f _ true voted ∙ payment_onward refuses _ _ paid)
