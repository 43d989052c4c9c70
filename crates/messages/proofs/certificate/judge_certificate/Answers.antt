use mathlib.Core.Path.{ap, ◌∙◌}
use Rattle.wire.specs.Refusals.{gives, payment_values}
use mathlib.Core.List.{◌∷◌}
use Rattle.wire.specs.declared.kinds.Payment.{Payment}
use Rattle.messages.proofs.Told.{counted_found}
use Rattle.messages.proofs.certificate.judge_certificate.Goals as goal

pub payment-requires : goal.payment-requires
payment-requires c = let d = (counted_found c.args.f c.args.message.now c.args.verdicts.now _ c.in_ok-machines.ensures).0 in (d.laid_down, d.formed)

pub returns : goal.returns
returns c =
    ap (λ (p : Payment). gives (c.in_ok-machines.machines ∷ payment_values p)) c.payment.ensures
    ∙ (counted_found c.args.f c.args.message.now c.args.verdicts.now _ c.in_ok-machines.ensures).1
