use mathlib.Core.Path.{sym, ap, ◌∙◌}
use mathlib.Core.List.{◌∷◌}
use Rattle.wire.specs.Refusals.{gives, payment_values}
use Rattle.wire.specs.declared.kinds.Payment.{Payment}
use Rattle.messages.proofs.Onward.{count_refused}
use Rattle.messages.proofs.Told.{counted_found}
use Rattle.desk.proofs.Crossing.{shown, refusal_shown}
use Rattle.desk.proofs.readers.cartlozenge_judge_certificate.Goals as goal

pub payment-payment-requires : goal.payment-payment-requires
payment-payment-requires c = let d = (counted_found c.args.f c.args.message.now c.args.verdicts.now _ c.in-Ok.ensures).0 in (d.laid_down, d.formed)

pub returns-in-Ok : goal.returns-in-Ok
returns-in-Ok c =
    let d = counted_found c.args.f c.args.message.now c.args.verdicts.now _ c.in-Ok.ensures in
    shown _ (c.values.ensures.1 ∙ sym c.told-values)
    (ap gives c.values.ensures.0 ∙ ap (λ (p : Payment). gives (c.in-Ok.machines ∷ payment_values p)) c.payment-payment.ensures ∙ d.1)

pub returns-in-Err : goal.returns-in-Err
returns-in-Err c = refusal_shown _ c.number.ensures (count_refused _ _ c.in-Err.ensures)
