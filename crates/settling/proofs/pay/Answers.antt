use Rattle.std.proofs.Common.{arith, ne_eqb}
use Rattle.wire.proofs.Ranges.{payment_range}
use Rattle.records.proofs.Facts.{formed_fits, fits_credited}
use Rattle.settling.proofs.pay.Goals as goal

pub write-requires-3 : goal.write-requires-3
write-requires-3 c =
    let p = payment_range _ c.requires.0 in
    let f = formed_fits _ _ _ (rw (ne_eqb _ _ c.if-payment-eq1.false) at c.requires.3) in
    (p.recipient (omega (arith, c.if-payment-eq1.false)), rw c.credited-payee.ensures (fits_credited _ _ (rw c.read-to.ensures f) c.if-to-amount-gt-HIGHEST.false))
