use mathlib.Core.Path.{sym}
use native.Mathlib.Omega.{arith}
use mir.Syntax.{w64}
use mir.Facts.{to_z-of_z}
use Rattle.desk.proofs.Crossing.{bit_byte, account_crossed, refusal_read}
use Rattle.desk.proofs.machines.cartlozenge_account.Goals as goal

pub returns-in-Ok : goal.returns-in-Ok
returns-in-Ok c =
    let back = to_z-of_z {w = w64} {z = c.in-Ok.reading.balance} (record { sfits = omega arith }) in
    account_crossed _ _ (sym c.told-values) (rw (c.from.ensures, bit_byte, back) c.in-Ok.ensures)

pub returns-in-Err : goal.returns-in-Err
returns-in-Err c = refusal_read c.in-Err.refusal _ _ c.number.ensures c.in-Err.ensures
