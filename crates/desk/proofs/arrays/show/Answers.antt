use mathlib.Core.Path.{refl, sym, ap, ◌∙◌}
use Rattle.wire.specs.Refusals.{gives}
use Rattle.desk.proofs.Crossing.{shown, refusal_shown}
use Rattle.desk.proofs.arrays.show.Goals as goal

pub returns-in-Ok : goal.returns-in-Ok
returns-in-Ok g c = rw c.in-Ok.is (shown _ (c.values.ensures.1 ∙ sym c.told-values) (ap gives c.values.ensures.0))

pub returns-in-Err : goal.returns-in-Err
returns-in-Err g c = rw c.in-Err.is (refusal_shown _ c.number.ensures refl)
