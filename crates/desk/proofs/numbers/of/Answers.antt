use mathlib.Core.Path.{◌∙◌}
use Rattle.desk.proofs.Crossing.{refusal_packed}
use Rattle.desk.proofs.numbers.of.Goals as goal

pub returns-in-Err : goal.returns-in-Err
returns-in-Err g c = rw c.in-Err.is (c.number.ensures ∙ refusal_packed g.T.SideBySide.bits _)
