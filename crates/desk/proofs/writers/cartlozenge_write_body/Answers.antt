use mathlib.Core.Path.{ap}
use Rattle.wire.specs.Writers.{Written}
use Rattle.desk.specs.Layout.{written_bits}
use Rattle.desk.specs.Theorems.{body_says}
use Rattle.desk.proofs.Crossing.{fits}
use Rattle.desk.proofs.writers.cartlozenge_write_body.Goals as goal

pub of-requires : goal.of-requires
of-requires c = fits written_bits (ap (λ (w : Written). w.answer) c.write_body.ensures) (body_says _ _ _)
