use mathlib.Core.Path.{ap}
use Rattle.wire.specs.Writers.{Written}
use Rattle.desk.specs.Layout.{written_bits}
use Rattle.desk.specs.Theorems.{funding_says}
use Rattle.desk.proofs.Crossing.{fits}
use Rattle.desk.proofs.writers.cartlozenge_write_funding_order.Goals as goal

pub of-requires : goal.of-requires
of-requires c = fits written_bits (ap (λ (w : Written). w.answer) c.write_funding.ensures) (funding_says _ _)
