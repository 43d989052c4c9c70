use mathlib.Core.Path.{ap}
use Rattle.wire.specs.Writers.{Written}
use Rattle.desk.specs.Layout.{written_bits}
use Rattle.desk.specs.Theorems.{certificate_written_says}
use Rattle.desk.proofs.Crossing.{fits}
use Rattle.desk.proofs.writers.cartlozenge_write_certificate.Goals as goal

pub of-requires : goal.of-requires
of-requires c = fits written_bits (ap (λ (w : Written). w.answer) c.write_certificate.ensures) (certificate_written_says _ _ _ _)
