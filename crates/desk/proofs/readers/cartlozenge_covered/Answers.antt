use mathlib.Core.Path.{ap}
use Rattle.desk.specs.Layout.{stretch_bits, stretch_said}
use Rattle.desk.specs.Theorems.{covered_says}
use Rattle.desk.proofs.Crossing.{fits}
use Rattle.desk.proofs.readers.cartlozenge_covered.Goals as goal

pub of-requires : goal.of-requires
of-requires c = fits stretch_bits (ap stretch_said c.covered_at.ensures.0) (covered_says _)
