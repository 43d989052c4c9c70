use mathlib.Core.Path.{ap}
use Rattle.states.specs.Outcomes.{Outcome}
use Rattle.desk.specs.Layout.{certificate_bits}
use Rattle.desk.specs.Theorems.{certificate_says}
use Rattle.desk.proofs.Crossing.{fits}
use Rattle.desk.proofs.machines.cartlozenge_certificate.Goals as goal

pub of-requires : goal.of-requires
of-requires c = fits certificate_bits (ap (λ (o : Outcome). o.answer) c.handle_certificate.ensures) (certificate_says _ _ _)
