use mathlib.Core.Path.{ap}
use Rattle.states.specs.Outcomes.{Outcome}
use Rattle.desk.specs.Layout.{redeem_bits}
use Rattle.desk.specs.Theorems.{redeem_says}
use Rattle.desk.proofs.Crossing.{fits}
use Rattle.desk.proofs.ledgers.cartlozenge_redeem.Goals as goal

pub of-requires : goal.of-requires
of-requires c = fits redeem_bits (ap (λ (o : Outcome). o.answer) c.redeem.ensures) (redeem_says _ _ _)
