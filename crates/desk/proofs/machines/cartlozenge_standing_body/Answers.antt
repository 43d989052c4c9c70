use Rattle.desk.specs.Layout.{stretch_bits}
use Rattle.desk.specs.Theorems.{standing_says}
use Rattle.desk.proofs.Crossing.{fits}
use Rattle.desk.proofs.machines.cartlozenge_standing_body.Goals as goal

pub of-requires : goal.of-requires
of-requires c = fits stretch_bits c.standing_at.ensures (standing_says _ _)
