use mathlib.Core.Path.{ap}
use Rattle.ledger.specs.Answers.{FundOutcome}
use Rattle.desk.specs.Layout.{fund_bits}
use Rattle.desk.specs.Theorems.{fund_says}
use Rattle.desk.proofs.Crossing.{fits}
use Rattle.desk.proofs.ledgers.cartlozenge_fund.Goals as goal

pub of-requires : goal.of-requires
of-requires c = fits fund_bits (ap (λ (o : FundOutcome). o.answer) c.fund.ensures) (fund_says _ _ _ _)
