use Rattle.records.specs.Records.{holding}
use Rattle.records.proofs.record.Record.holding.Goals as goal

pub returns : goal.returns
unfolding holding
returns c = simp c.held.ensures
