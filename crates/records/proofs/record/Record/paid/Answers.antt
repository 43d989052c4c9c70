use Rattle.records.specs.Records.{paid, fresh_record}
use Rattle.records.proofs.record.Record.paid.Goals as goal

pub returns : goal.returns
unfolding paid fresh_record
returns c = simp c.fresh.ensures
