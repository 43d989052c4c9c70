use Rattle.records.specs.Records.{fresh_record}
use Rattle.std.proofs.Common.{rules}
use Rattle.records.proofs.record.Record.fresh.Goals as goal

pub returns : goal.returns
unfolding fresh_record
returns c = search rules
