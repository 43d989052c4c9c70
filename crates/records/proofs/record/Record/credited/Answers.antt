use Rattle.records.specs.Records.{credited}
use Rattle.std.proofs.Common.{rules}
use Rattle.records.proofs.record.Record.credited.Goals as goal

pub returns : goal.returns
unfolding credited
returns c = search rules
