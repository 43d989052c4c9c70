use Rattle.std.proofs.Common.{◌∙◌}
use Rattle.octets.proofs.Laws.{put_all}
use Rattle.records.specs.Records.{record_at}
use Rattle.records.proofs.record.Record.read.Goals as goal

pub returns : goal.returns
unfolding record_at
returns c = simp (← c.place-at.ensures.0, c.held.ensures ∙ put_all _ _ c.cut.ensures.1, c.cut.ensures.0, c.lift.ensures, c.get-4.ensures.0, c.get-3.ensures.0, c.get-2.ensures.0, c.get.ensures.0)
