use Rattle.std.proofs.Common.{arith}
use Rattle.records.proofs.Facts.{pending_fits}
use Rattle.records.proofs.record.Record.pending.Goals as goal

pub cut-requires : goal.cut-requires
cut-requires c = omega (arith, rw (← c.place-at.ensures.0) at (pending_fits _ _ _ c.requires.1), c.get-n.ensures.0)
