use Rattle.ledger.proofs.Facts.{bit_value, bit_fits}
use lib.Bits.{bit_or}
use mathlib.Core.Path.{ap}
use Rattle.ledger.proofs.log.marked.Goals as goal

pub returns : goal.returns
returns c = let e = bit_value c.args.sequence.0 in (ap (bit_or c.args.byte) e, rw e (bit_fits c.args.byte c.args.sequence.0 c.requires))
