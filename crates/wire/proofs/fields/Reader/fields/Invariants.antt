use Rattle.wire.specs.Fields.{past_all}
use lib.ListN.{length}
use Prim.Native.Nat.{◌-◌}
use Rattle.wire.proofs.Reached.{Reads}
use Rattle.wire.proofs.fields.Reader.fields.Given as goal

abbrev pub invariant-loop-reader : goal.invariant-loop-reader
invariant-loop-reader l = Reads l.self.message (past_all (length l.self.message.now) l.self.message.now l.self.at l.tag l.size l.size) l.tag l.size l.reader

abbrev pub decreases-loop-reader : goal.decreases-loop-reader
decreases-loop-reader l = length l.reader.message.now - l.reader.at
