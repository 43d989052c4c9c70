use Rattle.std.proofs.Common.{sym, arith, leb-true}
use Rattle.octets.proofs.TestLaws.{both}
use Rattle.wire.specs.Numbers.{is_faults}
use Rattle.machine.proofs.make_fresh.Goals as goal

pub write_fresh-requires : goal.write_fresh-requires
write_fresh-requires c = let t = both (is_faults c.args.committee.faults) _ (sym c.if-not-seats.ensures) in (omega (arith, leb-true _ _ t.0), omega (arith, leb-true _ _ t.0, leb-true _ _ t.1))
