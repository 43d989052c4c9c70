use native.Mathlib.Omega.{arith}
use Rattle.votes.proofs.Tallies.{counting_none, counting_more, counting_all, left_all, left_more, left_none}
use Rattle.votes.proofs.Votes.tally.Goals as goal

pub loop-init : goal.loop-init
loop-init c = (omega arith, rw (left_all c.args.self c.args.n) (counting_none _ _))

pub loop-preserved : goal.loop-preserved
loop-preserved c = (
  omega arith,
  rw (c.with-tally.ensures, c.get-machine.ensures.0, c.loop.invariant.0)
      (counting_more _ _ _ _ _ (rw (left_more c.args.self c.loop-test.true) at c.loop.invariant.1)),
)

pub returns : goal.returns
returns c = counting_all _ _ _ (rw (left_none c.args.self c.loop-test.false) at c.loop.invariant.1)
