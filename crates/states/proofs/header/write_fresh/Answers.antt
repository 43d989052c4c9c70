use Rattle.states.proofs.Fresh.{fresh_filled}
use Rattle.states.proofs.header.write_fresh.Goals as goal

pub returns : goal.returns
returns c = fresh_filled c.args.s.now c.args.committee.faults c.requires.0 (c.fill.ensures.after (λ y e. e)) c.put.ensures
