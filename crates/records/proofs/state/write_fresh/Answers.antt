use Rattle.records.proofs.Facts.{own_put}
use Rattle.records.specs.States.{fresh_state}
use Rattle.records.proofs.state.write_fresh.Goals as goal

pub returns : goal.returns
unfolding fresh_state
returns c = own_put c.args.committee.faults c.args.own.0 4614 (rw c.told-s at c.write_fresh.ensures) c.put.ensures
