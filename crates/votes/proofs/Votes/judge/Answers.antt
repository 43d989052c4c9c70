use mathlib.Core.Path.{◌∙◌}
use Rattle.votes.proofs.Tallies.{tally_given, signed_given}
use Rattle.votes.proofs.Votes.judge.Goals as goal

pub returns-in_default : goal.returns-in_default
returns-in_default c = c.judge.ensures ∙ rw c.all_good.ensures (tally_given _ _ _ _ c.tally.ensures)

pub returns : goal.returns
returns c = c.quorum.ensures ∙ signed_given _ _ _ _ c.in-Some.ensures
