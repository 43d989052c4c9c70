use mathlib.Core.Path.{◌∙◌}
use mathlib.Core.Bool.{true}
use Rattle.votes.proofs.Tallies.{tally_given}
use Rattle.votes.proofs.Votes.count.Goals as goal

pub returns : goal.returns
returns c = c.judge.ensures ∙ tally_given _ _ true _ c.tally.ensures
