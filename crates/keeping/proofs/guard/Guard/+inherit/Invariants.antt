-- The depth of the heirs is at most eight.
use Rattle.std.proofs.Common.{◌-◌}
use Rattle.keeping.proofs.guard.Guard.+inherit.Given as goal

abbrev pub decreases-inherit : goal.decreases-inherit
decreases-inherit l = 8 - l.depth
