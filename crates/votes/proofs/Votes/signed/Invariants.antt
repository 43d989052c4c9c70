use mathlib.Core.Path.{◌≡◌}
use lib.ListN.{length, drop}
use Rattle.wire.specs.Votes.{good}
use Rattle.votes.specs.Reach.{machines_of}
use Rattle.votes.proofs.Tallies.{Counting, fine_tally, left}
use Rattle.votes.proofs.Votes.signed.Given as goal

abbrev pub invariant-loop-i : goal.invariant-loop-i
invariant-loop-i l =
    (good l.verdicts ≡ good (drop l.i l.verdicts))
    × Counting l.last (machines_of l.self (length l.verdicts)) (fine_tally l.least l.mask) (left l.self (length l.verdicts) l.i)
