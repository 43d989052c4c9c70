use Prim.Native.Nat.{◌+◌, ◌*◌}
use mathlib.Core.Path.{◌≡◌}
use Rattle.votes.specs.Reach.{machines_of}
use Rattle.votes.proofs.Tallies.{Counting, left}
use Rattle.votes.proofs.Votes.tally.Given as goal

abbrev pub invariant-loop : goal.invariant-loop
invariant-loop l =
    (l.place ≡ l.self.place + l.self.step * l.counter)
    × Counting l.last (machines_of l.self l.n) l.tally (left l.self l.n l.counter)
