use Rattle.std.proofs.Common.{◌≡◌, length, take}
use Rattle.octets.proofs.refill.Given as goal

abbrev pub invariant-loop-i : goal.invariant-loop-i
invariant-loop-i l = (length l.to ≡ length l.initial.to) × (take l.i l.to ≡ take l.i l.from)
