use Rattle.std.proofs.Common.{◌≡◌, length, take}
use Rattle.octets.specs.Octets.{put}
use Rattle.writing.proofs.put_bytes.Given as goal

abbrev pub invariant-loop-i : goal.invariant-loop-i
invariant-loop-i l = (l.out ≡ put l.initial.out l.at (take l.i l.part)) × (length l.out ≡ length l.initial.out)
