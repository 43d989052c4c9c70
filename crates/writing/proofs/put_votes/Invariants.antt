use Prim.Native.Nat.{◌+◌, ◌*◌, ◌/◌, ◌≤◌}
use mathlib.Core.Path.{◌≡◌}
use lib.ListN.{length}
use Rattle.std.specs.Slice.Iter.{chunks_exact_size, chunks_exact_rest}
use Rattle.octets.specs.Octets.{put}
use Rattle.writing.proofs.Written.{all_votes}
use Rattle.writing.proofs.put_votes.Given as goal

abbrev pub invariant-loop-vote : goal.invariant-loop-vote
invariant-loop-vote l =
    let rest = chunks_exact_rest l.vote-iterator in
    (chunks_exact_size l.vote-iterator ≡ 65) × (l.place + 68 * (length rest / 65) ≤ length l.out) × (length l.out ≡ length l.initial.out)
    × (put l.out l.place (all_votes rest) ≡ put l.initial.out l.at (all_votes l.run))
