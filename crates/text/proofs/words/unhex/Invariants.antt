use mathlib.Core.Path.{◌≡◌}
use Prim.Native.Nat.{◌*◌}
use lib.ListN.{drop}
use Rattle.octets.specs.Octets.{put}
use Rattle.text.specs.Words.{unhexed}
use Rattle.text.proofs.words.unhex.Given as goal

abbrev pub invariant-loop-i : goal.invariant-loop-i
invariant-loop-i l = put l.out l.i (unhexed (drop (2 * l.i) l.word)) ≡ put l.initial.out 0 (unhexed l.word)
