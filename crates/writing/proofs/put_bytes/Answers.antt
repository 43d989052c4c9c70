use Prim.Native.Nat.{ℕ, ◌+◌}
use mathlib.Core.Path.{refl, ap, ◌∙◌}
use mathlib.Core.List.{List}
use lib.ListN.{get_or, set, length-set}
use Rattle.octets.specs.Octets.{put}
use Rattle.writing.proofs.Turn.{put_more}
use Rattle.writing.proofs.put_bytes.Goals as goal

pub loop-i-init : goal.loop-i-init
unfolding put
loop-i-init c = (refl, refl)

pub loop-i-preserved : goal.loop-i-preserved
loop-i-preserved c =
    (ap (λ (l : List ℕ). set l (c.args.at + c.loop-i.i) (get_or c.args.part.now c.loop-i.i 0)) c.loop-i.invariant.0 ∙ put_more _ _ _ _ c.loop-i-test.true, simp length-set c.loop-i.invariant.1)
