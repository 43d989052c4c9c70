use mathlib.Core.Path.{refl}
use native.Mathlib.Omega.{arith}
use lib.ListN.{length-drop, drop_of_length-le}
use Rattle.octets.specs.Octets.{put}
use Rattle.text.proofs.ArrivalLaws.{moved_front}
use Rattle.text.proofs.arrivals.move_front.Goals as goal

pub returns-then-end-from : goal.returns-then-end-from
unfolding put
returns-then-end-from c =
    let none = rw c.up_to-end.ensures at c.if-end-from.true in
    rw (drop_of_length-le _ none) (refl, refl)

pub returns : goal.returns
returns c =
    let some = rw c.up_to-end.ensures at c.if-end-from.false in
    rw (c.copy_within.ensures.after, c.up_to-end.ensures, length-drop)
    (moved_front c.args.s.now c.args.from c.args.filled (omega (arith, some)), refl)
