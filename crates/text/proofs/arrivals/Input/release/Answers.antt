use mathlib.Core.Path.{refl}
use Rattle.text.proofs.ArrivalLaws.{moved}
use Rattle.text.proofs.arrivals.Input.release.Goals as goal

pub returns-clause-left : goal.returns-clause-left
returns-clause-left c =
    let before = c.args.self.now in
    let front = c.move_front-self.ensures in
    (refl, moved before.buffer.now c.args.n before.filled front.0 front.1)
