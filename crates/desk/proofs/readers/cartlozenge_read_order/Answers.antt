use mathlib.Core.Path.{ap, ◌∙◌}
use Rattle.wire.specs.Refusals.{Said}
use Rattle.wire.specs.Readers.{OrderShown}
use Rattle.desk.specs.Layout.{showing, noted}
use Rattle.desk.proofs.Crossing.{order_noted}
use Rattle.desk.proofs.readers.cartlozenge_read_order.Goals as goal

pub returns : goal.returns
returns c =
    c.show.ensures ∙ ap (λ (said : Said). showing said c.args.values.now) (order_noted c.read_order.result)
    ∙ ap (λ (shown : OrderShown). showing (noted shown.answer shown.note.length) c.args.values.now) c.read_order.ensures
