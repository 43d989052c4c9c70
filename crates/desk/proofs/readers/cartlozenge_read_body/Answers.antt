use mathlib.Core.Path.{ap, ◌∙◌}
use Rattle.wire.specs.Refusals.{Said}
use Rattle.wire.specs.Readers.{BodyShown}
use Rattle.desk.specs.Layout.{showing, noted}
use Rattle.desk.proofs.Crossing.{body_noted}
use Rattle.desk.proofs.readers.cartlozenge_read_body.Goals as goal

pub returns : goal.returns
returns c =
    c.show.ensures ∙ ap (λ (said : Said). showing said c.args.values.now) (body_noted c.read_body.result)
    ∙ ap (λ (shown : BodyShown). showing (noted shown.answer shown.note.length) c.args.values.now) c.read_body.ensures
