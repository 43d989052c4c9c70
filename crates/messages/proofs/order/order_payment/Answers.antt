use native.Mathlib.Omega.{arith}
use Rattle.wire.specs.Readers.{read_payment}
use mathlib.Core.Path.{ap, ◌∙◌}
use Rattle.messages.proofs.Places.{order_encloses}
use Rattle.messages.proofs.order.order_payment.Goals as goal

pub cut-requires : goal.cut-requires
cut-requires c = let d = (order_encloses c.args.message.now c.in-Some.ensures).1 in omega arith

pub returns : goal.returns
returns c = let d = order_encloses c.args.message.now c.in-Some.ensures in
    simp d.0 (c.read_payment.ensures ∙ ap read_payment (c.cut.ensures.0 ∙ d.1.body))
