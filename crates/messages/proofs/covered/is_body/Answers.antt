use mathlib.Core.Path.{◌∙◌}
use Rattle.messages.proofs.Onward.{payment_tells}
use Rattle.messages.proofs.covered.is_body.Goals as goal

pub returns : goal.returns
returns c = let v = c.is_ok.ensures.value in c.is_ok.ensures.value ∙ payment_tells _ _ c.read_payment.ensures
