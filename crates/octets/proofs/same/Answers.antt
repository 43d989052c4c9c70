use Rattle.std.proofs.Common.{◌∙◌}
use Rattle.octets.proofs.Parts.{same_bytes}
use Rattle.octets.proofs.same.Goals as goal

pub returns : goal.returns
returns c = c.eq.ensures ∙ same_bytes _ _
