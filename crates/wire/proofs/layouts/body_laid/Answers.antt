use mathlib.Core.Path.{sym, ◌∙◌}
use native.Mathlib.Omega.{arith}
use native.Mathlib.Nat.{lt_irrefl}
use Rattle.wire.specs.Fields.{laid}
use Rattle.wire.specs.Messages.{body_fields}
use Rattle.wire.proofs.FieldLaws.{fails}
use Rattle.wire.proofs.Reached.{arrived}
use Rattle.wire.proofs.Laid.{body_laid, whole_laid, not_laid}
use Rattle.wire.proofs.layouts.body_laid.Goals as goal

pub returns-then-body-lt25 : goal.returns-then-body-lt25
returns-then-body-lt25 c = sym (fails (laid c.args.body.now body_fields) (λ h. lt_irrefl 0 (omega (arith, (body_laid _ h).least))))

pub returns-in_default : goal.returns-in_default
returns-in_default c = sym (not_laid c.args.body body_fields c.in_default.ensures)

pub returns : goal.returns
returns c = c.whole.ensures ∙ whole_laid (arrived {fields = body_fields} c.in-Some.ensures)
