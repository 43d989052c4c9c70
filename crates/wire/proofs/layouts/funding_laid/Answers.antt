use mathlib.Core.Path.{sym, ◌∙◌}
use Rattle.wire.specs.Fields.{laid}
use Rattle.wire.specs.Messages.{funding_fields}
use Rattle.wire.proofs.FieldLaws.{fails}
use Rattle.wire.proofs.Reached.{arrived}
use Rattle.wire.proofs.Laid.{funding_laid, whole_laid, not_laid}
use Rattle.wire.proofs.layouts.funding_laid.Goals as goal

pub returns-then-message-ne16 : goal.returns-then-message-ne16
returns-then-message-ne16 c = sym (fails (laid c.args.message.now funding_fields) (λ h. c.if-message-ne16.true (funding_laid _ h).sixteen))

pub returns-in_default : goal.returns-in_default
returns-in_default c = sym (not_laid c.args.message funding_fields c.in_default.ensures)

pub returns : goal.returns
returns c = c.whole.ensures ∙ whole_laid (arrived {fields = funding_fields} c.in-Some.ensures)
