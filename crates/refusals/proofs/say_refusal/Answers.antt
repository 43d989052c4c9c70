use Rattle.text.specs.Ascii.{ascii}
use Rattle.text.proofs.PageLaws.{says_then}
use Rattle.refusals.proofs.say_refusal.Goals as goal

pub returns : goal.returns
unfolding ascii
returns c =
    says_then _ _ _ (says_then _ _ _ c.say_numbered.ensures c.say.ensures) (rw c.line_at.ensures at c.say-2.ensures)
