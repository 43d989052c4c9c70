use mathlib.Core.Path.{sym, ◌∙◌}
use Rattle.text.specs.Ascii.{ascii}
use Rattle.text.proofs.PageLaws.{says_then}
use Rattle.wording.specs.Answers.{standing_text}
use Rattle.wording.proofs.standing.Goals as goal

pub returns-then-is_empty : goal.returns-then-is_empty
unfolding ascii standing_text
returns-then-is_empty c = rw (sym c.is_empty.ensures ∙ c.if-is_empty.true) c.say.ensures

pub returns-else-is_empty : goal.returns-else-is_empty
unfolding ascii standing_text
returns-else-is_empty c = rw (sym c.is_empty.ensures ∙ c.if-is_empty.false) (says_then _ _ _ c.say-else-is_empty.ensures c.say_hexadecimal.ensures)
