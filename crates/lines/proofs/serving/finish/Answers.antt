use mathlib.Core.Path.{refl, sym, ◌∙◌}
use borrow.Author.Tests.{eqb-true}
use Rattle.text.proofs.PageLaws.{said_nothing}
use Rattle.lines.proofs.serving.finish.Goals as goal

pub returns-then-held : goal.returns-then-held
returns-then-held c = (refl, rw c.if-held.true (sym (said_nothing _)))

pub returns-then-is_empty : goal.returns-then-is_empty
returns-then-is_empty c = (refl, rw (c.if-held.false, ← c.up_to.ensures, eqb-true _ _ (sym c.is_empty.ensures ∙ c.if-is_empty.true)) (sym (said_nothing _)))
