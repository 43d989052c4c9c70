use mathlib.Core.Path.{sym, ◌∙◌}
use borrow.Author.Tests.{eq-eqb, ne_eqb}
use Rattle.text.specs.Words.{is_bytes}
use Rattle.text.proofs.words.is_bytes.Goals as goal

pub returns-then-is_stroke : goal.returns-then-is_stroke
unfolding is_bytes
returns-then-is_stroke c = rw (sym c.is_stroke.ensures ∙ c.if-is_stroke.true)

pub returns-then-word-ne0 : goal.returns-then-word-ne0
unfolding is_bytes
returns-then-word-ne0 c = simp (sym c.is_stroke.ensures ∙ c.if-is_stroke.false, ne_eqb _ _ c.if-word-ne0.true)

pub returns : goal.returns
unfolding is_bytes
returns c = simp (sym c.is_stroke.ensures ∙ c.if-is_stroke.false, eq-eqb _ _ c.if-word-ne0.false) c.are_digits.ensures
