use mathlib.Core.Path.{sym, ◌∙◌}
use borrow.Author.Tests.{le-leb, lt-leb}
use Rattle.wire.specs.Writers.{write_body}
use Rattle.writing.proofs.Written.{length_body, writes_small, writes_room}
use Rattle.writing.proofs.write_body.Goals as goal

pub returns-then-not-in_range : goal.returns-then-not-in_range
unfolding write_body
returns-then-not-in_range c = simp (sym c.in_range.ensures ∙ c.if-not-in_range.true)

pub returns-then-note-gt32 : goal.returns-then-note-gt32
unfolding write_body
returns-then-note-gt32 c = simp ((sym c.in_range.ensures ∙ c.if-not-in_range.false), lt-leb _ _ c.if-note-gt32.true)

pub returns-then-out-size : goal.returns-then-out-size
unfolding write_body
returns-then-out-size c = simp ((sym c.in_range.ensures ∙ c.if-not-in_range.false), le-leb _ _ c.if-note-gt32.false) (writes_small _ _ (length_body _ _) c.if-out-size.true)

pub returns : goal.returns
unfolding write_body
returns c = simp ((sym c.in_range.ensures ∙ c.if-not-in_range.false), le-leb _ _ c.if-note-gt32.false)
    (writes_room _ _ (length_body _ _) c.if-out-size.false c.put_body.ensures)
