use borrow.Author.Tests.{eq-eqb, ne_eqb}
use Rattle.text.specs.Ascii.{ascii}
use Rattle.text.proofs.PageLaws.{says_then}
use Rattle.papers.specs.Papers.{note_text}
use Rattle.papers.proofs.note.Goals as goal

pub returns-then-note-eq0 : goal.returns-then-note-eq0
unfolding ascii note_text
returns-then-note-eq0 c = rw (eq-eqb _ _ c.if-note-eq0.true) c.say.ensures

pub returns : goal.returns
unfolding ascii note_text
returns c = rw (ne_eqb _ _ c.if-note-eq0.false, ← c.up_to.ensures) (says_then _ _ _ c.say-2.ensures c.say_hexadecimal.ensures)
