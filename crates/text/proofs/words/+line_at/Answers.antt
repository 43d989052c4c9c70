use Rattle.text.specs.Words.{line_at}
use Rattle.text.proofs.LineLaws.{line_next}
use Rattle.text.proofs.words.+line_at.Goals as goal

pub returns-then-k-eq0 : goal.returns-then-k-eq0
unfolding line_at
returns-then-k-eq0 t c = rw (c.if-k-eq0.true, ← c.line_end.ensures.0) c.cut.ensures.0

pub returns : goal.returns
returns t c = rw (line_next _ _ c.if-k-eq0.false, ← c.behind_line.ensures) c.line_at.ensures
