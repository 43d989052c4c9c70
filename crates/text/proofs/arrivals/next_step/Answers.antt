use lib.ListN.{length}
use borrow.Author.Tests.{lt-ltb, le-ltb, lt-leb, le-leb}
use Rattle.text.specs.Arrivals.{next_of}
use Rattle.text.proofs.arrivals.next_step.Goals as goal

pub returns-then-held : goal.returns-then-held
unfolding next_of
returns-then-held c =
    rw (← c.up_to-bytes.ensures, ← c.line_end.ensures.0, lt-ltb _ _ c.if-line_end-bytes.true, c.if-held.true)

pub returns-then-line_end-bytes : goal.returns-then-line_end-bytes
unfolding next_of
returns-then-line_end-bytes c =
    rw (← c.up_to-bytes.ensures, ← c.line_end.ensures.0, lt-ltb _ _ c.if-line_end-bytes.true, c.if-held.false)

pub returns-then-held-2 : goal.returns-then-held-2
unfolding next_of
returns-then-held-2 c =
    rw (← c.up_to-bytes.ensures, ← c.line_end.ensures.0, le-ltb _ _ c.if-line_end-bytes.false, c.if-held-2.true)

pub returns-then-bytes-gt-LINE : goal.returns-then-bytes-gt-LINE
unfolding next_of
returns-then-bytes-gt-LINE c =
    rw (← c.up_to-bytes.ensures, ← c.line_end.ensures.0, le-ltb _ _ c.if-line_end-bytes.false, c.if-held-2.false, lt-leb (length c.up_to-bytes.result.now) 4_096 c.if-bytes-gt-LINE.true)

pub returns : goal.returns
unfolding next_of
returns c =
    rw (← c.up_to-bytes.ensures, ← c.line_end.ensures.0, le-ltb _ _ c.if-line_end-bytes.false, c.if-held-2.false, le-leb (length c.up_to-bytes.result.now) 4_096 c.if-bytes-gt-LINE.false)
