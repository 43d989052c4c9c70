use mathlib.Core.Path.{◌∙◌}
use native.Mathlib.Omega.{arith}
use Rattle.wire.proofs.Reached.{read_all, read_none, read_more, read_less}
use Rattle.wire.proofs.fields.Reader.fields.Goals as goal

pub returns-in_err-reader : goal.returns-in_err-reader
returns-in_err-reader c = c.from_residual.ensures ∙ read_none c.loop-reader.invariant c.loop-reader-test.true (omega arith) c.in_err-reader.ensures

pub loop-reader-smaller : goal.loop-reader-smaller
loop-reader-smaller c = read_less c.loop-reader.invariant c.loop-reader-test.true c.in_ok-reader.ensures

pub loop-reader-preserved : goal.loop-reader-preserved
loop-reader-preserved c = read_more c.loop-reader.invariant c.loop-reader-test.true c.in_ok-reader.ensures

pub returns : goal.returns
returns c = read_all c.loop-reader.invariant c.loop-reader-test.false (omega arith)
