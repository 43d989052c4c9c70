use native.Mathlib.Omega.{arith}
use borrow.Author.Tests.{le-leb, lt-leb}
use mathlib.Core.Path.{◌∙◌}
use Rattle.wire.proofs.Laid.{missed}
use Rattle.messages.proofs.Places.{opened}
use Rattle.messages.proofs.certificate.open_certificate.Goals as goal

pub returns-then-f-gt5 : goal.returns-then-f-gt5
returns-then-f-gt5 c = λ rest. simp (lt-leb _ _ c.if-f-gt5.true)

pub returns-in_default : goal.returns-in_default
returns-in_default c = λ rest. simp (le-leb _ _ c.if-f-gt5.false, missed _ _ c.in_default.ensures)

pub cut-requires : goal.cut-requires
cut-requires c = let d = (opened c.args.message.now c.in-Some.ensures).encloses in omega arith

pub overflow_sub-result : goal.overflow_sub-result
overflow_sub-result c = let d = (opened c.args.message.now c.in-Some.ensures).encloses in omega arith

pub returns : goal.returns
returns c =
    let d = opened c.args.message.now c.in-Some.ensures in
    record { faults = c.if-f-gt5.false; laid_down = d.laid_down; body = c.cut.ensures.0 ∙ d.encloses.body; placed = rw d.first; counted = d.count }
