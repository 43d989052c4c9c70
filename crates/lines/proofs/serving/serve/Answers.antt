use mathlib.Core.Path.{sym, ◌∙◌}
use native.Mathlib.Omega.{arith}
use Rattle.lines.proofs.ServingLaws.{answered_room, left_full, left_part, left_line}
use Rattle.lines.proofs.serving.serve.Goals as goal

pub returns-then-end-rest-clause-served : goal.returns-then-end-rest-clause-served
returns-then-end-rest-clause-served c =
    let came = c.loop-role in
    let stretch = c.cut-rest in
    let end = c.line_end-end in
    (came.invariant.1, left_part _ _ _ _ came.invariant.3 stretch.result.now end.result (sym c.has_room.ensures ∙ c.loop-role-test.true) stretch.ensures.0 end.ensures.0 c.if-end-rest.true, came.invariant.0)

pub loop-role-preserved : goal.loop-role-preserved
loop-role-preserved c =
    let came = c.loop-role in
    let stretch = c.cut-rest in
    let end = c.line_end-end in
    let line = left_line _ _ _ _ came.invariant.3 stretch.result.now end.result (sym c.has_room.ensures ∙ c.loop-role-test.true) stretch.ensures.0 end.ensures.0 _ _ (omega arith) c.cut.ensures.0 c.answer.ensures.1 in
    (omega arith, c.answer.ensures.0 ∙ came.invariant.1, answered_room _ _ _ c.answer.ensures.1 came.invariant.2, line)

pub returns-clause-served : goal.returns-clause-served
returns-clause-served c = let came = c.loop-role in (came.invariant.1, left_full _ _ _ _ came.invariant.3 (sym c.has_room.ensures ∙ c.loop-role-test.false), came.invariant.0)
