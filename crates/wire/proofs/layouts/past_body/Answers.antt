use mathlib.Core.Path.{◌∙◌}
use native.Mathlib.Omega.{arith}
use Rattle.wire.specs.Fields.{after}
use Rattle.wire.specs.Messages.{body_fields}
use Rattle.wire.proofs.Reached.{begins, onward, halts, arrives}
use Rattle.wire.proofs.layouts.past_body.Goals as goal

pub returns-in_err-field : goal.returns-in_err-field
unfolding after
returns-in_err-field c =
    let t0 = begins c.args.body body_fields c.new.ensures in
    c.from_residual.ensures ∙ halts t0 (omega arith) c.in_err-field.ensures

pub returns-in_err-field-2 : goal.returns-in_err-field-2
unfolding after
returns-in_err-field-2 c =
    let t0 = begins c.args.body body_fields c.new.ensures in
    let t1 = onward t0 c.in_ok-field.ensures in
    c.from_residual-in_err-field-2.ensures ∙ halts t1 (omega arith) c.in_err-field-2.ensures

pub returns-in_err-field-3 : goal.returns-in_err-field-3
unfolding after
returns-in_err-field-3 c =
    let t0 = begins c.args.body body_fields c.new.ensures in
    let t1 = onward t0 c.in_ok-field.ensures in
    let t2 = onward t1 c.in_ok-field-2.ensures in
    c.from_residual-in_err-field-3.ensures ∙ halts t2 (omega arith) c.in_err-field-3.ensures

pub returns-in_err-field-4 : goal.returns-in_err-field-4
unfolding after
returns-in_err-field-4 c =
    let t0 = begins c.args.body body_fields c.new.ensures in
    let t1 = onward t0 c.in_ok-field.ensures in
    let t2 = onward t1 c.in_ok-field-2.ensures in
    let t3 = onward t2 c.in_ok-field-3.ensures in
    c.from_residual-in_err-field-4.ensures ∙ halts t3 (omega arith) c.in_err-field-4.ensures

pub returns : goal.returns
unfolding after
returns c =
    let t0 = begins c.args.body body_fields c.new.ensures in
    let t1 = onward t0 c.in_ok-field.ensures in
    let t2 = onward t1 c.in_ok-field-2.ensures in
    let t3 = onward t2 c.in_ok-field-3.ensures in
    let t4 = onward t3 c.in_ok-field-4.ensures in
    c.field-5.ensures ∙ arrives t4
