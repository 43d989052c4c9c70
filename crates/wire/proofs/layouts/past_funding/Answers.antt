use mathlib.Core.Path.{◌∙◌}
use native.Mathlib.Omega.{arith}
use Rattle.wire.specs.Fields.{after}
use Rattle.wire.specs.Messages.{funding_fields}
use Rattle.wire.proofs.Reached.{begins, onward, halts, arrives}
use Rattle.wire.proofs.layouts.past_funding.Goals as goal

pub returns-in_err-field : goal.returns-in_err-field
unfolding after
returns-in_err-field c =
    let t0 = begins c.args.message funding_fields c.new.ensures in
    c.from_residual.ensures ∙ halts t0 (omega arith) c.in_err-field.ensures

pub returns-in_err-field-2 : goal.returns-in_err-field-2
unfolding after
returns-in_err-field-2 c =
    let t0 = begins c.args.message funding_fields c.new.ensures in
    let t1 = onward t0 c.in_ok-field.ensures in
    c.from_residual-in_err-field-2.ensures ∙ halts t1 (omega arith) c.in_err-field-2.ensures

pub returns : goal.returns
unfolding after
returns c =
    let t0 = begins c.args.message funding_fields c.new.ensures in
    let t1 = onward t0 c.in_ok-field.ensures in
    let t2 = onward t1 c.in_ok-field-2.ensures in
    c.field-3.ensures ∙ arrives t2
