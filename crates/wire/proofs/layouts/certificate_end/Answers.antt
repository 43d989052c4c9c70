use mathlib.Core.List.{[], ◌∷◌}
use mathlib.Core.Path.{sym, ◌∙◌}
use native.Mathlib.Omega.{arith}
use Rattle.wire.specs.Fields.{want_all, after}
use Rattle.wire.specs.Messages.{certificate_fields}
use Rattle.wire.proofs.Reached.{begins, onward, halts}
use Rattle.wire.proofs.Laid.{not_laid, whole_laid, an_end, no_end}
use Rattle.wire.proofs.layouts.certificate_end.Goals as goal

pub returns-in_err-body : goal.returns-in_err-body
unfolding after
returns-in_err-body c =
    let t0 = begins c.args.message certificate_fields c.new.ensures in
    c.from_residual.ensures ∙ no_end c.args.message.now 0x20 (want_all 0x21 65 ∷ []) (not_laid c.args.message certificate_fields (halts t0 (omega arith) c.in_err-body.ensures))

pub returns-in_err-votes : goal.returns-in_err-votes
unfolding after
returns-in_err-votes c =
    let t0 = begins c.args.message certificate_fields c.new.ensures in
    let t1 = onward t0 c.in_ok-body.ensures in
    c.from_residual-in_err-votes.ensures ∙ no_end c.args.message.now 0x20 (want_all 0x21 65 ∷ []) (not_laid c.args.message certificate_fields (halts t1 (omega arith) c.in_err-votes.ensures))

pub returns-then-not-whole : goal.returns-then-not-whole
unfolding after
returns-then-not-whole c =
    let t0 = begins c.args.message certificate_fields c.new.ensures in
    let t1 = onward t0 c.in_ok-body.ensures in
    let t2 = onward t1 c.in_ok-votes.ensures in
    no_end c.args.message.now 0x20 (want_all 0x21 65 ∷ []) (sym (whole_laid t2) ∙ sym c.whole.ensures ∙ c.if-not-whole.true)

pub returns : goal.returns
unfolding after
returns c =
    let t0 = begins c.args.message certificate_fields c.new.ensures in
    let t1 = onward t0 c.in_ok-body.ensures in
    let t2 = onward t1 c.in_ok-votes.ensures in
    an_end c.args.message 0x20 (want_all 0x21 65 ∷ []) (sym (whole_laid t2) ∙ sym c.whole.ensures ∙ c.if-not-whole.false) c.new.ensures c.in_ok-body.ensures
