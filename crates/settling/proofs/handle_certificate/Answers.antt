use Rattle.std.proofs.Common.{◌∙◌}
use Rattle.records.proofs.Facts.{state_faults}
use Rattle.states.proofs.Unless.{handed_on, goes_on, judged_by_lem}
use Rattle.messages.proofs.Told.{judged_told}
use Rattle.records.specs.Answers.{confirmation_values}
use Rattle.records.specs.Calls.{certificate}
use Rattle.settling.proofs.handle_certificate.Goals as goal

pub returns-in_err-certified : goal.returns-in_err-certified
unfolding certificate
returns-in_err-certified c =
    let f = c.in-Some.ensures.value.1 in
    let e = judged_by_lem _ _ _ _ (state_faults _ f) (rw c.in-Some.ensures.value.0 at c.committee-committee.ensures) c.in_err-certified.ensures in
    rw (c.in-Some.ensures.value.0, f) (handed_on confirmation_values _ _ _ _ c.from_residual.ensures e)

pub settle-requires : goal.settle-requires
settle-requires c =
    let f = c.in-Some.ensures.value.1 in
    let e = judged_by_lem _ _ _ _ (state_faults _ f) (rw c.in-Some.ensures.value.0 at c.committee-committee.ensures) c.in_ok-certified.ensures in
    (judged_told _ _ _ _ _ e).in_range

pub returns : goal.returns
unfolding certificate
returns c = let m = c.args.message.now in
    let f = c.in-Some.ensures.value.1 in
    let e = judged_by_lem _ _ _ _ (state_faults _ f) (rw c.in-Some.ensures.value.0 at c.committee-committee.ensures) c.in_ok-certified.ensures in
    let j = judged_told _ m _ _ _ e in
    rw f (c.settle.ensures ∙ rw (c.in-Some.ensures.value.0, j.said, j.count) (goes_on _ _ _ e))
