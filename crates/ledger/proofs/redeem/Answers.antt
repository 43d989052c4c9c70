use Rattle.ledger.proofs.Facts.{state_faults}
use Rattle.ledger.specs.Calls.{redeem, pay}
use Rattle.ledger.specs.States.{base}
use Rattle.states.proofs.Unless.{handed_on, goes_on, judged_by_lem}
use Rattle.messages.proofs.Told.{judged_told}
use Rattle.std.specs.Prelude.{[], ◌∷◌}
use Rattle.ledger.specs.declared.answers.Payout.{Payout}
use mathlib.Core.Path.{ap, ◌∙◌}
use Rattle.ledger.proofs.redeem.Goals as goal

pub returns-in_default : goal.returns-in_default
unfolding redeem
returns-in_default c = simp c.in_default.ensures.value

pub pay-requires : goal.pay-requires
pay-requires c =
    let e = judged_by_lem _ _ _ _ (state_faults _ c.in-Some.ensures.value.1) c.committee-committee.ensures c.in_ok-certified.ensures in
    (judged_told _ _ _ _ _ e).in_range

pub returns-in_err-certified : goal.returns-in_err-certified
unfolding redeem
returns-in_err-certified c =
    let found = c.in-Some.ensures.value in
    let e = judged_by_lem _ _ _ _ (state_faults _ found.1) c.committee-committee.ensures c.in_err-certified.ensures in
    rw (← found.0, found.1) (handed_on (λ (payout : Payout). payout.account ∷ payout.amount ∷ []) _ _ _ _ c.from_residual.ensures e)

pub returns : goal.returns
unfolding redeem
returns c =
    let found = c.in-Some.ensures.value in
    let e = judged_by_lem _ _ _ _ (state_faults _ found.1) c.committee-committee.ensures c.in_ok-certified.ensures in
    rw (← found.0, found.1) (c.pay.ensures ∙ ap (pay base _) (judged_told _ _ _ _ _ e).said ∙ goes_on _ _ _ e)
