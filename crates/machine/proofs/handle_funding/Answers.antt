use Rattle.std.proofs.Common.{[], ◌∙◌, eq-eqb}
use Rattle.messages.proofs.Told.{funding_told}
use Rattle.records.specs.Calls.{funding_order}
use Rattle.states.proofs.Unless.{handed_on, goes_on}
use Rattle.machine.proofs.handle_funding.Goals as goal

pub returns-in_err-funding : goal.returns-in_err-funding
unfolding funding_order
returns-in_err-funding c = rw (c.in-Some.ensures.value.0, c.in-Some.ensures.value.1) (handed_on (λ _. []) _ _ _ _ c.from_residual.ensures c.in_err-funding.ensures)

pub credit-requires : goal.credit-requires
credit-requires c = (funding_told _ c.args.message.now c.in_ok-funding.ensures).1

pub returns : goal.returns
unfolding funding_order
returns c = let e = c.in_ok-funding.ensures in
    rw (c.in-Some.ensures.value.1, eq-eqb _ _ c.if-verdicts-ne1.false, ← c.all_good.ensures, c.if-not-all_good.false)
    (c.credit.ensures ∙ rw (c.in-Some.ensures.value.0, (funding_told _ c.args.message.now e).0) (goes_on _ _ _ e))
