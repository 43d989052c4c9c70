-- Document 01, How tight the promises are: two outcomes that a contract of the ledger's call allows are equal. Assumes nothing.
use Rattle.std.specs.Prelude.{◌≡◌, refl, Bool, List, ℕ, get_or, eqb, Result}
use Rattle.std.proofs.Common.{sym, ap, ◌∙◌, arith}
use Rattle.wire.specs.Refusals.{Said}
use Rattle.wire.specs.declared.kinds.FundingIndex.{FundingIndex}
use Rattle.wire.specs.declared.answers.Refusal.{Refusal}
use Rattle.roundtrip.specs.Determined.{values_injective}
use Rattle.invariants.specs.Determined.{results_determined}
use Rattle.states.specs.Outcomes.{Outcome, outcome}
use Rattle.ledger.specs.Answers.{FundOutcome, fund_outcome, fund_said, redeem_said, pot_said, log_said}
use Rattle.ledger.specs.declared.answers.Payout.{Payout}
use Rattle.ledger.specs.declared.answers.Pot.{Pot}

-- each takes two results, an answer and the bytes left, that meet the same contract; making a fresh state answers as the machine's does
pub fund : (promised : FundOutcome) (a b : Result FundingIndex Refusal) (s t out over : List ℕ) → fund_outcome (fund_said a) s out ≡ promised → fund_outcome (fund_said b) t over ≡ promised
    → (a ≡ b) × (s ≡ t) × (out ≡ over)
fund promised a b s t out over p q =
    let e : fund_outcome (fund_said a) s out ≡ fund_outcome (fund_said b) t over = p ∙ sym q in
    (values_injective (λ vs. record { 0 = get_or vs 0 0 }) (λ index. refl) a b (ap (λ o. o.answer) e), ap (λ o. o.state) e, ap (λ o. o.out) e)

pub redeem : (promised : Outcome) (a b : Result Payout Refusal) (s t : List ℕ) → outcome (redeem_said a) s ≡ promised → outcome (redeem_said b) t ≡ promised → (a ≡ b) × (s ≡ t)
redeem = results_determined (λ vs. record { account = get_or vs 0 0; amount = get_or vs 1 0 }) (λ payout. refl)

pub pot : (promised : Said) (a b : Result Pot Refusal) → pot_said a ≡ promised → pot_said b ≡ promised → a ≡ b
pot promised a b p q = values_injective (λ vs. record { index = record { 0 = get_or vs 0 0 }; amount = get_or vs 1 0 }) (λ held. refl) a b (p ∙ sym q)

pub log : (promised : Said) (a b : Result Bool Refusal) → log_said a ≡ promised → log_said b ≡ promised → a ≡ b
log promised a b p q = values_injective (λ vs. eqb (get_or vs 0 0) 1) (λ redeemed. grind arith) a b (p ∙ sym q)
