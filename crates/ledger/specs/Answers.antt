-- 01, Refusal numbers and Rules: the number and values of each case of each answer of the ledger.
use Rattle.std.specs.Prelude.{ℕ, List, [], ◌∷◌, Bool, cond, Result}
use Rattle.wire.specs.Refusals.{Said, gives, refuses, said}
use Rattle.wire.specs.declared.kinds.FundingIndex.{FundingIndex}
use Rattle.wire.specs.declared.answers.Refusal.{Refusal}
use Rattle.ledger.specs.declared.answers.Payout.{Payout}
use Rattle.ledger.specs.declared.answers.Pot.{Pot}

-- funded, with the index of the funding order
abbrev pub funded : ℕ → Said
funded index = gives (index ∷ [])

-- paid: ledger account and amount
abbrev pub paid : ℕ → ℕ → Said
paid account amount = gives (account ∷ amount ∷ [])

-- last funding index and pot
abbrev pub holds : ℕ → ℕ → Said
holds index amount = gives (index ∷ amount ∷ [])

-- in the log
abbrev pub redeemed : Said
redeemed = gives (1 ∷ [])

-- not in the log
abbrev pub unredeemed : Said
unredeemed = gives (0 ∷ [])

-- the answer on funding
abbrev pub fund_said : Result FundingIndex Refusal → Said
fund_said = said (λ (index : FundingIndex). index.0 ∷ [])

-- the answer on a certificate to redeem
abbrev pub redeem_said : Result Payout Refusal → Said
redeem_said = said (λ (payout : Payout). payout.account ∷ payout.amount ∷ [])

-- the answer on reading last index and pot
abbrev pub pot_said : Result Pot Refusal → Said
pot_said = said (λ (pot : Pot). pot.index.0 ∷ pot.amount ∷ [])

-- the answer on reading the log: 1 where the sequence is in it, otherwise 0
abbrev pub log_said : Result Bool Refusal → Said
log_said = said (λ (redeemed : Bool). cond redeemed 1 0 ∷ [])

-- an answer, and the state and the output afterwards
pub record FundOutcome : Type 0 where
  pub answer : Said
  pub state : List ℕ
  pub out : List ℕ

-- the three together, as a contract states them
abbrev pub fund_outcome : Said → List ℕ → List ℕ → FundOutcome
fund_outcome said s out = record { answer = said; state = s; out = out }

-- a refusal changes neither
abbrev pub unfunded : ℕ → List ℕ → List ℕ → FundOutcome
unfunded n s out = fund_outcome (refuses n) s out
