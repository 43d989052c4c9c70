-- 01, Refusal numbers: the number of each refusal, and the number and values of each case of each answer.
use Rattle.std.specs.Prelude.{ℕ, List, [], ◌∷◌, Result, Ok, Err}
use Rattle.wire.specs.declared.kinds.Payment.{Payment}
use Rattle.wire.specs.declared.kinds.Funding.{Funding}
use Rattle.wire.specs.declared.answers.Refusal.{Refusal}
use Rattle.wire.specs.declared.answers.Certified.{Certified}

-- the number of each refusal
abbrev pub refusal_number : Refusal → ℕ
refusal_number Refusal.Malformed = 1
refusal_number Refusal.OutOfRange = 2
refusal_number Refusal.VerdictCount = 3
refusal_number Refusal.BadVerdict = 4
refusal_number Refusal.UnknownMachine = 5
refusal_number Refusal.VotesNotRising = 6
refusal_number Refusal.TooFewVotes = 7
refusal_number Refusal.SenderNotInUse = 8
refusal_number Refusal.AnotherPending = 9
refusal_number Refusal.NotNextSequence = 10
refusal_number Refusal.BalanceTooLow = 11
refusal_number Refusal.NotNextIndex = 12
refusal_number Refusal.NotToLedger = 13
refusal_number Refusal.AlreadyRedeemed = 14
refusal_number Refusal.PotTooLow = 15
refusal_number Refusal.BadState = 16
refusal_number Refusal.IndexExhausted = 17
refusal_number Refusal.BufferTooSmall = 18

-- an answer as 01 has it: 0 and its values, or the number of a refusal
pub record Said : Type 0 where
  pub number : ℕ
  pub values : List ℕ

-- an answer with values
abbrev pub gives : List ℕ → Said
gives vs = record { number = 0; values = vs }

-- a refusal, by its number
abbrev pub refuses : ℕ → Said
refuses n = record { number = n; values = [] }

-- what a call's result says: 0 and the values of what it answers, or the number of the refusal
abbrev pub said : {A : Type 0} → (A → List ℕ) → Result A Refusal → Said
said values (Ok a) = gives (values a)
said values (Err r) = refuses (refusal_number r)

-- sender, kind, recipient, amount, sequence
abbrev pub payment_values : Payment → List ℕ
payment_values p = p.sender.0 ∷ p.kind ∷ p.recipient ∷ p.amount ∷ p.sequence.0 ∷ []

-- the answer on a body or an order: the payment
abbrev pub body_said : Result Payment Refusal → Said
body_said = said payment_values

-- index, account, amount
abbrev pub funding_values : Funding → List ℕ
funding_values o = o.index.0 ∷ o.account.0 ∷ o.amount ∷ []

-- the answer on a funding order: its values
abbrev pub funding_said : Result Funding Refusal → Said
funding_said = said funding_values

-- the answer on a certificate: the number of different machines that voted, then the payment
abbrev pub certificate_said : Result Certified Refusal → Said
certificate_said = said (λ (c : Certified). c.machines ∷ payment_values c.payment)

-- the answer of a writer: how many bytes were written
abbrev pub write_said : Result ℕ Refusal → Said
write_said = said (λ (n : ℕ). n ∷ [])
