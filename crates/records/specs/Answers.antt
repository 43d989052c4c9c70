-- 01, Refusal numbers and Rules: the number and values of each case of each answer of a machine.
use Rattle.std.specs.Prelude.{ℕ, List, [], ◌∷◌, ℤ, pos, Result, Ok, Err}
use Rattle.wire.specs.Refusals.{Said, gives, refuses, refusal_number, said}
use Rattle.wire.specs.declared.answers.Refusal.{Refusal}
use Rattle.records.specs.Records.{bit}
use Rattle.records.specs.declared.answers.Vote.{Vote}
use Rattle.records.specs.declared.answers.Confirmation.{Confirmation}
use Rattle.records.specs.declared.answers.Reading.{Reading}
use Rattle.records.specs.declared.answers.StandingAnswer.{StandingAnswer}

-- vote, new
abbrev pub vote_new : Said
vote_new = gives (0 ∷ [])

-- vote, repeated
abbrev pub vote_repeated : Said
vote_repeated = gives (1 ∷ [])

-- confirmed, and already, with what is counted of the votes
abbrev pub confirmed_with : List ℕ → Said
confirmed_with counts = gives (0 ∷ counts)

abbrev pub already_with : List ℕ → Said
already_with counts = gives (1 ∷ counts)

-- with the number of votes counted
abbrev pub confirmed : ℕ → Said
confirmed votes = confirmed_with (votes ∷ [])

abbrev pub already : ℕ → Said
already votes = already_with (votes ∷ [])

-- a vote: new 0, repeated 1
abbrev pub vote_values : Vote → List ℕ
vote_values Vote.New = 0 ∷ []
vote_values Vote.Repeated = 1 ∷ []

-- the answer on an order
abbrev pub order_said : Result Vote Refusal → Said
order_said = said vote_values

-- confirmed 0, already 1, with the number of votes counted
abbrev pub confirmation_values : Confirmation → List ℕ
confirmation_values (Confirmation.Confirmed votes) = 0 ∷ votes ∷ []
confirmation_values (Confirmation.Already votes) = 1 ∷ votes ∷ []

-- the answer on a certificate
abbrev pub confirm_said : Result Confirmation Refusal → Said
confirm_said = said confirmation_values

-- the answer on a funding order
abbrev pub credit_said : Result (Unit {0}) Refusal → Said
credit_said = said (λ _. [])

-- what reading an account gives: in use, next sequence, free to spend; beside it the balance, which has a sign
pub record AccountShown : Type 0 where
  pub answer : Said
  pub balance : ℤ

-- a refusal shows no balance
abbrev pub unshown : ℕ → AccountShown
unshown n = record { answer = refuses n; balance = pos 0 }

-- the answer on reading an account
abbrev pub account_shown : Result Reading Refusal → AccountShown
account_shown (Ok r) = record { answer = gives (bit r.used ∷ r.next.0 ∷ r.free ∷ []); balance = r.balance }
account_shown (Err r) = unshown (refusal_number r)

-- in the message, or in the state: 0 or 1, place, length
abbrev pub in_message : ℕ → ℕ → Said
in_message place n = gives (0 ∷ place ∷ n ∷ [])

abbrev pub in_state : ℕ → ℕ → Said
in_state place n = gives (1 ∷ place ∷ n ∷ [])

-- the answer on where the standing body lies
abbrev pub standing_said : StandingAnswer → Said
standing_said (StandingAnswer.InMessage at) = in_message at.place at.length
standing_said (StandingAnswer.InState at) = in_state at.place at.length
