-- A day with f = 1 and machine 3 dishonest: the messages, the calls in their order, and what each answers. It is a run such as demand 3 speaks of.
use Rattle.std.specs.Prelude.{ℕ, Bool, List, [], ◌∷◌, ◌++◌, replicate, eqb, ℤ}
use Rattle.wire.specs.Messages.{body_bytes, order_bytes, funding_bytes}
use Rattle.wire.specs.Votes.{certificate_bytes}
use Rattle.wire.specs.Refusals.{Said, refuses}
use Rattle.wire.specs.declared.kinds.Payment.{Payment}
use Rattle.states.specs.Outcomes.{done}
use Rattle.records.specs.States as machine
use Rattle.records.specs.Answers.{vote_new, vote_repeated, confirmed, already}
use Rattle.records.specs.Calls.{account}
use Rattle.ledger.specs.States as ledger
use Rattle.ledger.specs.Answers.{funded, paid}
use Rattle.safety.specs.Runs.{Call, Moment, rules, start, answer, after}

-- the moment after calls, one after another
abbrev pub after_all : Moment → List Call → Moment
after_all w [] = w
after_all w (call ∷ calls) = after_all (after w call) calls

-- what each of them answers
abbrev pub answers : Moment → List Call → List Said
answers w [] = []
answers w (call ∷ calls) = answer w call ∷ answers (after w call) calls

-- the dishonest machine
abbrev pub is_three : ℕ → Bool
is_three k = eqb k 3

-- E2: funding 1 to account 2, 2,000
abbrev pub e2 : List ℕ
e2 = funding_bytes (record { index = record { 0 = 1 }; account = record { 0 = 2 }; amount = 2_000 })

-- a payment: sender, kind, recipient, amount, sequence
abbrev pub pays : ℕ → ℕ → ℕ → ℕ → ℕ → Payment
pays sender kind recipient amount sequence =
    record { sender = record { 0 = sender }; kind = kind; recipient = recipient; amount = amount; sequence = record { 0 = sequence } }

-- E1: account 2 pays account 7 1,500, sequence 0
abbrev pub e1 : Payment
e1 = pays 2 0 7 1_500 0

-- account 7 pays all of it to ledger account 9, sequence 0
abbrev pub payout : Payment
payout = pays 7 1 9 1_500 0

-- 64 signature bytes. The host checks signatures, so any will do
abbrev pub signature : List ℕ
signature = replicate 64 0

-- the body of a payment, without a note; the order; the certificate with the votes of three machines
abbrev pub body_of : Payment → List ℕ
body_of p = body_bytes p []

abbrev pub order_of : Payment → List ℕ
order_of p = order_bytes p [] signature

abbrev pub certificate_of : Payment → ℕ → ℕ → ℕ → List ℕ
certificate_of p a b c = certificate_bytes (body_of p) ((a ∷ signature) ++ (b ∷ signature) ++ (c ∷ signature))

-- the verdicts: good on an order or a funding order, good on each of three votes
abbrev pub good : List ℕ
good = 1 ∷ []

abbrev pub all_good : List ℕ
all_good = 1 ∷ 1 ∷ 1 ∷ []

-- in the morning the ledger funds account 2, machines 0 and 1 take the funding order and vote for E1, machine 0 twice.
-- E1's certificate comes to machine 2 before the funding order
abbrev pub morning : List Call
morning =
    Call.fund (replicate 16 0) 2 2_000
    ∷ Call.funding_order 0 e2 good
    ∷ Call.funding_order 1 e2 good
    ∷ Call.order 0 (order_of e1) good
    ∷ Call.order 0 (order_of e1) good
    ∷ Call.order 1 (order_of e1) good
    ∷ Call.certificate 2 (certificate_of e1 0 1 3) all_good
    ∷ []

abbrev pub morning_answers : List Said
morning_answers = funded 1 ∷ done ∷ done ∷ vote_new ∷ vote_repeated ∷ vote_new ∷ confirmed 3 ∷ []

-- at noon the certificate comes to machine 2 again, and then the funding order; the certificate comes to machines 0 and 1
abbrev pub noon : List Call
noon =
    Call.certificate 2 (certificate_of e1 0 1 3) all_good
    ∷ Call.funding_order 2 e2 good
    ∷ Call.certificate 0 (certificate_of e1 0 1 3) all_good
    ∷ Call.certificate 1 (certificate_of e1 0 1 3) all_good
    ∷ []

abbrev pub noon_answers : List Said
noon_answers = already 3 ∷ done ∷ confirmed 3 ∷ confirmed 3 ∷ []

-- in the evening machines 0, 1 and 2 vote for the payout, and it is redeemed; then once more, with other votes
abbrev pub evening : List Call
evening =
    Call.order 0 (order_of payout) good
    ∷ Call.order 1 (order_of payout) good
    ∷ Call.order 2 (order_of payout) good
    ∷ Call.redeem (certificate_of payout 0 1 2) all_good
    ∷ Call.redeem (certificate_of payout 0 1 3) all_good
    ∷ []

abbrev pub evening_answers : List Said
evening_answers = vote_new ∷ vote_new ∷ vote_new ∷ paid 9 1_500 ∷ refuses 14 ∷ []

-- the whole day
abbrev pub day : List Call
day = morning ++ noon ++ evening

abbrev pub day_answers : List Said
day_answers = morning_answers ++ noon_answers ++ evening_answers

-- four machines and the ledger at their start, all in the layout of 01
abbrev pub beginning : Moment
beginning = start 1 (λ k. machine.Layout.plain) ledger.Layout.plain

-- the moment that these calls lead to
abbrev pub reached : List Call → Moment
reached calls = after_all beginning calls

-- the balance of an account that a machine shows
abbrev pub balance : Moment → ℕ → ℕ → ℤ
balance w k x = (account (rules w k) (w.machines k) x).balance
