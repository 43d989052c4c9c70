-- 01, Rules: what each call on the ledger answers, and every byte of state and output afterwards, under the rules in force.
use Rattle.std.specs.Prelude.{ℕ, ◌+◌, ◌-◌, cond, List, length, leb, ltb, eqb}
use Rattle.octets.specs.Octets.{put}
use Rattle.wire.specs.Numbers.{is_faults, is_account, is_amount, is_sequence}
use Rattle.octets.specs.Tests.{need}
use Rattle.wire.specs.Messages.{payment, inside, funding_bytes}
use Rattle.wire.specs.Readers.{judged_by}
use Rattle.wire.specs.Refusals.{Said, refuses}
use Rattle.wire.specs.declared.kinds.Payment.{Payment}
use Rattle.wire.specs.declared.kinds.Funding.{Funding}
use Rattle.states.specs.Headers.{last_index, with_index}
use Rattle.states.specs.Outcomes.{Outcome, outcome, refused, unless, done}
use Rattle.ledger.specs.States.{Rules, state_length, is_state, pot, with_pot, is_pot, is_redeemed, with_redeemed, fresh_state}
use Rattle.ledger.specs.Answers.{FundOutcome, fund_outcome, unfunded, funded, paid, holds, redeemed, unredeemed}

-- making a fresh state refuses a wrong length (16), then f out of range (2)
unfoldable pub fresh : Rules → List ℕ → ℕ → Outcome
fresh rules s f =
    need (eqb (length s) (state_length rules)) (refused 16 s)
    (need (is_faults f) (refused 2 s)
    (outcome done (fresh_state rules f)))

-- the funding order that the ledger would give next
abbrev pub next_funding : List ℕ → ℕ → ℕ → Funding
next_funding s account amount = record { index = record { 0 = last_index s + 1 }; account = record { 0 = account }; amount = amount }

-- fund: 16, 2, 17, 18, then 16 on the new pot; otherwise raise index and pot and write the funding order into the first 16 bytes of
-- the output
unfoldable pub fund : Rules → List ℕ → List ℕ → ℕ → ℕ → FundOutcome
fund rules s out account amount =
    need (is_state rules s) (unfunded 16 s out)
    (need (is_account account) (unfunded 2 s out)
    (need (is_amount amount) (unfunded 2 s out)
    (need (ltb (last_index s) 65_535) (unfunded 17 s out)
    (need (leb 16 (length out)) (unfunded 18 s out)
    (need (is_pot (pot s + amount)) (unfunded 16 s out)
    (fund_outcome (funded (last_index s + 1))
    (with_pot (with_index s (last_index s + 1)) (pot s + amount))
    (put out 0 (funding_bytes (next_funding s account amount)))))))))

-- redeem, once the certificate is judged: 13, 14, 15; otherwise set the log bit, lower the pot, answer ledger account and amount
unfoldable pub pay : Rules → List ℕ → Payment → Outcome
pay rules s p =
    need (eqb p.kind 1) (refused 13 s)
    (cond (is_redeemed rules s p.sender.0 p.sequence.0) (refused 14 s)
    (need (leb p.amount (pot s)) (refused 15 s)
    (outcome (paid p.recipient p.amount)
    (with_pot (with_redeemed rules s p.sender.0 p.sequence.0) (pot s - p.amount)))))

-- a certificate with its verdicts: 16, then the certificate is judged by the committee of the state
unfoldable pub redeem : Rules → List ℕ → List ℕ → List ℕ → Outcome
redeem rules s m verdicts =
    need (is_state rules s) (refused 16 s)
    (unless (judged_by (rules.committee s) m verdicts) s
    (pay rules s (payment (inside m))))

-- reading last funding index and pot: 16
unfoldable pub read_pot : Rules → List ℕ → Said
read_pot rules s = need (is_state rules s) (refuses 16) (holds (last_index s) (pot s))

-- reading whether an account's sequence is in the log: 16, 2
unfoldable pub read_log : Rules → List ℕ → ℕ → ℕ → Said
read_log rules s account sequence =
    need (is_state rules s) (refuses 16)
    (need (is_account account) (refuses 2)
    (need (is_sequence sequence) (refuses 2)
    (cond (is_redeemed rules s account sequence) redeemed unredeemed)))
