-- 01, Examples to hold against it: E1 to E12, with f = 1 and good verdicts. A row on a call gives its answer and all 4,616 bytes afterwards.
use Rattle.std.specs.Prelude.{ℕ, ◌≡◌, List, [], ◌∷◌, ◌++◌, pos, negsuc}
use Rattle.wire.specs.Refusals.{gives, refuses}
use Rattle.wire.specs.Readers.{read_body, read_funding}
use Rattle.wire.specs.Writers.{write_body, write_funding, unwritten}
use Rattle.states.specs.Outcomes.{outcome, refused, done}
use Rattle.records.specs.States.{base}
use Rattle.records.specs.Answers.{vote_new, vote_repeated, confirmed, already}
use Rattle.records.specs.Calls.{fresh, order, certificate, funding_order, account}
use Rattle.table.specs.Papers.{zeros, lent, good, e1, e2, body, funding, amount_0, amount_1500, amount_1501, amount_2000, amount_2001, amount_1000000001, sequence_0, sequence_1, pays, funds, order_of, certificate_of}
use Rattle.table.specs.States.{fresh_machine, after_e2, after_e4, after_e6, after_e7, after_e9, reads}

-- an amount, as a number and as its bytes, that is answered with 2 where a body or a funding order is read, written or handled by a machine; nothing changes
pub record OutOfRange (amount : ℕ) (bytes : List ℕ) : Type 0 where
  pub body_read : read_body (body bytes sequence_0) ≡ record { answer = refuses 2; note = record { length = 0; bytes = zeros 32 } }
  pub body_written : write_body (lent 57) (pays amount) [] ≡ unwritten 2 (lent 57)
  pub funding_read : read_funding (funding bytes) ≡ refuses 2
  pub funding_written : write_funding (lent 20) (funds amount) ≡ unwritten 2 (lent 20)
  pub funding_handled : funding_order base fresh_machine (funding bytes) (good 1) ≡ refused 2 fresh_machine
  pub order_handled : order base after_e2 (order_of (body bytes sequence_0)) (good 1) ≡ refused 2 after_e2
  pub certificate_handled : certificate base after_e2 (certificate_of (body bytes sequence_0) (0 ∷ 1 ∷ 2 ∷ [])) (good 3) ≡ refused 2 after_e2

pub record Table : Type 0 where
  -- E1 body 2 to account 7, 1,500, sequence 0, no note: written into 57 bytes, of which 32 stay, and read
  pub e1_written : write_body (lent 57) (pays 1_500) [] ≡ record { answer = gives (25 ∷ []); out = e1 ++ lent 32 }
  pub e1_read : read_body e1 ≡ record { answer = gives (2 ∷ 0 ∷ 7 ∷ 1_500 ∷ 0 ∷ []); note = record { length = 0; bytes = zeros 32 } }
  -- E2 funding 1 to account 2, 2,000: written into 20 bytes, of which 4 stay, and read
  pub e2_written : write_funding (lent 20) (funds 2_000) ≡ record { answer = gives (16 ∷ []); out = e2 ++ lent 4 }
  pub e2_read : read_funding e2 ≡ gives (1 ∷ 2 ∷ 2_000 ∷ [])
  -- E3 order E1, fresh machine: 8
  pub e3_fresh : fresh base (lent 4_616) 1 0 ≡ outcome done fresh_machine
  pub e3_order : order base fresh_machine (order_of e1) (good 1) ≡ refused 8 fresh_machine
  -- E4 after E2: vote, new; again: vote, repeated
  pub e4_funded : funding_order base fresh_machine e2 (good 1) ≡ outcome done after_e2
  pub e4_new : order base after_e2 (order_of e1) (good 1) ≡ outcome vote_new after_e4
  pub e4_again : order base after_e4 (order_of e1) (good 1) ≡ outcome vote_repeated after_e4
  -- E5 then amount 1,501, sequence 0: 9; sequence 1: also 9, with either amount
  pub e5_amount : order base after_e4 (order_of (body amount_1501 sequence_0)) (good 1) ≡ refused 9 after_e4
  pub e5_sequence : order base after_e4 (order_of (body amount_1501 sequence_1)) (good 1) ≡ refused 9 after_e4
  pub e5_sequence_alone : order base after_e4 (order_of (body amount_1500 sequence_1)) (good 1) ≡ refused 9 after_e4
  -- E6 after E2 alone, 2,000 gets a vote, 2,001 gets 11
  pub e6_all : order base after_e2 (order_of (body amount_2000 sequence_0)) (good 1) ≡ outcome vote_new after_e6
  pub e6_more : order base after_e2 (order_of (body amount_2001 sequence_0)) (good 1) ≡ refused 11 after_e2
  -- E7 after E2 and E4, a certificate with votes 0, 1, 2: confirmed, 3 votes, account 2 at 500 and next 1, account 7 at 1,500; again: already.
  -- With votes 0 to 3: 4
  pub e7_confirmed : certificate base after_e4 (certificate_of e1 (0 ∷ 1 ∷ 2 ∷ [])) (good 3) ≡ outcome (confirmed 3) after_e7
  pub e7_account_2 : account base after_e7 2 ≡ reads 1 500 (pos 500)
  pub e7_account_7 : account base after_e7 7 ≡ reads 0 1_500 (pos 1_500)
  pub e7_again : certificate base after_e7 (certificate_of e1 (0 ∷ 1 ∷ 2 ∷ [])) (good 3) ≡ outcome (already 3) after_e7
  pub e7_four_votes : certificate base after_e4 (certificate_of e1 (0 ∷ 1 ∷ 2 ∷ 3 ∷ [])) (good 4) ≡ outcome (confirmed 4) after_e7
  -- E8 votes 0, 1: 7; 0, 1, 1: 6; 0, 1, 4: 5
  pub e8_few : certificate base after_e4 (certificate_of e1 (0 ∷ 1 ∷ [])) (good 2) ≡ refused 7 after_e4
  pub e8_twice : certificate base after_e4 (certificate_of e1 (0 ∷ 1 ∷ 1 ∷ [])) (good 3) ≡ refused 6 after_e4
  pub e8_unknown : certificate base after_e4 (certificate_of e1 (0 ∷ 1 ∷ 4 ∷ [])) (good 3) ≡ refused 5 after_e4
  -- E9 E7's certificate on a fresh machine: confirmed, account 2 at -1,500 (and nothing free to spend); then E2: 500, all bytes as after E7
  pub e9_confirmed : certificate base fresh_machine (certificate_of e1 (0 ∷ 1 ∷ 2 ∷ [])) (good 3) ≡ outcome (confirmed 3) after_e9
  pub e9_account_2 : account base after_e9 2 ≡ reads 1 0 (negsuc 1_499)
  pub e9_funded : funding_order base after_e9 e2 (good 1) ≡ outcome done after_e7
  -- E10 a certificate of sequence 1 on a fresh machine: 10
  pub e10 : certificate base fresh_machine (certificate_of (body amount_1500 sequence_1) (0 ∷ 1 ∷ 2 ∷ [])) (good 3) ≡ refused 10 fresh_machine
  -- E11 E2 twice: second 12
  pub e11 : funding_order base after_e2 e2 (good 1) ≡ refused 12 after_e2
  -- E12 amounts 0 and 1,000,000,001: 2
  pub e12_least : OutOfRange 0 amount_0
  pub e12_most : OutOfRange 1_000_000_001 amount_1000000001
