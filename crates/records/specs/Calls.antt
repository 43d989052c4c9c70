-- 01, Rules: what each call answers, and every byte of the state afterwards, under the rules in force. By those of 01 every account is kept
-- here, so that 22 and 23 are never met, and the header notes nothing of balances.
-- The order of checks: 16 on length and header; 1 on the whole message; 2; 3; 4 for a single verdict; then over all votes 5, then 6,
-- then 4, then 7; then 16 on touched records; then the rules in their order; 16 on new values last.
use Rattle.std.specs.Prelude.{ℕ, ◌+◌, Bool, cond, not, ◌&&◌, ◌||◌, List, [], ◌∷◌, length, ◌==◌, nat_le, nat_lt}
use Rattle.octets.specs.Octets.{two, number, same}
use Rattle.wire.specs.Numbers.{is_machine, is_account}
use Rattle.octets.specs.Tests.{need}
use Rattle.wire.specs.Fields.{laid}
use Rattle.wire.specs.Messages.{body_fields, certificate_fields, payment, is_payment, inside, funding}
use Rattle.wire.specs.Votes.{votes, signers_in, good}
use Rattle.wire.specs.Refusals.{Said, gives}
use Rattle.wire.specs.Readers.{is_order, read_order_payment, read_funding, judged_by}
use Rattle.wire.specs.declared.kinds.Payment.{Payment}
use Rattle.wire.specs.declared.kinds.Funding.{Funding}
use Rattle.states.specs.Headers.{last_index, with_index}
use Rattle.states.specs.Outcomes.{Outcome, outcome, refused, unless, done}
use Rattle.records.specs.declared.record.Record.{Record}
use Rattle.records.specs.Balances.{nought, highest, signed, free}
use Rattle.records.specs.Records.{bit, holding, paid, credited}
use Rattle.records.specs.States.{Rules, state_length, is_state, place, record_of, is_formed, pending_of, with_record, fresh_state}
use Rattle.records.specs.Answers.{vote_new, vote_repeated, confirmed_with, already_with, AccountShown, unshown, in_message, in_state}

-- making a fresh state refuses a wrong length (16), then f or own number out of range (2)
unfoldable pub fresh : Rules → List ℕ → ℕ → ℕ → Outcome
fresh rules s f own =
    need (length s == state_length rules) (refused 16 s)
    (need (is_machine f own) (refused 2 s)
    (outcome done (fresh_state rules f own)))

-- the order's rules on its sender's record: refuse 8. If a body is pending: equal bytes answer vote, repeated, no change;
-- otherwise 9. Then 10, 11. Otherwise store the body as pending and answer vote, new
unfoldable pub vote_on : Rules → List ℕ → Payment → List ℕ → Record → Outcome
vote_on rules s p body r =
    need r.used (refused 8 s)
    (cond (nat_lt 0 r.waiting) (need (same (pending_of rules s p.sender.0) body) (refused 9 s) (outcome vote_repeated s))
    (need (rules.further body == 0) (refused (rules.further body) s)
    (need (p.sequence.0 == r.next.0) (refused 10 s)
    (need (nat_le (nought + p.amount) r.balance) (refused 11 s)
    (outcome vote_new (with_record rules s p.sender.0 (holding r body)))))))

-- 16 on the sender's record before them
unfoldable pub vote : Rules → List ℕ → Payment → List ℕ → Outcome
vote rules s p body = need (is_formed rules s p.sender.0) (refused 16 s) (vote_on rules s p body (record_of rules s p.sender.0))

-- an order with its verdict; 22 if its sender is not kept here
unfoldable pub order : Rules → List ℕ → List ℕ → List ℕ → Outcome
order rules s m verdicts =
    need (is_state rules s) (refused 16 s)
    (unless (read_order_payment m) s
    (need (length verdicts == 1) (refused 3 s)
    (need (rules.keeps (payment (inside m)).sender.0) (refused 22 s)
    (need (good verdicts) (refused 4 s)
    (vote rules s (payment (inside m)) (inside m))))))

-- a payment from an account to itself
abbrev pub to_itself : Payment → Bool
to_itself p = p.kind == 0 && p.recipient == p.sender.0

-- the amount leaves its sender's balance, and the header notes that it left those kept here
abbrev pub debited : Rules → List ℕ → Payment → Record → List ℕ
debited rules s p from = with_record rules (rules.tallied s p.amount 0) p.sender.0 (paid from p.amount)

-- a certificate of the next sequence: 16 on new values; otherwise subtract the amount from the sender, raise its next sequence by one,
-- clear its pending body and put it in use. A recipient account is put in use and credited; a ledger recipient changes nothing more.
-- A payment to oneself leaves the balance as it was. The credit of an account that is not kept here is sent
unfoldable pub pay : Rules → List ℕ → Payment → List ℕ → Record → Record → Outcome
pay rules s p counts from to =
    cond (to_itself p) (outcome (confirmed_with counts) (with_record rules s p.sender.0 (paid from 0)))
    (need (nat_le p.amount from.balance) (refused 16 s)
    (cond (p.kind == 1) (need (rules.may_tally s p.amount 0) (refused 16 s) (outcome (confirmed_with counts) (debited rules s p from)))
    (cond (not (rules.keeps p.recipient)) (need (rules.may_tally s p.amount 0) (refused 16 s)
    (outcome (confirmed_with counts) (rules.sent (debited rules s p from) p.recipient p.amount)))
    (need (nat_le (to.balance + p.amount) highest) (refused 16 s)
    (outcome (confirmed_with counts)
    (with_record rules (with_record rules s p.sender.0 (paid from p.amount)) p.recipient (credited to p.amount)))))))

-- the credit has a place: its account is kept here, or it is the ledger's, or it may be sent
abbrev pub has_place : Rules → List ℕ → Payment → Bool
has_place rules s p = rules.keeps p.recipient || (p.kind == 1 || rules.may_send s)

-- the certificate's rules on its sender's record. Sequence below the next: already, no change. Above: 10. 23 if the credit has no place
unfoldable pub settle_on : Rules → List ℕ → Payment → List ℕ → Record → Outcome
settle_on rules s p counts r =
    cond (nat_lt p.sequence.0 r.next.0) (outcome (already_with counts) s)
    (need (p.sequence.0 == r.next.0) (refused 10 s)
    (need (has_place rules s p) (refused 23 s)
    (pay rules s p counts r (record_of rules s p.recipient))))

-- 16 on the touched records before them: sender and, for kind 0, recipient, where it is kept here
unfoldable pub settle : Rules → List ℕ → Payment → List ℕ → Outcome
settle rules s p counts =
    need (is_formed rules s p.sender.0) (refused 16 s)
    (need (not (rules.keeps p.recipient) || (p.kind == 1 || is_formed rules s p.recipient)) (refused 16 s)
    (settle_on rules s p counts (record_of rules s p.sender.0)))

-- a certificate that meets none of 1, 2 and 3
unfoldable pub is_paper : List ℕ → List ℕ → Bool
is_paper m verdicts = laid m certificate_fields && (laid (inside m) body_fields && (is_payment (payment (inside m)) && length verdicts == votes m))

-- a certificate with its verdicts; the answer carries what is counted of the votes. 22, right after 3, if its sender is not kept here
unfoldable pub certificate : Rules → List ℕ → List ℕ → List ℕ → Outcome
certificate rules s m verdicts =
    need (is_state rules s) (refused 16 s)
    (cond (not (rules.keeps (payment (inside m)).sender.0) && is_paper m verdicts) (refused 22 s)
    (unless (judged_by (rules.committee s) m verdicts) s
    (settle rules s (payment (inside m)) (rules.counted s (signers_in m)))))

-- the funding order's rules: refuse 12; 16 on the new balance; otherwise record the index, put the account in use, credit it. For an account that
-- is not kept here only record the index
unfoldable pub credit_on : Rules → List ℕ → Funding → Record → Outcome
credit_on rules s o r =
    need (o.index.0 == last_index s + 1) (refused 12 s)
    (cond (not (rules.keeps o.account.0)) (outcome done (with_index s o.index.0))
    (need (nat_le (r.balance + o.amount) highest) (refused 16 s)
    (need (rules.may_tally s 0 o.amount) (refused 16 s)
    (outcome done (with_record rules (with_index (rules.tallied s 0 o.amount) o.index.0) o.account.0 (credited r o.amount))))))

-- 16 on the record before them, where it is kept here
unfoldable pub credit : Rules → List ℕ → Funding → Outcome
credit rules s o =
    need (not (rules.keeps o.account.0) || is_formed rules s o.account.0) (refused 16 s)
    (credit_on rules s o (record_of rules s o.account.0))

-- a funding order with its verdict
unfoldable pub funding_order : Rules → List ℕ → List ℕ → List ℕ → Outcome
funding_order rules s m verdicts =
    need (is_state rules s) (refused 16 s)
    (unless (read_funding m) s
    (need (length verdicts == 1) (refused 3 s)
    (need (good verdicts) (refused 4 s)
    (credit rules s (funding m)))))

-- what is read of a record: in use, next sequence, free to spend; and the balance
abbrev pub shown : Record → AccountShown
shown r = record { answer = gives (bit r.used ∷ r.next.0 ∷ free r.balance ∷ []); balance = signed r.balance }

-- reading an account: 16 on length and header, 2 above 63, 22 if it is not kept here, 16 on the record
unfoldable pub account : Rules → List ℕ → ℕ → AccountShown
account rules s a =
    need (is_state rules s) (unshown 16)
    (need (is_account a) (unshown 2)
    (need (rules.keeps a) (unshown 22)
    (need (is_formed rules s a) (unshown 16)
    (shown (record_of rules s a)))))

-- standing body: the sender's pending body if there is one, otherwise the message's body
unfoldable pub standing_on : Rules → List ℕ → List ℕ → ℕ → List ℕ
standing_on rules m s a =
    need (is_formed rules s a) []
    (cond (nat_lt 0 (length (pending_of rules s a))) (pending_of rules s a) (inside m))

-- an empty part of the message on 16, 1, 2 or 22
unfoldable pub standing : Rules → List ℕ → List ℕ → List ℕ
standing rules m s =
    need (is_state rules s) []
    (need (is_order m) []
    (need (rules.keeps (payment (inside m)).sender.0) []
    (standing_on rules m s (payment (inside m)).sender.0)))

-- where it lies: a pending body behind the first twelve bytes of its record, the message's body behind the first three of the message
unfoldable pub standing_on_at : Rules → List ℕ → List ℕ → ℕ → Said
standing_on_at rules m s a =
    need (is_formed rules s a) (in_message 0 0)
    (cond (nat_lt 0 (length (pending_of rules s a))) (in_state (place rules a + 12) (length (pending_of rules s a))) (in_message 3 (number two m 1)))

-- the empty part is the message's, at its start
unfoldable pub standing_at : Rules → List ℕ → List ℕ → Said
standing_at rules m s =
    need (is_state rules s) (in_message 0 0)
    (need (is_order m) (in_message 0 0)
    (need (rules.keeps (payment (inside m)).sender.0) (in_message 0 0)
    (standing_on_at rules m s (payment (inside m)).sender.0)))
