-- The laws of a machine's calls, for any messages, verdicts and states. Assumes nothing.
use Rattle.std.specs.Prelude.{ℕ, ◌*◌, ◌≤◌, ◌<◌, ◌≡◌, refl, true, List, length, get_or}
use Rattle.std.proofs.Common.{◌∙◌, arith, le-leb, le-ltb, eq-eqb}
use Rattle.octets.specs.Octets.{two, bytes}
use Rattle.octets.proofs.Laws.{length_put, length_bytes, get_or_put_out}
use Rattle.wire.specs.Messages.{payment, inside, funding}
use Rattle.wire.specs.Votes.{signers_in}
use Rattle.wire.specs.Readers.{judged_by}
use Rattle.states.specs.Headers.{with_index}
use Rattle.records.specs.Balances.{signed}
use Rattle.records.specs.Records.{paid, fresh_record}
use Rattle.records.specs.States.{Layout, Refusals, Rules, base, record_of, fresh_state}
use Rattle.records.specs.Answers.{confirmed_with}
use Rattle.records.specs.Calls.{fresh, order, has_place, settle_on, settle, certificate, funding_order, account}
use Rattle.invariants.specs.RecordLaws.{holding_formed, fresh_records}
use Rattle.invariants.specs.Outcomes.{after_paid, after_debit, certificate_body, body_range, fresh_comes, order_comes, certificate_comes, funding_comes}
use Rattle.invariants.specs.Meaning.{LeavesRefused, InRecord, WellFormed, Lays, Unnoted, Limited, HasRoom}
use Rattle.invariants.specs.Keeping.{holding_size, paid_size, credited_size, record_leaves, fresh_state_lem, formed_of, with_record_keeps}
use Rattle.invariants.specs.Bounds.{fresh_record_lem, fresh_index}
use Rattle.invariants.specs.Moving.{tallied_length}
use Rattle.invariants.specs.Layouts.{lays}
use Rattle.invariants.specs.Sixteen.{pays, touched_formed}

-- a refusal leaves every byte
pub fresh_refused : (rules : Rules) (s : List ℕ) (f own : ℕ) → LeavesRefused s (fresh rules s f own)
fresh_refused rules s f own = fresh_comes (LeavesRefused s) rules s f own (λ _ _ _. refl) (λ _ _ e. absurd (e refl))

pub order_refused : (rules : Rules) (s m verdicts : List ℕ) → LeavesRefused s (order rules s m verdicts)
order_refused rules s m verdicts = order_comes (LeavesRefused s) rules s (λ _ _. refl) m verdicts (λ _ e. absurd (e refl))

pub certificate_refused : (rules : Rules) (s m verdicts : List ℕ) → LeavesRefused s (certificate rules s m verdicts)
certificate_refused rules s m verdicts =
    certificate_comes (LeavesRefused s) rules s (λ _ _. refl) m verdicts
    (λ _ _ e. absurd (e refl)) (λ _ _ _ _ e. absurd (e refl)) (λ _ _ e. absurd (e refl)) (λ _ _ e. absurd (e refl))

pub funding_refused : (rules : Rules) (s m verdicts : List ℕ) → LeavesRefused s (funding_order rules s m verdicts)
funding_refused rules s m verdicts = funding_comes (LeavesRefused s) rules s (λ _ _. refl) m verdicts (λ _ _ _ e. absurd (e refl)) (λ _ _ e. absurd (e refl))

-- an answer leaves the length, and every byte outside the header's index, what the rules note in the header or send, and the touched records
pub order_leaves : (rules : Rules) (s m verdicts : List ℕ) (i : ℕ) → (InRecord rules (payment (inside m)).sender.0 i → ⊥)
    → get_or (order rules s m verdicts).state i 0 ≡ get_or s i 0
order_leaves rules s m verdicts i out =
    order_comes (λ o. get_or o.state i 0 ≡ get_or s i 0) rules s (λ _. refl) m verdicts
    (λ _. record_leaves rules s (payment (inside m)).sender.0 _ i (holding_size _ (inside m)) out)

pub certificate_leaves : (rules : Rules) (s m verdicts : List ℕ) (i : ℕ) → Unnoted rules i → (InRecord rules (payment (inside m)).sender.0 i → ⊥)
    → ((payment (inside m)).kind ≡ 0 → InRecord rules (payment (inside m)).recipient i → ⊥) → get_or (certificate rules s m verdicts).state i 0 ≡ get_or s i 0
certificate_leaves rules s m verdicts i unnoted from to =
    let p = payment (inside m) in
    let payer : (t : List ℕ) (n : ℕ) → _ = λ t n. record_leaves rules t p.sender.0 (paid (record_of rules s p.sender.0) n) i (paid_size _ n) from in
    let debit = payer (rules.tallied s p.amount 0) p.amount ∙ unnoted.noting s p.amount 0 in
    certificate_comes (λ o. get_or o.state i 0 ≡ get_or s i 0) rules s (λ _. refl) m verdicts (λ _ _. payer s 0) (λ _ _ _ _. debit)
    (λ _ c. record_leaves rules (after_paid rules s p p.amount) p.recipient _ i (credited_size rules s p.recipient p.amount) (to c.kind)
    ∙ payer s p.amount)
    (λ _ _. unnoted.sending _ p.recipient p.amount ∙ debit)

pub funding_leaves : (rules : Rules) (s m verdicts : List ℕ) (i : ℕ) → Unnoted rules i → (2 ≤ i → i < 4 → ⊥) → (InRecord rules (funding m).account.0 i → ⊥)
    → get_or (funding_order rules s m verdicts).state i 0 ≡ get_or s i 0
funding_leaves rules s m verdicts i unnoted index out =
    let o = funding m in
    let l : length (bytes two o.index.0) ≡ 2 = length_bytes two o.index.0 in
    let indexed : (t : List ℕ) → get_or (with_index t o.index.0) i 0 ≡ get_or t i 0 = λ t.
    get_or_put_out t 2 (bytes two o.index.0) i (λ p q. index p (omega arith)) in
    funding_comes (λ x. get_or x.state i 0 ≡ get_or s i 0) rules s (λ _. refl) m verdicts (λ _ _ _. indexed s)
    (λ _ _. let t = rules.tallied s 0 o.amount in
    record_leaves rules (with_index t o.index.0) o.account.0 _ i (credited_size rules s o.account.0 o.amount) out
    ∙ indexed t ∙ unnoted.noting s 0 o.amount)

pub order_length : (rules : Rules) (s m verdicts : List ℕ) → length (order rules s m verdicts).state ≡ length s
order_length rules s m verdicts = order_comes (λ o. length o.state ≡ length s) rules s (λ _. refl) m verdicts (λ _. length_put _ _ _)

pub certificate_length : (rules : Rules) → Lays rules → (s m verdicts : List ℕ) → length (certificate rules s m verdicts).state ≡ length s
certificate_length rules l s m verdicts =
    let p = payment (inside m) in
    let debit : length (after_debit rules s p) ≡ length s = length_put _ _ _ ∙ tallied_length rules l s p.amount 0 in
    certificate_comes (λ o. length o.state ≡ length s) rules s (λ _. refl) m verdicts (λ _ _. length_put _ _ _) (λ _ _ _ _. debit)
    (λ _ _. length_put _ _ _ ∙ length_put _ _ _) (λ _ _. l.sent_size _ _ _ ∙ debit)

pub funding_length : (rules : Rules) → Lays rules → (s m verdicts : List ℕ) → length (funding_order rules s m verdicts).state ≡ length s
funding_length rules l s m verdicts =
    funding_comes (λ o. length o.state ≡ length s) rules s (λ _. refl) m verdicts (λ _ _ _. length_put _ _ _)
    (λ _ _. length_put _ _ _ ∙ length_put _ _ _ ∙ tallied_length rules l s _ _)

-- the rules of 01 are such rules, and note and send nothing
pub base_lays : Lays base
base_lays = lays Layout.plain Refusals.none

pub base_unnoted : (i : ℕ) → Unnoted base i
base_unnoted i = record { noting = λ s out into. refl; sending = λ s account amount. refl }

-- a fresh state is well formed, and an order keeps that
pub fresh_formed : (s : List ℕ) (f own : ℕ) → (fresh base s f own).answer.number ≡ 0 → WellFormed base (fresh base s f own).state
fresh_formed s f own =
    fresh_comes (λ o. o.answer.number ≡ 0 → WellFormed base o.state) base s f own (λ n h e. absurd (omega arith))
    (λ h k _. record { state = fresh_state_lem f own h k; records = fresh_records f own })

pub order_keeps : (rules : Rules) → Lays rules → (s m verdicts : List ℕ) → WellFormed rules s → WellFormed rules (order rules s m verdicts).state
order_keeps rules l s m verdicts w =
    let account = (payment (inside m)).sender.0 in
    order_comes (λ o. WellFormed rules o.state) rules s (λ _. w) m verdicts (λ v.
    with_record_keeps rules l s account _ v.range.sender w
    (holding_formed account _ (inside m) (formed_of rules s account w v.range.sender) v.used v.formed refl v.next))

-- a fresh state is limited
pub fresh_limits : (f own : ℕ) → f ≤ 5 → own ≤ 3 * f → Limited base (fresh_state base f own)
unfolding fresh_record
fresh_limits f own h k = record {
  formed = record { state = fresh_state_lem f own h k; records = fresh_records f own };
  index = omega (arith, fresh_index f own);
  least = λ x k. rw (fresh_record_lem f own x k) (omega arith);
  most = λ x k. rw (fresh_record_lem f own x k) (omega arith);
}

pub fresh_limited : (s : List ℕ) (f own : ℕ) → (fresh base s f own).answer.number ≡ 0 → Limited base (fresh base s f own).state
fresh_limited s f own =
    fresh_comes (λ o. o.answer.number ≡ 0 → Limited base o.state) base s f own (λ n h e. absurd (omega arith)) (λ h k _. fresh_limits f own h k)

-- where there is room a good certificate in its turn is confirmed, however low the balance: its sender is kept here and its credit has a place
pub certificate_counts : (rules : Rules) (s m verdicts : List ℕ) → HasRoom rules s → (judged_by (rules.committee s) m verdicts).number ≡ 0
    → (let p = payment (inside m) in rules.keeps p.sender.0 ≡ true → has_place rules s p ≡ true → p.sequence.0 ≡ (record_of rules s p.sender.0).next.0
    → (certificate rules s m verdicts).answer ≡ confirmed_with (rules.counted s (signers_in m)))
unfolding certificate settle settle_on
certificate_counts rules s m verdicts h good kept place turn =
    let p = payment (inside m) in
    let from = record_of rules s p.sender.0 in
    let range = body_range (inside m) (certificate_body (rules.committee s) m verdicts good) in
    let payer = h.formed.records p.sender.0 range.sender in
    let touched = touched_formed rules s m h.formed range in
    rw (h.formed.state, kept, good, payer, touched, le-ltb p.sequence.0 from.next.0 (omega arith), eq-eqb _ _ turn, place)
    (pays (λ o. o.answer ≡ confirmed_with (rules.counted s (signers_in m))) rules s m verdicts h range kept (λ t. refl))

-- what reading an account that is kept here shows of its balance
pub account_balance : (rules : Rules) (s : List ℕ) (x : ℕ) → WellFormed rules s → x ≤ 63 → rules.keeps x ≡ true
    → (account rules s x).balance ≡ signed (record_of rules s x).balance
unfolding account
account_balance rules s x formed h kept = rw (formed.state, le-leb x 63 h, kept, formed.records x h)
