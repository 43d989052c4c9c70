-- Where balances have room no call answers 16, whatever rules are in force. Assumes nothing.
use Rattle.std.specs.Prelude.{ℕ, ◌+◌, ◌≤◌, ◌≡◌, Bool, true, false, cond, ◌||◌, ◌&&◌, not, List, length, eqb, leb, ltb}
use Rattle.std.proofs.Common.{arith, lit≤, eqb-true, le-leb, leb-true}
use Rattle.std.proofs.lemmas.Bool.{not-false}
use Rattle.octets.specs.Octets.{same}
use Rattle.octets.specs.Tests.{need}
use Rattle.octets.proofs.TestLaws.{either_second}
use Rattle.wire.specs.Numbers.{is_account}
use Rattle.wire.specs.Messages.{payment, inside, funding}
use Rattle.wire.specs.Votes.{good, signers_in}
use Rattle.wire.specs.Readers.{read_order_payment, read_funding, judged_by}
use Rattle.wire.proofs.Ranges.{PaymentRange, funding_range}
use Rattle.states.specs.Headers.{last_index}
use Rattle.states.specs.Outcomes.{Outcome, outcome}
use Rattle.records.specs.Answers.{AccountShown, confirmed_with}
use Rattle.records.specs.Balances.{nought, highest}
use Rattle.records.specs.States.{Rules, is_state, record_of, is_formed, pending_of}
use Rattle.records.specs.Calls.{order, vote, vote_on, to_itself, pay, has_place, settle_on, settle, is_paper, certificate, credit_on, credit, funding_order, account}
use Rattle.invariants.specs.Meaning.{WellFormed, HasRoom}
use Rattle.invariants.specs.Outcomes.{need_case, need_holds, cond_case, order_body, certificate_body, funding_order_lem, body_range, judged_paper, kept_here}
use Rattle.invariants.specs.Bounds.{order_read, judged, funding_read, to_account, recipient_formed}

-- an answer other than 16, behind a test: its refusal is another, or the test holds
module _ {A : Type 0} (answer : A → ℕ) where
  abbrev Not16 : A → Type 0
  Not16 x = answer x ≡ 16 → ⊥

  beyond : (t : Bool) (failed rest : A) → Not16 failed → (t ≡ true → Not16 rest) → Not16 (need t failed rest)
  beyond = need_case Not16

  holds : (t : Bool) (failed rest : A) → t ≡ true → Not16 rest → Not16 (need t failed rest)
  holds = need_holds Not16

  either : (t : Bool) (a b : A) → Not16 a → (t ≡ false → Not16 b) → Not16 (cond t a b)
  either t a b h = cond_case Not16 t a b (λ _. h)

-- the number of a call's answer
abbrev told : Outcome → ℕ
told o = o.answer.number

low : (n : ℕ) → n ≤ 15 → n ≡ 16 → ⊥
low n h e = omega arith

pub order_not_16 : (rules : Rules) (s m verdicts : List ℕ) → WellFormed rules s → ((body : List ℕ) → rules.further body ≡ 16 → ⊥)
    → (order rules s m verdicts).answer.number ≡ 16 → ⊥
unfolding order vote vote_on
order_not_16 rules s m verdicts h further =
    let p = payment (inside m) in
    let from = record_of rules s p.sender.0 in
    holds told (is_state rules s) _ _ h.state
    (beyond told (eqb (read_order_payment m).number 0) _ _ (low _ (order_read m)) (λ read.
    beyond told (eqb (length verdicts) 1) _ _ (λ e. omega arith) (λ _.
    beyond told (rules.keeps p.sender.0) _ _ (λ e. omega arith) (λ _.
    beyond told (good verdicts) _ _ (λ e. omega arith) (λ _.
    holds told (is_formed rules s p.sender.0) _ _ (h.records p.sender.0 (body_range (inside m) (order_body m (eqb-true _ _ read))).sender)
    (beyond told from.used _ _ (λ e. omega arith) (λ _.
    either told (ltb 0 from.waiting) _ _ (beyond told (same (pending_of rules s p.sender.0) (inside m)) _ _ (λ e. omega arith) (λ _ e. omega arith)) (λ _.
    beyond told (eqb (rules.further (inside m)) 0) _ _ (further (inside m)) (λ _.
    beyond told (eqb p.sequence.0 from.next.0) _ _ (λ e. omega arith) (λ _.
    beyond told (leb (nought + p.amount) from.balance) _ _ (λ e. omega arith) (λ _ e. omega arith)))))))))))

-- a certificate of the next sequence whose credit has a place is confirmed
module _ (P : Outcome → Type 0) (rules : Rules) (s m verdicts : List ℕ) (h : HasRoom rules s) (range : PaymentRange (payment (inside m)))
    (kept : rules.keeps (payment (inside m)).sender.0 ≡ true)
    (confirms : (t : List ℕ) → P (outcome (confirmed_with (rules.counted s (signers_in m))) t)) where
  pub pays : (let p = payment (inside m) in let counts = rules.counted s (signers_in m) in
      P (pay rules s p counts (record_of rules s p.sender.0) (record_of rules s p.recipient)))
  unfolding pay
  pays =
      let p = payment (inside m) in
      let from = record_of rules s p.sender.0 in
      let to = record_of rules s p.recipient in
      let noted = h.header p.amount 0 range.amount (lit≤ tt) in
      cond_case P (to_itself p) _ _ (λ _. confirms _) (λ _.
      need_holds P (leb p.amount from.balance) _ _
      (le-leb p.amount from.balance (omega (arith, h.least p.sender.0 range.sender kept, range.amount)))
      (cond_case P (eqb p.kind 1) _ _ (λ _. need_holds P (rules.may_tally s p.amount 0) _ _ noted (confirms _)) (λ account.
      cond_case P (not (rules.keeps p.recipient)) _ _ (λ _. need_holds P (rules.may_tally s p.amount 0) _ _ noted (confirms _)) (λ near.
      let most = h.most p.recipient (to_account p range account) (not-false (rules.keeps p.recipient) near) in
      need_holds P (leb (to.balance + p.amount) highest) _ _ (le-leb (to.balance + p.amount) highest (omega (arith, most, range.amount))) (confirms _)))))

-- the records that a certificate touches are well formed
pub touched_formed : (rules : Rules) (s m : List ℕ) → WellFormed rules s → PaymentRange (payment (inside m))
    → (let p = payment (inside m) in (not (rules.keeps p.recipient) || (eqb p.kind 1 || is_formed rules s p.recipient)) ≡ true)
touched_formed rules s m h range = let p = payment (inside m) in either_second (not (rules.keeps p.recipient)) _ (recipient_formed rules s p h range)

pub certificate_not_16 : (rules : Rules) (s m verdicts : List ℕ) → HasRoom rules s → (certificate rules s m verdicts).answer.number ≡ 16 → ⊥
unfolding certificate settle settle_on
certificate_not_16 rules s m verdicts h =
    let p = payment (inside m) in
    let from = record_of rules s p.sender.0 in
    let c = rules.committee s in
    holds told (is_state rules s) _ _ h.formed.state
    (either told (not (rules.keeps p.sender.0) && is_paper m verdicts) _ _ (λ e. omega arith) (λ here.
    beyond told (eqb (judged_by c m verdicts).number 0) _ _ (low _ (judged c m verdicts)) (λ read.
    let range = body_range (inside m) (certificate_body c m verdicts (eqb-true _ _ read)) in
    let kept = kept_here (rules.keeps p.sender.0) (is_paper m verdicts) (judged_paper c m verdicts (eqb-true _ _ read)) here in
    holds told (is_formed rules s p.sender.0) _ _ (h.formed.records p.sender.0 range.sender)
    (holds told (not (rules.keeps p.recipient) || (eqb p.kind 1 || is_formed rules s p.recipient)) _ _ (touched_formed rules s m h.formed range)
    (either told (ltb p.sequence.0 from.next.0) _ _ (λ e. omega arith) (λ _.
    beyond told (eqb p.sequence.0 from.next.0) _ _ (λ e. omega arith) (λ _.
    beyond told (has_place rules s p) _ _ (λ e. omega arith) (λ _.
    pays (Not16 told) rules s m verdicts h range kept (λ t e. omega arith)))))))))

pub funding_not_16 : (rules : Rules) (s m verdicts : List ℕ) → HasRoom rules s → (funding_order rules s m verdicts).answer.number ≡ 16 → ⊥
unfolding funding_order credit credit_on
funding_not_16 rules s m verdicts h =
    let o = funding m in
    let r = record_of rules s o.account.0 in
    holds told (is_state rules s) _ _ h.formed.state
    (beyond told (eqb (read_funding m).number 0) _ _ (low _ (funding_read m)) (λ read.
    let range = funding_range o (funding_order_lem m (eqb-true _ _ read)).1 in
    beyond told (eqb (length verdicts) 1) _ _ (λ e. omega arith) (λ _.
    beyond told (good verdicts) _ _ (λ e. omega arith) (λ _.
    holds told (not (rules.keeps o.account.0) || is_formed rules s o.account.0) _ _
    (either_second (not (rules.keeps o.account.0)) _ (h.formed.records o.account.0 range.account))
    (beyond told (eqb o.index.0 (last_index s + 1)) _ _ (λ e. omega arith) (λ _.
    either told (not (rules.keeps o.account.0)) _ _ (λ e. omega arith) (λ near.
    let most = h.most o.account.0 range.account (not-false (rules.keeps o.account.0) near) in
    holds told (leb (r.balance + o.amount) highest) _ _ (le-leb (r.balance + o.amount) highest (omega (arith, most, range.amount)))
    (holds told (rules.may_tally s 0 o.amount) _ _ (h.header 0 o.amount (lit≤ tt) range.amount) (λ e. omega arith)))))))))

pub account_not_16 : (rules : Rules) (s : List ℕ) (a : ℕ) → WellFormed rules s → (account rules s a).answer.number ≡ 16 → ⊥
unfolding account
account_not_16 rules s a h =
    let shows : AccountShown → ℕ = λ x. x.answer.number in
    holds shows (is_state rules s) _ _ h.state
    (beyond shows (is_account a) _ _ (λ e. omega arith) (λ k.
    beyond shows (rules.keeps a) _ _ (λ e. omega arith) (λ _.
    holds shows (is_formed rules s a) _ _ (h.records a (leb-true _ _ k)) (λ e. omega arith))))
