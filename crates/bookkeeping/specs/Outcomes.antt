-- What a call on the ledger can come to: the bytes as they were, or new ones, with what the tests on the way said. Assumes nothing.
use Rattle.std.specs.Prelude.{ℕ, ◌+◌, ◌-◌, ◌≤◌, ◌<◌, ◌≡◌, true, false, List, length, leb, ltb, eqb}
use Rattle.std.proofs.Common.{lit<, leb-true, ltb-true, eqb-true}
use Rattle.octets.specs.Octets.{put}
use Rattle.wire.specs.Numbers.{is_faults, is_account, is_amount}
use Rattle.wire.specs.Messages.{payment, inside, funding_bytes}
use Rattle.wire.specs.Readers.{judged_by}
use Rattle.wire.specs.declared.kinds.Payment.{Payment}
use Rattle.wire.proofs.Ranges.{PaymentRange}
use Rattle.states.specs.Headers.{last_index, with_index}
use Rattle.states.specs.Outcomes.{Outcome, outcome, refused, done}
use Rattle.invariants.specs.Outcomes.{need_case, cond_case, passed, certificate_body, body_range}
use Rattle.ledger.specs.States.{Rules, state_length, is_state, pot, with_pot, is_pot, is_redeemed, with_redeemed, fresh_state}
use Rattle.ledger.specs.Answers.{FundOutcome, fund_outcome, unfunded, funded, paid}
use Rattle.ledger.specs.Calls.{fresh, fund, next_funding, pay, redeem}

-- the bytes after funding, and after a payment out of the pot
abbrev pub after_fund : List ℕ → ℕ → List ℕ
after_fund s amount = with_pot (with_index s (last_index s + 1)) (pot s + amount)

abbrev pub after_pay : Rules → List ℕ → Payment → List ℕ
after_pay rules s p = with_pot (with_redeemed rules s p.sender.0 p.sequence.0) (pot s - p.amount)

-- what the tests of fund said
pub record MayFund (rules : Rules) (s out : List ℕ) (account amount : ℕ) : Type 0 where
  pub state : is_state rules s ≡ true
  pub account_most : account ≤ 63
  pub amount_fits : is_amount amount ≡ true
  pub index : last_index s < 65_535
  pub room : 16 ≤ length out
  pub pot_fits : is_pot (pot s + amount) ≡ true

-- what the tests of redeem said
pub record MayPay (rules : Rules) (s : List ℕ) (p : Payment) : Type 0 where
  pub state : is_state rules s ≡ true
  pub range : PaymentRange p
  pub kind : p.kind ≡ 1
  pub unredeemed : is_redeemed rules s p.sender.0 p.sequence.0 ≡ false
  pub enough : p.amount ≤ pot s

-- what holds of the refusals and of a fresh state holds of what making one comes to
pub fresh_comes : (P : Outcome → Type 0) (rules : Rules) (s : List ℕ) (f : ℕ) → ((n : ℕ) → 0 < n → P (refused n s))
    → (f ≤ 5 → P (outcome done (fresh_state rules f))) → P (fresh rules s f)
unfolding fresh
fresh_comes P rules s f refusal made =
    need_case P (eqb (length s) (state_length rules)) _ _ (refusal 16 (lit< tt)) (λ _.
    need_case P (is_faults f) _ _ (refusal 2 (lit< tt)) (λ a.
    made (leb-true _ _ a)))

-- what holds of every refusal, and of a funding order given, holds of what fund comes to
pub fund_comes : (P : FundOutcome → Type 0) (rules : Rules) (s out : List ℕ) (account amount : ℕ) → ((n : ℕ) → 0 < n → P (unfunded n s out))
    → (MayFund rules s out account amount
    → P (fund_outcome (funded (last_index s + 1)) (after_fund s amount) (put out 0 (funding_bytes (next_funding s account amount)))))
    → P (fund rules s out account amount)
unfolding fund
fund_comes P rules s out account amount refusal given =
    need_case P (is_state rules s) _ _ (refusal 16 (lit< tt)) (λ a.
    need_case P (is_account account) _ _ (refusal 2 (lit< tt)) (λ b.
    need_case P (is_amount amount) _ _ (refusal 2 (lit< tt)) (λ c.
    need_case P (ltb (last_index s) 65_535) _ _ (refusal 17 (lit< tt)) (λ d.
    need_case P (leb 16 (length out)) _ _ (refusal 18 (lit< tt)) (λ e.
    need_case P (is_pot (pot s + amount)) _ _ (refusal 16 (lit< tt)) (λ g.
    given (record { state = a; account_most = leb-true _ _ b; amount_fits = c; index = ltb-true _ _ d; room = leb-true _ _ e; pot_fits = g })))))))

-- what holds of every refusal, and of a payment out of the pot, holds of what redeem comes to
pub redeem_comes : (P : Outcome → Type 0) (rules : Rules) (s m verdicts : List ℕ) → ((n : ℕ) → 0 < n → P (refused n s))
    → (let p = payment (inside m) in MayPay rules s p → P (outcome (paid p.recipient p.amount) (after_pay rules s p)))
    → P (redeem rules s m verdicts)
unfolding redeem pay
redeem_comes P rules s m verdicts refusal given =
    let p = payment (inside m) in
    need_case P (is_state rules s) _ _ (refusal 16 (lit< tt)) (λ a.
    passed P s (judged_by (rules.committee s) m verdicts).number _ refusal (λ judged.
    need_case P (eqb p.kind 1) _ _ (refusal 13 (lit< tt)) (λ b.
    cond_case P (is_redeemed rules s p.sender.0 p.sequence.0) _ _ (λ _. refusal 14 (lit< tt)) (λ c.
    need_case P (leb p.amount (pot s)) _ _ (refusal 15 (lit< tt)) (λ d.
    given (record { state = a; range = body_range (inside m) (certificate_body (rules.committee s) m verdicts judged); kind = eqb-true _ _ b; unredeemed = c; enough = leb-true _ _ d }))))))
