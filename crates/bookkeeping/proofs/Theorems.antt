-- What a redemption leaves of the logs, for any messages, verdicts and states. Assumes nothing.
use Rattle.std.specs.Prelude.{ℕ, ◌≤◌, ◌≡◌, refl, true, List}
use Rattle.std.proofs.Common.{sym, ◌∙◌}
use Rattle.std.proofs.lemmas.Bool.{false≢true}
use Rattle.wire.specs.Messages.{payment, inside}
use Rattle.wire.specs.declared.kinds.Payment.{Payment}
use Rattle.ledger.specs.States.{Rules, is_redeemed, with_redeemed}
use Rattle.ledger.specs.Calls.{redeem}
use Rattle.bookkeeping.specs.Meaning.{Lays}
use Rattle.bookkeeping.specs.LogLaws.{redeemed_stays}
use Rattle.bookkeeping.specs.Outcomes.{after_pay, MayPay, redeem_comes}
use Rattle.bookkeeping.specs.Theorems.{pot_others}

-- every other sequence of all 64 logs reads as before where a payment is made
paid_others : (rules : Rules) → Lays rules → (s : List ℕ) (p : Payment) → MayPay rules s p → (account sequence : ℕ) → sequence ≤ 4_095
    → (p.sender.0 ≡ account → p.sequence.0 ≡ sequence → ⊥) → is_redeemed rules (after_pay rules s p) account sequence ≡ is_redeemed rules s account sequence
paid_others rules l s p v account sequence h apart =
    pot_others rules l (with_redeemed rules s p.sender.0 p.sequence.0) _ account sequence
    ∙ redeemed_stays rules s p.sender.0 p.sequence.0 account sequence v.range.sequence h apart

-- and whatever the call comes to
pub redeem_others : (rules : Rules) → Lays rules → (s m verdicts : List ℕ) (account sequence : ℕ) → sequence ≤ 4_095
    → ((payment (inside m)).sender.0 ≡ account → (payment (inside m)).sequence.0 ≡ sequence → ⊥)
    → is_redeemed rules (redeem rules s m verdicts).state account sequence ≡ is_redeemed rules s account sequence
redeem_others rules l s m verdicts account sequence h apart =
    redeem_comes (λ o. is_redeemed rules o.state account sequence ≡ is_redeemed rules s account sequence) rules s m verdicts (λ _ _. refl)
    (λ v. paid_others rules l s (payment (inside m)) v account sequence h apart)

-- what is in the log stays there
pub redeem_stays : (rules : Rules) → Lays rules → (s m verdicts : List ℕ) (account sequence : ℕ) → sequence ≤ 4_095
    → is_redeemed rules s account sequence ≡ true → is_redeemed rules (redeem rules s m verdicts).state account sequence ≡ true
redeem_stays rules l s m verdicts account sequence h e =
    redeem_comes (λ o. is_redeemed rules o.state account sequence ≡ true) rules s m verdicts (λ _ _. e)
    (λ v. paid_others rules l s (payment (inside m)) v account sequence h (λ p q. false≢true (sym (rw (p, q) at v.unredeemed) ∙ e)) ∙ e)
