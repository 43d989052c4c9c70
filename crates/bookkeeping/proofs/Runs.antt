-- After any calls: the index is exhausted, and what was paid is never paid again. Assumes nothing.
use Rattle.std.specs.Prelude.{ℕ, ◌≤◌, ◌≡◌, true, List, [], ◌∷◌, length}
use Rattle.std.proofs.Common.{◌∙◌, arith}
use Rattle.wire.specs.Numbers.{is_account, is_amount}
use Rattle.wire.specs.Messages.{payment, inside}
use Rattle.ledger.specs.States.{Rules, base, is_redeemed}
use Rattle.ledger.specs.Answers.{unfunded}
use Rattle.ledger.specs.Calls.{fresh, fund, redeem}
use Rattle.bookkeeping.specs.Meaning.{Lays, Call, after_all, are_fundings}
use Rattle.bookkeeping.specs.Outcomes.{redeem_comes}
use Rattle.bookkeeping.specs.Theorems.{fund_others, redeem_logs, redeemed_unpaid}
use Rattle.bookkeeping.specs.Runs.{run_balanced, fund_exhausted, fundings_fit}
use Rattle.bookkeeping.proofs.Theorems.{redeem_stays}

-- after 65,535 funding orders, one after another on a fresh ledger, the next one is refused with 17
pub fundings_exhaust : (s : List ℕ) (f : ℕ) (calls : List Call) (out : List ℕ) (account amount : ℕ) → (fresh base s f).answer.number ≡ 0
    → are_fundings calls ≡ true
    → length calls ≡ 65_535 → is_account account ≡ true → is_amount amount ≡ true
    → (let t = after_all base (fresh base s f).state calls in fund base t out account amount ≡ unfunded 17 t out)
fundings_exhaust s f calls out account amount h each all a v =
    fund_exhausted out account amount (run_balanced s f calls h) a v (fundings_fit s f calls h each (omega arith) ∙ all)

-- what is in the log stays there, whatever calls follow
pub run_logged : (rules : Rules) → Lays rules → (s : List ℕ) (calls : List Call) (account sequence : ℕ) → sequence ≤ 4_095
    → is_redeemed rules s account sequence ≡ true → is_redeemed rules (after_all rules s calls) account sequence ≡ true
unfolding after_all
run_logged rules l s [] account sequence h e = e
run_logged rules l s (Call.funding out a amount ∷ calls) account sequence h e =
    run_logged rules l (fund rules s out a amount).state calls account sequence h (fund_others rules l s out a amount account sequence ∙ e)
run_logged rules l s (Call.redeeming m verdicts ∷ calls) account sequence h e =
    run_logged rules l (redeem rules s m verdicts).state calls account sequence h (redeem_stays rules l s m verdicts account sequence h e)

-- so one sequence of an account is paid once: after it was, whatever calls come between, no certificate for it is paid again
pub paid_once : (rules : Rules) → Lays rules → (s m verdicts : List ℕ) (calls : List Call) (n others : List ℕ) → (redeem rules s m verdicts).answer.number ≡ 0
    → (payment (inside n)).sender.0 ≡ (payment (inside m)).sender.0 → (payment (inside n)).sequence.0 ≡ (payment (inside m)).sequence.0
    → (redeem rules (after_all rules (redeem rules s m verdicts).state calls) n others).answer.number ≡ 0 → ⊥
paid_once rules l s m verdicts calls n others h account sequence =
    let fits : (payment (inside m)).sequence.0 ≤ 4_095 =
    redeem_comes (λ o. o.answer.number ≡ 0 → (payment (inside m)).sequence.0 ≤ 4_095) rules s m verdicts (λ n h e. absurd (omega arith)) (λ v _. v.range.sequence) h in
    redeemed_unpaid rules _ n others
    (rw (account, sequence) (run_logged rules l (redeem rules s m verdicts).state calls _ _ fits (redeem_logs rules l s m verdicts h)))
