-- From a fresh state on, after any calls: the pot is funding less what was paid, and within its limits. Assumes nothing.
use Rattle.std.specs.Prelude.{ℕ, ◌+◌, ◌-◌, ◌*◌, ◌≤◌, ◌<◌, ◌≡◌, refl, true, List, [], ◌∷◌, length, get_or, leb, ltb, eqb}
use Rattle.std.proofs.Common.{ap, ◌∙◌, arith, lit≤, leb-true, le-leb, lt-ltb, ne_eqb}
use Rattle.std.proofs.lemmas.Bool.{false≢true}
use Rattle.wire.specs.Numbers.{is_account, is_amount, is_sequence}
use Rattle.wire.specs.Messages.{payment, inside}
use Rattle.wire.specs.Readers.{judged_by}
use Rattle.wire.specs.Refusals.{Said}
use Rattle.octets.proofs.TestLaws.{both}
use Rattle.wire.proofs.Ranges.{amount_most}
use Rattle.states.specs.Headers.{last_index, with_index}
use Rattle.states.specs.Outcomes.{Outcome}
use Rattle.invariants.specs.Outcomes.{need_case, cond_case}
use Rattle.invariants.specs.Bounds.{below, holds, either, judged}
use Rattle.ledger.specs.States.{Rules, base, is_state, pot, with_pot, is_pot, is_redeemed, with_redeemed}
use Rattle.ledger.specs.Answers.{FundOutcome, unfunded, funded}
use Rattle.ledger.specs.Calls.{fresh, fund, pay, redeem, read_pot, read_log}
use Rattle.bookkeeping.specs.Meaning.{Lays, Call, after, after_all, unless_refused, order_given, amount_funded, amount_paid, total, are_fundings, Balanced}
use Rattle.bookkeeping.specs.Outcomes.{fresh_comes, fund_comes, redeem_comes}
use Rattle.bookkeeping.specs.Keeping.{base_lays, state_room, index_written, pot_written, pot_leaves_index, log_leaves_index, fresh_index, fresh_pot, with_index_keeps, with_pot_keeps, with_redeemed_keeps}
use Rattle.bookkeeping.specs.Theorems.{fresh_formed}

-- the same books, with numbers that are equal to theirs
recounted : {rules : Rules} {s : List ℕ} {orders funding paid orders' funding' paid' : ℕ} → Balanced rules s orders funding paid
    → (orders ≡ orders') × (funding ≡ funding') × (paid ≡ paid') → Balanced rules s orders' funding' paid'
recounted b e = rw (e.0, e.1, e.2) at b

-- the books of a well-formed state where another pot is written
pot_balanced : (rules : Rules) → Lays rules → (s : List ℕ) (amount orders funding paid : ℕ) → is_state rules s ≡ true → last_index s ≡ orders → orders ≤ 65_535
    → is_pot amount ≡ true → amount + paid ≡ funding → funding ≤ 1_000_000_000 * orders → Balanced rules (with_pot s amount) orders funding paid
pot_balanced rules l s amount orders funding paid h index few fits sum most = record {
  state = with_pot_keeps rules l s amount fits h;
  index = pot_leaves_index s amount ∙ index;
  few = few;
  pot = omega (arith, pot_written s amount (state_room rules l s h) fits);
  most = most;
}

-- a pot of balanced books has room for an amount
pot_has_room : {rules : Rules} {s : List ℕ} {orders funding paid : ℕ} (amount : ℕ) → Balanced rules s orders funding paid → is_amount amount ≡ true
    → is_pot (pot s + amount) ≡ true
pot_has_room {s = s} amount b v = le-leb (pot s + amount) _ (omega (arith, amount_most amount v))

-- a refusal counts nothing
refusal_uncounted : (refusal n : ℕ) → 0 < refusal → unless_refused refusal n ≡ 0
refusal_uncounted refusal n h = rw (ne_eqb refusal 0 (λ e. omega arith))

-- a fresh ledger's books are balanced
pub fresh_balanced : (s : List ℕ) (f : ℕ) → (fresh base s f).answer.number ≡ 0 → Balanced base (fresh base s f).state 0 0 0
fresh_balanced s f e =
    fresh_comes (λ o. o.answer.number ≡ 0 → is_state base o.state ≡ true → Balanced base o.state 0 0 0) base s f (λ n h e. absurd (omega arith))
    (λ h _ w. record { state = w; index = fresh_index f; few = lit≤ tt; pot = omega (arith, fresh_pot f); most = lit≤ tt })
    e (fresh_formed s f e)

-- and every call keeps them so: it counts what its answer says
pub call_balanced : (rules : Rules) → Lays rules → (s : List ℕ) (orders funding paid : ℕ) (call : Call) → Balanced rules s orders funding paid
    → Balanced rules (after rules s call) (orders + order_given rules s call) (funding + amount_funded rules s call) (paid + amount_paid rules s call)
call_balanced rules l s orders funding paid (Call.funding out account amount) b =
    let i = last_index s + 1 in
    fund_comes (λ o. let n = o.answer.number in Balanced rules o.state (orders + unless_refused n 1) (funding + unless_refused n amount) (paid + 0))
    rules s out account amount
    (λ n h. recounted b (omega (arith, refusal_uncounted n 1 h, refusal_uncounted n amount h)))
    (λ v. let index : last_index (with_index s i) ≡ i = index_written s i (state_room rules l s v.state) (omega arith) in
    pot_balanced rules l (with_index s i) (pot s + amount) _ _ _ (with_index_keeps rules l s i v.state) (omega arith) (omega arith)
    v.pot_fits (omega arith) (omega (arith, amount_most amount v.amount_fits)))
call_balanced rules l s orders funding paid (Call.redeeming m verdicts) b =
    let p = payment (inside m) in
    let a = p.sender.0 in
    let q = p.sequence.0 in
    redeem_comes (λ o. Balanced rules o.state (orders + 0) (funding + 0) (paid + get_or o.answer.values 1 0)) rules s m verdicts
    (λ n h. recounted b (omega arith))
    (λ v. pot_balanced rules l (with_redeemed rules s a q) (pot s - p.amount) _ _ _ (with_redeemed_keeps rules l s a q v.state)
    (omega (arith, log_leaves_index rules l s a q)) (omega arith) (le-leb (pot s - p.amount) _ (omega arith)) (omega arith) (omega arith))

-- the books after calls, one after another
calls_balanced : (rules : Rules) → Lays rules → (s : List ℕ) (orders funding paid : ℕ) (calls : List Call) → Balanced rules s orders funding paid
    → Balanced rules (after_all rules s calls) (orders + total order_given rules s calls) (funding + total amount_funded rules s calls) (paid + total amount_paid rules s calls)
unfolding after_all total
calls_balanced rules l s orders funding paid [] b = recounted b (omega arith)
calls_balanced rules l s orders funding paid (call ∷ calls) b =
    recounted (calls_balanced rules l (after rules s call) _ _ _ calls (call_balanced rules l s orders funding paid call b)) (omega arith)

-- the pot is funding less what was paid, and the index the number of funding orders, after any calls on a fresh ledger
pub run_balanced : (s : List ℕ) (f : ℕ) (calls : List Call) → (fresh base s f).answer.number ≡ 0
    → (let t = (fresh base s f).state in
    Balanced base (after_all base t calls) (total order_given base t calls) (total amount_funded base t calls) (total amount_paid base t calls))
run_balanced s f calls h =
    recounted (calls_balanced base base_lays (fresh base s f).state 0 0 0 calls (fresh_balanced s f h)) (omega arith)

-- so the pot is far from its limit, and 16 is never answered
pub pot_limited : {rules : Rules} {s : List ℕ} {orders funding paid : ℕ} → Balanced rules s orders funding paid → pot s ≤ 65_535_000_000_000
pot_limited b = omega arith

pub fund_never_16 : {rules : Rules} {s : List ℕ} {orders funding paid : ℕ} (out : List ℕ) (account amount : ℕ) → Balanced rules s orders funding paid
    → (fund rules s out account amount).answer.number ≡ 16 → ⊥
unfolding fund
fund_never_16 {rules} {s} out account amount b =
    let P : FundOutcome → Type 0 = λ o. o.answer.number ≡ 16 → ⊥ in
    rw b.state
    (need_case P (is_account account) _ _ (λ e. omega arith) (λ _.
    need_case P (is_amount amount) _ _ (λ e. omega arith) (λ v.
    need_case P (ltb (last_index s) 65_535) _ _ (λ e. omega arith) (λ _.
    need_case P (leb 16 (length out)) _ _ (λ e. omega arith) (λ _.
    rw (pot_has_room amount b v) (λ e. omega arith))))))

pub redeem_never_16 : {rules : Rules} {s : List ℕ} {orders funding paid : ℕ} (m verdicts : List ℕ) → Balanced rules s orders funding paid
    → (redeem rules s m verdicts).answer.number ≡ 16 → ⊥
unfolding redeem pay
redeem_never_16 {rules} {s} m verdicts b e =
    let p = payment (inside m) in
    let told : Outcome → ℕ = λ o. o.answer.number in
    let low : (redeem rules s m verdicts).answer.number ≤ 15 =
    holds told (is_state rules s) _ _ b.state
    (below told (eqb (judged_by (rules.committee s) m verdicts).number 0) _ _ (judged (rules.committee s) m verdicts) (λ _.
    below told (eqb p.kind 1) _ _ (lit≤ tt) (λ _.
    either told (is_redeemed rules s p.sender.0 p.sequence.0) _ _ (lit≤ tt) (λ _.
    below told (leb p.amount (pot s)) _ _ (lit≤ tt) (λ _. lit≤ tt))))) in
    omega arith

pub pot_never_16 : {rules : Rules} {s : List ℕ} {orders funding paid : ℕ} → Balanced rules s orders funding paid → (read_pot rules s).number ≡ 16 → ⊥
unfolding read_pot
pot_never_16 b = rw b.state (λ e. omega arith)

pub log_never_16 : {rules : Rules} {s : List ℕ} {orders funding paid : ℕ} (account sequence : ℕ) → Balanced rules s orders funding paid
    → (read_log rules s account sequence).number ≡ 16 → ⊥
unfolding read_log
log_never_16 {rules} {s} account sequence b =
    let P : Said → Type 0 = λ x. x.number ≡ 16 → ⊥ in
    rw b.state
    (need_case P (is_account account) _ _ (λ e. omega arith) (λ _.
    need_case P (is_sequence sequence) _ _ (λ e. omega arith) (λ _.
    cond_case P (is_redeemed rules s account sequence) _ _ (λ _ e. omega arith) (λ _ e. omega arith))))

-- 65,535 funding orders fit: below that number each one that is asked for in range is given, and 17 follows
pub fund_fits : {s : List ℕ} {orders funding paid : ℕ} (out : List ℕ) (account amount : ℕ) → Balanced base s orders funding paid
    → is_account account ≡ true → is_amount amount ≡ true → orders < 65_535 → 16 ≤ length out → (fund base s out account amount).answer ≡ funded (orders + 1)
unfolding fund
fund_fits out account amount b a v few room = rw (b.state, a, v, b.index, lt-ltb _ _ few, le-leb _ _ room, pot_has_room amount b v)

pub fund_exhausted : {s : List ℕ} {orders funding paid : ℕ} (out : List ℕ) (account amount : ℕ) → Balanced base s orders funding paid
    → is_account account ≡ true → is_amount amount ≡ true → orders ≡ 65_535 → fund base s out account amount ≡ unfunded 17 s out
unfolding fund
fund_exhausted {s} out account amount b a v all = rw (b.state, a, v, b.index, all)

-- so many, one after another where the books are balanced, are all given
all_given : (s : List ℕ) (orders funding paid : ℕ) (calls : List Call) → Balanced base s orders funding paid → are_fundings calls ≡ true
    → orders + length calls ≤ 65_535 → total order_given base s calls ≡ length calls
unfolding total are_fundings
all_given s orders funding paid [] b each few = refl
all_given s orders funding paid (Call.funding out account amount ∷ calls) b each few =
    let call = Call.funding out account amount in
    let account-fits = both (is_account account) _ each in
    let amount_fits = both (is_amount amount) _ account-fits.1 in
    let room = both (leb 16 (length out)) _ amount_fits.1 in
    let given : order_given base s call ≡ 1
    = ap (λ (x : Said). unless_refused x.number 1) (fund_fits out account amount b account-fits.0 amount_fits.0 (omega arith) (leb-true _ _ room.0)) in
    omega (arith, all_given (after base s call) _ _ _ calls (call_balanced base base_lays s orders funding paid call b) room.1 (omega arith))
all_given s orders funding paid (Call.redeeming m verdicts ∷ calls) b each few = absurd (false≢true each)

-- so many, one after another on a fresh ledger, are all given
pub fundings_fit : (s : List ℕ) (f : ℕ) (calls : List Call) → (fresh base s f).answer.number ≡ 0 → are_fundings calls ≡ true → length calls ≤ 65_535
    → total order_given base (fresh base s f).state calls ≡ length calls
fundings_fit s f calls h each few = all_given (fresh base s f).state 0 0 0 calls (fresh_balanced s f h) each (omega arith)
