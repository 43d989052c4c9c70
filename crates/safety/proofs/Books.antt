-- What the ledger's bytes say of the orders it gave and the bodies it paid. Assumes nothing.
use Prim.Native.Nat.{ℕ, zero, suc, ◌≤◌, ◌<◌}
use mathlib.Core.Path.{◌≡◌, refl, sym, ap, ◌∙◌}
use mathlib.Core.Bool.{true, false, false≢true}
use mathlib.Core.List.{List, [], ◌∷◌}
use mathlib.Core.Logic.{inl, inr}
use native.Mathlib.Omega.{arith}
use native.Mathlib.Decide.{ℕ_discrete}
use native.Mathlib.Nat.{zero-div}
use lib.ListN.{length, get_or, take, replicate}
use lib.Dec.{eqb, lit≤}
use borrow.Author.Tests.{eqb-true, eqb-false}
use Rattle.model.specs.Lists.{In, sum_of}
use Rattle.octets.specs.Octets.{number, bytes}
use Rattle.wire.specs.Messages.{payment, inside, funding}
use Rattle.wire.specs.Readers.{judged_by}
use Rattle.wire.specs.declared.kinds.Funding.{Funding}
use Rattle.roundtrip.specs.Funding.{funding_given}
use Rattle.invariants.specs.Outcomes.{cond_case, passed}
use Rattle.ledger.specs.States.{Rules, base, place, value, is_redeemed, with_redeemed, fresh_state}
use Rattle.ledger.specs.Calls.{fund, redeem, next_funding}
use Rattle.bookkeeping.specs.Meaning.{Lays, Moved, Call, Balanced}
use Rattle.bookkeeping.specs.Outcomes.{MayPay, fund_comes, redeem_comes}
use Rattle.bookkeeping.specs.Keeping.{fresh_state_lem, fresh_index, fresh_pot}
use Rattle.bookkeeping.specs.Theorems.{fund_refused, redeem_refused, fund_others, redeem_logs, fund_read_back}
use Rattle.bookkeeping.proofs.Theorems.{redeem_others, redeem_stays}
use Rattle.bookkeeping.specs.Runs.{call_balanced}
use Rattle.bookkeeping.specs.Layouts.{moved_balanced}
use Rattle.safety.specs.Runs.{noted}
use Rattle.safety.specs.Demand3.{amount_of}
use Rattle.safety.proofs.Papers.{Numbered}

-- the amount of a body
abbrev pub amount_in : List ℕ → ℕ
amount_in b = (payment b).amount

-- the books: they balance by the orders given and the bodies paid, newest first, and the log has the paid bodies and nothing else
pub record Books (rules : Rules) (s : List ℕ) (given paid : List (List ℕ)) : Type 0 where
  pub balanced : Balanced rules s (length given) (sum_of amount_of given) (sum_of amount_in paid)
  pub numbered : Numbered given
  pub log_has : (b : List ℕ) → In b paid → is_redeemed rules s (payment b).sender.0 (payment b).sequence.0 ≡ true
  pub log_only : (x q : ℕ) → q ≤ 4_095 → is_redeemed rules s x q ≡ true → (b : List ℕ) × In b paid × ((payment b).sender.0 ≡ x) × ((payment b).sequence.0 ≡ q)
  pub ledgers : (b : List ℕ) → In b paid → ((payment b).sequence.0 ≤ 4_095) × ((payment b).kind ≡ 1)

-- behind the first byte zeros are read, as far as they go and further
zeros_read : (x n i : ℕ) → 0 < i → get_or (x ∷ replicate n 0) i 0 ≡ 0
zeros_read x n zero h = absurd (omega arith)
zeros_read x zero (suc i) h = refl
zeros_read x (suc n) (suc zero) h = refl
zeros_read x (suc n) (suc (suc i)) h = zeros_read 0 n (suc i) (omega arith)

-- so the log of a fresh ledger is empty
fresh_log : (f x q : ℕ) → is_redeemed base (fresh_state base f) x q ≡ false
unfolding is_redeemed fresh_state number bytes
fresh_log f x q = rw (zeros_read f 32_783 (place base x q) (omega arith), zero-div (value q))

-- a fresh ledger's books
pub fresh_books : (f : ℕ) → f ≤ 5 → Books base (fresh_state base f) [] []
fresh_books f h = record {
  balanced = record { state = fresh_state_lem f h; index = fresh_index f; few = lit≤ tt; pot = omega (arith, fresh_pot f); most = lit≤ tt };
  numbered = tt;
  log_has = λ b i. absurd i;
  log_only = λ x q _ e. absurd (false≢true (sym (fresh_log f x q) ∙ e));
  ledgers = λ b i. absurd i;
}

-- a body of this sender and sequence stands in the list
abbrev Found : List (List ℕ) → ℕ → ℕ → Type 0
Found l x q = (b : List ℕ) × In b l × ((payment b).sender.0 ≡ x) × ((payment b).sequence.0 ≡ q)

-- a call that pays passed these tests, and answers the amount
redeem_passed : (rules : Rules) (s m verdicts : List ℕ) → (redeem rules s m verdicts).answer.number ≡ 0
    → MayPay rules s (payment (inside m)) × (get_or (redeem rules s m verdicts).answer.values 1 0 ≡ (payment (inside m)).amount)
redeem_passed rules s m verdicts =
    redeem_comes (λ o. o.answer.number ≡ 0 → MayPay rules s (payment (inside m)) × (get_or o.answer.values 1 0 ≡ (payment (inside m)).amount)) rules s m verdicts
    (λ n h e. absurd (omega arith)) (λ v _. (v, refl))

module _ (rules : Rules) (lays : Lays rules) (s : List ℕ) (given paid : List (List ℕ)) (books : Books rules s given paid) where
  -- the books where an order was given
  given_books : (out : List ℕ) (account amount : ℕ)
      → (let o = fund rules s out account amount in o.answer.number ≡ 0 → Books rules o.state (take 16 o.out ∷ given) paid)
  given_books out account amount e =
      let o = fund rules s out account amount in
      let order : funding (take 16 o.out) ≡ next_funding s account amount = (funding_given _ (next_funding s account amount) (fund_read_back rules s out account amount e)).2 in
      let worth : amount_of (take 16 o.out) ≡ amount = ap (λ (x : Funding). x.amount) order in
      let index : (funding (take 16 o.out)).index.0 ≡ suc (length given) = ap (λ (x : Funding). x.index.0) order ∙ omega (arith, books.balanced.index) in
      let b = rw e at (call_balanced rules lays s _ _ _ (Call.funding out account amount) books.balanced) in
      record {
        balanced = record { state = b.state; index = omega arith; few = omega arith; pot = omega arith; most = omega arith };
        numbered = (index, books.numbered);
        log_has = λ b i. fund_others rules lays s out account amount _ _ ∙ books.log_has b i;
        log_only = λ x q h e. books.log_only x q h (sym (fund_others rules lays s out account amount x q) ∙ e);
        ledgers = books.ledgers;
      }

  -- after fund and after redeem
  pub fund_books : (out : List ℕ) (account amount : ℕ)
      → (let o = fund rules s out account amount in Books rules o.state (noted o.answer (take 16 o.out) given) paid)
  fund_books out account amount =
      let o = fund rules s out account amount in
      cond_case (λ l. Books rules o.state l paid) (eqb o.answer.number 0) _ _ (λ e. given_books out account amount (eqb-true _ _ e))
      (λ e. rw (fund_refused rules s out account amount (eqb-false _ _ e)).0 books)

  -- the books where a body was paid
  paid_books : (m verdicts : List ℕ) → (let o = redeem rules s m verdicts in o.answer.number ≡ 0 → Books rules o.state given (inside m ∷ paid))
  paid_books m verdicts e =
      let o = redeem rules s m verdicts in
      let may = redeem_passed rules s m verdicts e in
      let b = call_balanced rules lays s _ _ _ (Call.redeeming m verdicts) books.balanced in
      record {
        balanced = record { state = b.state; index = omega arith; few = omega arith; pot = omega (arith, may.1); most = omega arith };
        numbered = books.numbered;
        log_has = log_has;
        log_only = λ x q h e. log_only x q h e (ℕ_discrete (payment (inside m)).sender.0 x) (ℕ_discrete (payment (inside m)).sequence.0 q);
        ledgers = ledgers;
      }
    where
      -- the fields for the body paid, and for those before it
      log_has : (b : List ℕ) → In b (inside m ∷ paid)
          → is_redeemed rules (redeem rules s m verdicts).state (payment b).sender.0 (payment b).sequence.0 ≡ true
      log_has b (inl q) = rw q (redeem_logs rules lays s m verdicts e)
      log_has b (inr i) = redeem_stays rules lays s m verdicts _ _ (books.ledgers b i).0 (books.log_has b i)

      ledgers : (b : List ℕ) → In b (inside m ∷ paid) → ((payment b).sequence.0 ≤ 4_095) × ((payment b).kind ≡ 1)
      ledgers b (inl q) = let may = (redeem_passed rules s m verdicts e).0 in rw q (may.range.sequence, may.kind)
      ledgers b (inr i) = books.ledgers b i

      -- a log bit other than the one set was there before
      before : (x q : ℕ) → q ≤ 4_095 → is_redeemed rules (redeem rules s m verdicts).state x q ≡ true
          → ((payment (inside m)).sender.0 ≡ x → (payment (inside m)).sequence.0 ≡ q → ⊥) → Found (inside m ∷ paid) x q
      before x q h e apart = let found = books.log_only x q h (sym (redeem_others rules lays s m verdicts x q h apart) ∙ e) in (found.0, inr found.1, found.2, found.3)

      log_only : (x q : ℕ) → q ≤ 4_095 → is_redeemed rules (redeem rules s m verdicts).state x q ≡ true
          → Dec ((payment (inside m)).sender.0 ≡ x) → Dec ((payment (inside m)).sequence.0 ≡ q) → Found (inside m ∷ paid) x q
      log_only x q h e (yes a) (yes c) = (inside m, inl refl, a, c)
      log_only x q h e (yes a) (no c) = before x q h e (λ _. c)
      log_only x q h e (no a) c = before x q h e (λ t _. a t)

  pub redeem_books : (m verdicts : List ℕ) → (let o = redeem rules s m verdicts in Books rules o.state given (noted o.answer (inside m) paid))
  redeem_books m verdicts =
      let o = redeem rules s m verdicts in
      cond_case (λ l. Books rules o.state given l) (eqb o.answer.number 0) _ _ (λ e. paid_books m verdicts (eqb-true _ _ e))
      (λ e. rw (redeem_refused rules s m verdicts (eqb-false _ _ e)) books)

-- what a call on the ledger that pays found: the certificate is good and pays the ledger, and its body was not paid before
pub redeem_found : (rules : Rules) (s m verdicts : List ℕ) → (redeem rules s m verdicts).answer.number ≡ 0
    → ((judged_by (rules.committee s) m verdicts).number ≡ 0) × ((payment (inside m)).kind ≡ 1) × (is_redeemed rules s (payment (inside m)).sender.0 (payment (inside m)).sequence.0 ≡ false)
unfolding redeem
redeem_found rules s m verdicts e =
    let may = (redeem_passed rules s m verdicts e).0 in
    let n = (judged_by (rules.committee s) m verdicts).number in
    (passed (λ o. o.answer.number ≡ 0 → n ≡ 0) s n _ (λ k h e. absurd (omega arith)) (λ judged _. judged) (rw may.state at e), may.kind, may.unredeemed)

-- the committee stays
pub fund_seats : (rules : Rules) → Lays rules → (s out : List ℕ) (account amount : ℕ)
    → rules.committee (fund rules s out account amount).state ≡ rules.committee s
fund_seats rules lays s out account amount =
    fund_comes (λ o. rules.committee o.state ≡ rules.committee s) rules s out account amount (λ _ _. refl) (λ _. lays.pot_seats _ _ ∙ lays.index_seats s _)

pub redeem_seats : (rules : Rules) → Lays rules → (s m verdicts : List ℕ) → rules.committee (redeem rules s m verdicts).state ≡ rules.committee s
unfolding with_redeemed
redeem_seats rules lays s m verdicts =
    redeem_comes (λ o. rules.committee o.state ≡ rules.committee s) rules s m verdicts (λ _ _. refl)
    (λ _. lays.pot_seats _ _ ∙ lays.logs_seats s (place rules (payment (inside m)).sender.0 (payment (inside m)).sequence.0) _ (omega arith))

-- the books of a state that was moved
pub moved_books : (rules : Rules) (s : List ℕ) (rules' : Rules) (t : List ℕ) (given paid : List (List ℕ)) → Moved rules s rules' t → Books rules s given paid
    → Books rules' t given paid
moved_books rules s rules' t given paid m b = record {
  balanced = moved_balanced rules s rules' t _ _ _ m b.balanced;
  numbered = b.numbered;
  log_has = λ c i. m.logs _ _ ∙ b.log_has c i;
  log_only = λ x q h e. b.log_only x q h (sym (m.logs x q) ∙ e);
  ledgers = b.ledgers;
}
