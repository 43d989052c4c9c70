-- How far a balance can be from nought, by the history alone and whether or not all credits have been delivered. Assumes nothing.
use Prim.Native.Nat.{ℕ, ◌+◌, ◌*◌, ◌≤◌, ◌<◌}
use mathlib.Core.Path.{◌≡◌, refl, sym, ◌∙◌}
use mathlib.Core.Bool.{Bool, true, false, ◌&&◌}
use mathlib.Core.Logic.{inl, inr}
use mathlib.Core.List.{List, [], ◌∷◌, ◌++◌}
use native.Mathlib.Omega.{arith}
use lib.ListN.{length}
use lib.Dec.{eqb}
use Rattle.model.specs.Lists.{In, only, sum_of, up_to}
use Rattle.model.specs.Histories.{Payments, Event, debits, credits, fundings, out_of, into, is_of, fund_to, Lawful}
use Rattle.model.specs.Views.{Shown, Effect, events, Follows, Changed}
use Rattle.model.proofs.SumLaws.{only_le, length_sum, sum_sub, swap, one_is}
use Rattle.model.proofs.HistoryLaws.{credit_debit, credit_once}

-- a sum where each element counts for at most 10^9 times what it counts for in another
scaled_sum : {A : Type 0} (g k : A → ℕ) (l : List A) → ((a : A) → In a l → g a ≤ 1_000_000_000 * k a) → sum_of g l ≤ 1_000_000_000 * sum_of k l
scaled_sum g k [] h = omega arith
scaled_sum g k (a ∷ l) h = omega (arith, h a (inl refl), scaled_sum g k l (λ c i. h c (inr i)))

scaled : (t : Bool) (a : ℕ) → a ≤ 1_000_000_000 → only t a ≤ 1_000_000_000 * only t 1
scaled true a h = omega arith
scaled false a h = omega arith

module _ (K : Payments) (accounts lift : ℕ) where
  open K use {Body, sender, kind, recipient, amount, Order, account, value}

  -- amounts of what was confirmed and taken are at most 10^9, and senders are accounts
  pub record Moderate (h : List (Event Body Order)) : Type 0 where
    pub paid : (b : Body) → In b (debits h) → (amount b ≤ 1_000_000_000) × (sender b < accounts)
    pub funded : (o : Order) → In o (fundings h) → value o ≤ 1_000_000_000

  -- and so is the amount of an effect
  abbrev pub Modest : Effect Body Order → Type 0
  Modest Effect.nothing = Unit {0}
  Modest (Effect.new_vote b) = Unit {0}
  Modest (Effect.same_vote b) = Unit {0}
  Modest (Effect.settled b) = amount b ≤ 1_000_000_000
  Modest (Effect.debited b) = amount b ≤ 1_000_000_000
  Modest (Effect.delivered b) = Unit {0}
  Modest (Effect.took o) = value o ≤ 1_000_000_000
  Modest (Effect.noted o) = Unit {0}

  -- one more body confirmed
  confirmed_moderate : (b : Body) (h : List (Event Body Order)) → amount b ≤ 1_000_000_000 → sender b < accounts → Moderate h → (c : Body) → In c (b ∷ debits h)
      → (amount c ≤ 1_000_000_000) × (sender c < accounts)
  confirmed_moderate b h most in_range m c = elim [ inl e ↦ rw e (most, in_range) | inr i ↦ m.paid c i ]

  -- whatever a call did
  pub moderate_still : (given : List Order) (s t : Shown Body) (h : List (Event Body Order)) (e : Effect Body Order) → Changed K accounts lift given s t e
      → Modest e → Moderate h
      → Moderate (events e ++ h)
  moderate_still given s t h Effect.nothing v a m = m
  moderate_still given s t h (Effect.new_vote b) v a m = record { paid = m.paid; funded = m.funded }
  moderate_still given s t h (Effect.same_vote b) v a m = record { paid = m.paid; funded = m.funded }
  moderate_still given s t h (Effect.settled b) v a m = record { paid = confirmed_moderate b h a v.turned.sender_in m; funded = m.funded }
  moderate_still given s t h (Effect.debited b) v a m = record { paid = confirmed_moderate b h a v.turned.sender_in m; funded = m.funded }
  moderate_still given s t h (Effect.delivered b) v a m = record { paid = m.paid; funded = m.funded }
  moderate_still given s t h (Effect.took o) v a m = record { paid = m.paid; funded = λ p. elim [ inl e ↦ rw e a | inr i ↦ m.funded p i ] }
  moderate_still given s t h (Effect.noted o) v a m = m

  module _ (Certain : Body → Type 0) (given : List Order) (h : List (Event Body Order)) (s : Shown Body) (l : Lawful K Certain given h)
      (f : Follows K accounts lift given s h) (m : Moderate h) where
    -- a body credited was confirmed
    was_confirmed : (b : Body) → In b (credits h) → In b (debits h)
    was_confirmed = credit_debit K Certain given h l

    -- there are as many confirmed payments as the next sequences say
    confirmed_all : length (debits h) ≡ up_to (λ x. sum_of (is_of K x) (debits h)) accounts
    confirmed_all = sym (length_sum (debits h)) ∙ same (debits h) (λ b i. (m.paid b i).1) ∙ sym (swap (is_of K) accounts (debits h))
      where
        same : (r : List Body) → ((b : Body) → In b r → sender b < accounts) → sum_of (λ b. 1) r ≡ sum_of (λ b. up_to (λ x. is_of K x b) accounts) r
        same [] k = refl
        same (b ∷ r) k = omega (arith, one_is (sender b) 1 accounts (k b (inl refl)), same r (λ c i. k c (inr i)))

    -- no more credits than confirmed payments
    credits_fewer : length (credits h) ≤ length (debits h)
    credits_fewer =
        omega (arith, length_sum (credits h), length_sum (debits h), sum_sub (λ b. 1) (credits h) (debits h) (credit_once K Certain given h l) (λ b i p. was_confirmed b i))

    -- a balance is at least minus 10^9 times its own confirmed payments
    pub least : (x : ℕ) → x < accounts → lift ≤ s.balance x + 1_000_000_000 * s.next_of x
    least x k =
        omega (
          arith,
          f.money x k,
          f.turns.next_is x k,
          scaled_sum (out_of K x) (is_of K x) (debits h) (λ b i. scaled (eqb (sender b) x) (amount b) (m.paid b i).0),
        )

    -- and at most 10^9 times (funding orders taken + payments confirmed)
    pub most : (x : ℕ) → x < accounts → s.balance x ≤ lift + 1_000_000_000 * (length (fundings h) + up_to (λ y. sum_of (is_of K y) (debits h)) accounts)
    most x k =
        omega (
          arith,
          f.money x k,
          confirmed_all,
          credits_fewer,
          length_sum (fundings h),
          length_sum (credits h),
          scaled_sum (fund_to K x) (λ o. 1) (fundings h) (λ o i. omega (arith, only_le (eqb (account o) x) (value o), m.funded o i)),
          scaled_sum (into K x) (λ b. 1) (credits h)
              (λ b i. omega (arith, only_le (eqb (kind b) 0 && eqb (recipient b) x) (amount b), (m.paid b (was_confirmed b i)).0)),
        )
