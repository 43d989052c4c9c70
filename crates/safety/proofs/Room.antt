-- Every balance of a machine can fall and rise by any amount: what the machine did bounds it. Assumes nothing.
use Prim.Native.Nat.{ℕ, zero, suc, ◌+◌, ◌*◌, ◌≤◌, ◌<◌}
use mathlib.Core.Path.{ap}
use mathlib.Core.List.{List}
use native.Mathlib.Omega.{arith}
use lib.ListN.{length, length-append}
use lib.Dec.{lit<}
use Rattle.model.specs.Lists.{sum_of, up_to}
use Rattle.model.specs.Quorums as quorums
use Rattle.model.specs.Histories.{debits, fundings, is_of, Lawful}
use Rattle.model.proofs.Limits.{least, most}
use Rattle.records.specs.Balances.{nought, highest}
use Rattle.records.specs.States.{Layout, Refusals, rules_of, record_of}
use Rattle.invariants.specs.Meaning.{HasRoom}
use Rattle.invariants.specs.Keeping.{formed_of}
use Rattle.invariants.specs.Layouts.{can_tally}
use Rattle.safety.proofs.Papers.{papers, History, shown}
use Rattle.safety.proofs.Followers.{Follower}

-- n numbers up to 4,096
few_each : (g : ℕ → ℕ) (n : ℕ) → ((x : ℕ) → x < n → g x ≤ 4_096) → up_to g n ≤ 4_096 * n
few_each g zero h = omega arith
few_each g (suc n) h = omega (arith, h n (omega arith), few_each g n (λ x k. h x (omega arith)))

-- the limits over plain numbers
below : (balance next : ℕ) → nought ≤ balance + 1_000_000_000 * next → next ≤ 4_096 → 1_000_000_000 ≤ balance
below balance next h n = omega arith

above : (balance orders confirmed : ℕ) → balance ≤ nought + 1_000_000_000 * (orders + confirmed) → orders ≤ 65_535 → confirmed ≤ 4_096 * 64
    → balance + 1_000_000_000 ≤ highest
above balance orders confirmed h o c = omega arith

-- a machine that follows what it did has room: the ledger gave at most 65,535 orders, so that no more were taken
module _ (l : Layout) (r : Refusals) (C : quorums.Committee) (Certain : List ℕ → Type 0) (given : List (List ℕ)) (s : List ℕ) (did : History)
    (lawful : Lawful papers Certain given did) (own : Follower l r C given s did) (few : length given ≤ 65_535) where
  orders : length (fundings did) ≤ 65_535
  orders =
      let t = own.follows.taken 0 (lit< tt) in
      omega (arith, own.index, t.number, ap length t.placed, length-append t.newer t.older)

  next_most : (x : ℕ) → x ≤ 63 → (record_of (rules_of l r) s x).next.0 ≤ 4_096
  next_most x k = (formed_of (rules_of l r) s x own.formed k).fits.next

  confirmed : up_to (λ y. sum_of (is_of papers y) (debits did)) 64 ≤ 4_096 * 64
  confirmed = few_each (λ y. sum_of (is_of papers y) (debits did)) 64 (λ x k. omega (arith, own.follows.turns.next_is x k, next_most x (omega arith)))

  pub follower_room : HasRoom (rules_of l r) s
  follower_room = record {
    formed = own.formed;
    least = λ x k _.
        below (record_of (rules_of l r) s x).balance (record_of (rules_of l r) s x).next.0
        (least papers 64 nought Certain given did (shown (rules_of l r) s) lawful own.follows own.moderate x (omega arith)) (next_most x k);
    most = λ x k _.
        above (record_of (rules_of l r) s x).balance (length (fundings did)) (up_to (λ y. sum_of (is_of papers y) (debits did)) 64)
        (most papers 64 nought Certain given did (shown (rules_of l r) s) lawful own.follows own.moderate x (omega arith)) orders confirmed;
    header = can_tally l r s;
  }
