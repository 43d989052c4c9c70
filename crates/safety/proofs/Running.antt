-- The runs of the page: the start has what holds, and so has every moment. Assumes nothing.
use Prim.Native.Nat.{ℕ, ◌*◌, ◌≤◌, ◌<◌}
use mathlib.Core.Bool.{Bool}
use mathlib.Core.List.{[]}
use native.Mathlib.Omega.{arith}
use Rattle.model.specs.Quorums.{counting}
use Rattle.model.proofs.Moves.{sound_unbegun}
use Rattle.octets.specs.Octets.{number, bytes}
use Rattle.records.specs.States as machine
use Rattle.invariants.specs.Layouts as machine-layouts
use Rattle.invariants.specs.Theorems.{fresh_limits}
use Rattle.invariants.specs.Bounds.{fresh_index}
use Rattle.ledger.specs.States as ledger
use Rattle.bookkeeping.specs.Layouts as ledger-layouts
use Rattle.safety.specs.Runs.{Call, Moment}
use Rattle.safety.specs.Demand3.{OnHonest, Fair, Run}
use Rattle.safety.proofs.Papers.{papers}
use Rattle.safety.proofs.Certificates.{Seats, counting_seats, one_good, fair_votes}
use Rattle.safety.proofs.Showing.{fresh_follows}
use Rattle.safety.proofs.Books.{Books, fresh_books, moved_books}
use Rattle.safety.proofs.Followers.{Follower, moved_follower}
use Rattle.safety.proofs.Holding as holding

-- a fresh state names 3f + 1 machines
machine_seats : (l : machine.Layout) (r : machine.Refusals) (f k : ℕ) → machine.Has l f
    → Seats (counting f) ((machine.rules_of l r).committee (machine.fresh_in l f k))
unfolding machine.fresh_state number bytes
machine_seats machine.Layout.plain r f k has = counting_seats f

ledger_seats : (l : ledger.Layout) (f : ℕ) → ledger.Has l f → Seats (counting f) ((ledger.rules_of l).committee (ledger.fresh_in l f))
unfolding ledger.fresh_state number bytes
ledger_seats ledger.Layout.plain f has = counting_seats f

-- a fresh machine of 01 follows the empty history, and so does one in any layout
plain_follower : (f k : ℕ) → f ≤ 5 → k ≤ 3 * f → Follower machine.Layout.plain machine.Refusals.none (counting f) [] (machine.fresh_state machine.base f k) []
plain_follower f k h l = record {
  follows = fresh_follows [] f k;
  index = fresh_index f k;
  formed = (fresh_limits f k h l).formed;
  seats = machine_seats machine.Layout.plain machine.Refusals.none f k h;
  moderate = record { paid = λ b i. absurd i; funded = λ o i. absurd i };
}

fresh_follower : (l : machine.Layout) (f k : ℕ) → f ≤ 5 → machine.Has l f → k ≤ 3 * f
    → Follower l machine.Refusals.none (counting f) [] (machine.fresh_in l f k) []
fresh_follower l f k h has own =
    let none = machine.Refusals.none in
    moved_follower machine.Layout.plain none (counting f) [] (machine.fresh_state machine.base f k) [] l none (machine.fresh_in l f k)
    (machine-layouts.fresh_moved l none f k has own) (machine_seats l none f k has) (plain_follower f k h own)

-- and the books of a fresh ledger in any layout are empty
fresh_ledger : (l : ledger.Layout) (f : ℕ) → f ≤ 5 → ledger.Has l f → Books (ledger.rules_of l) (ledger.fresh_in l f) [] []
fresh_ledger l f h has =
    moved_books ledger.base (ledger.fresh_state ledger.base f) (ledger.rules_of l) (ledger.fresh_in l f) [] []
    (ledger-layouts.fresh_moved l f has) (fresh_books f h)

module _ (f : ℕ) (dishonest : ℕ → Bool) where
  -- what holds where 2f + 1 of 3f + 1 are a quorum
  abbrev pub Holds : Moment → Type 0
  Holds w = holding.Holds (counting f) dishonest w

  -- one of the 3f + 1 machines
  pub member : (k : ℕ) → k ≤ 3 * f → k < (counting f).size
  unfolding counting
  member k h = omega arith

  members : (k : ℕ) → k < (counting f).size → k ≤ 3 * f
  unfolding counting
  members k h = omega arith

  -- a fair call on an honest machine or on the ledger is admitted
  admitted : (w : Moment) (call : Call) → OnHonest f dishonest call → Fair f dishonest w call → holding.Admitted (counting f) dishonest w call
  admitted w (Call.order k m verdicts) honest fair = (member k honest.0, honest.1)
  admitted w (Call.certificate k m verdicts) honest fair = ((member k honest.0, honest.1), fair_votes f dishonest w m verdicts fair)
  admitted w (Call.funding_order k m verdicts) honest fair = ((member k honest.0, honest.1), λ l n g. fair l (one_good verdicts n g))
  admitted w (Call.fund out account amount) honest fair = tt
  admitted w (Call.redeem m verdicts) honest fair = fair_votes f dishonest w m verdicts fair

  pub run_holds : f ≤ 5 → (w : Moment) → Run f dishonest w → Holds w
  run_holds h w (Run.starts_fresh layouts ledger_layout has ledger-has) = record {
    sound = sound_unbegun papers (counting f) dishonest;
    machines = λ k l honest. fresh_follower (layouts k) f k h (has k (members k l, honest)) (members k l);
    books = fresh_ledger ledger_layout f h ledger-has;
    seats = ledger_seats ledger_layout f ledger-has;
  }
  run_holds h w (Run.changes_by_call {w = v} run call honest fair) =
      holding.holds_call (counting f) dishonest v (run_holds h v run) call (admitted v call honest fair)
