-- Five premises of demand 3 and the number 2f + 1 in *certain*: for each, what breaks a promise without it. Assumes nothing.
use Prim.Native.Nat.{ℕ, suc, ◌+◌, ◌*◌, ◌≤◌}
use mathlib.Core.Path.{◌≡◌, refl, sym, ap, ◌∙◌}
use mathlib.Core.Bool.{Bool, true, not, ◌&&◌}
use mathlib.Core.List.{List, [], ◌∷◌}
use mathlib.Core.Logic.{inl, inr}
use native.Mathlib.Omega.{arith}
use lib.ListN.{replicate}
use lib.Dec.{leb, lit≤}
use Rattle.model.specs.Lists.{In, is_in, sum_of}
use Rattle.model.specs.Quorums.{count}
use Rattle.model.specs.Histories.{votes}
use Rattle.model.proofs.SumLaws.{sum_in}
use Rattle.octets.specs.Octets.{same}
use Rattle.wire.specs.Messages.{payment, inside}
use Rattle.wire.specs.Refusals.{Said}
use Rattle.wire.specs.declared.kinds.Payment.{Payment}
use Rattle.safety.specs.Runs.{Call, Moment, answer, after}
use Rattle.safety.specs.Demand3.{to_ledger, amount_of, Run, Certain, Good, Safe}
use Rattle.evidence.specs.Example.{after_all, is_three, pays, e1, e2, body_of, order_of, certificate_of, good, all_good, beginning, reached}
use Rattle.evidence.proofs.Checking.{unlike, are_fair_votes, fair_votes, checked, begins, messages, machine_calls, ledger_calls}

-- another payment under E1's number: account 2 pays account 7 1,600
abbrev other : Payment
other = pays 2 0 7 1_600 0

-- account 2 pays ledger account 9
abbrev cash : Payment
cash = pays 2 1 9 1_500 0

-- the two bodies are different
different : body_of e1 ≡ body_of other → ⊥
unfolding messages
different = unlike (body_of e1) (body_of other) refl

-- a certain payment to the ledger is at most all funding
pub within : (dishonest : ℕ → Bool) (w : Moment) (b : List ℕ) → Safe 1 dishonest w → Certain 1 dishonest w b → to_ledger b ≤ sum_of amount_of w.given
within dishonest w b safe certain = omega (arith, safe.solvent, sum_in to_ledger safe.certains b (safe.all_certain b certain))

-- account 2 is funded with 2,000, and machines 0, 1 and 2 take the order
abbrev pub funding_calls : List Call
funding_calls = Call.fund (replicate 16 0) 2 2_000 ∷ Call.funding_order 0 e2 good ∷ Call.funding_order 1 e2 good ∷ Call.funding_order 2 e2 good ∷ []

abbrev funded : Moment
funded = reached funding_calls

-- machines 0 and 1 vote for a payment
abbrev both_vote : Moment → Payment → Moment
both_vote w p = after_all w (Call.order 0 (order_of p) good ∷ Call.order 1 (order_of p) good ∷ [])

-- "At most f do as they like": with f + 1 dishonest, machines 2 and 3, one vote each makes two payments certain under one number
abbrev from_two : ℕ → Bool
from_two k = leb 2 k

abbrev split : List Call
split =
    Call.fund (replicate 16 0) 2 2_000 ∷ Call.funding_order 0 e2 good ∷ Call.funding_order 1 e2 good
    ∷ Call.order 0 (order_of e1) good ∷ Call.order 1 (order_of other) good ∷ []

pub at_most_f : (count from_two 4 ≡ 2) × Run 1 from_two (reached split) × (Safe 1 from_two (reached split) → ⊥)
unfolding messages machine_calls ledger_calls
at_most_f = (
  refl,
  checked 1 from_two beginning split (begins from_two) refl,
  λ safe. different (safe.one_a_number (body_of e1) (body_of other) (lit≤ tt) (lit≤ tt) refl refl),
)

-- "reach 2f + 1": in the same run with machine 3 alone dishonest, two different bodies of one sender and sequence reach 2f
abbrev votes_for : Moment → List ℕ → ℕ
votes_for w b = count (λ k. not (is_three k) && is_in same b (votes (w.did k))) 4 + count is_three 4

pub reach_2f_plus_1 : Run 1 is_three (reached split) × (2 * 1 ≤ votes_for (reached split) (body_of e1)) × (2 * 1 ≤ votes_for (reached split) (body_of other))
    × (body_of e1 ≡ body_of other → ⊥) × (e1.sender.0 ≡ other.sender.0) × (e1.sequence.0 ≡ other.sequence.0)
unfolding messages machine_calls ledger_calls
reach_2f_plus_1 = (checked 1 is_three beginning split (begins is_three) refl, lit≤ tt, lit≤ tt, different, refl, refl)

-- "start fresh": two machines that start with 2,000 in account 2, which the ledger never gave, make 1,500 to the ledger certain
abbrev not_fresh : Moment
not_fresh = record {
  layouts = beginning.layouts;
  refusals = beginning.refusals;
  machines = funded.machines;
  did = beginning.did;
  ledger_layout = beginning.ledger_layout;
  ledger = beginning.ledger;
  given = [];
  paid = [];
}

pub start_fresh : Safe 1 is_three (both_vote not_fresh cash) → ⊥
unfolding messages machine_calls ledger_calls
start_fresh safe = let z : 1_500 ≤ 0 = within is_three (both_vote not_fresh cash) (body_of cash) safe (lit≤ tt) in omega arith

-- "and change only by their calls": two machines vote for one payment, are put back to their bytes from before, and vote for the other
abbrev put_back : Moment → Moment
put_back w = record {
  layouts = w.layouts;
  refusals = w.refusals;
  machines = funded.machines;
  did = w.did;
  ledger_layout = w.ledger_layout;
  ledger = w.ledger;
  given = w.given;
  paid = w.paid;
}

pub only_by_calls : Safe 1 is_three (both_vote (put_back (both_vote funded e1)) other) → ⊥
unfolding messages machine_calls ledger_calls
only_by_calls safe = different (safe.one_a_number (body_of e1) (body_of other) (lit≤ tt) (lit≤ tt) refl refl)

-- a good certificate to the ledger with fair verdicts that is not paid, though its body was not paid before
pub unpayable : (w : Moment) (m verdicts : List ℕ) (n : ℕ) → Good 1 is_three m verdicts → are_fair_votes 1 is_three w m verdicts ≡ true → (payment (inside m)).kind ≡ 1
    → (In (inside m) w.paid → ⊥) → (answer w (Call.redeem m verdicts)).number ≡ suc n → Safe 1 is_three w → ⊥
unpayable w m verdicts n good fair kind unpaid refused safe =
    let z : ◌≡◌ {A = ℕ} (suc n) 0 = sym refused ∙ ap (λ (s : Said). s.number) (safe.payable m verdicts good (fair_votes 1 is_three w m verdicts fair) kind unpaid) in
    omega arith

-- "A good verdict on an honest machine's vote": where it may be false, the ledger pays 1,500 that nobody voted for, and account 2's 2,000 is no longer paid
abbrev all_of_it : Payment
all_of_it = pays 2 1 9 2_000 0

pub true_votes : Safe 1 is_three (both_vote (after funded (Call.redeem (certificate_of cash 0 1 2) all_good)) all_of_it) → ⊥
unfolding messages machine_calls ledger_calls
true_votes =
    unpayable (both_vote (after funded (Call.redeem (certificate_of cash 0 1 2) all_good)) all_of_it) (certificate_of all_of_it 0 1 3) all_good 13 refl refl refl
    (elim [ inl e ↦ unlike (body_of all_of_it) (body_of cash) refl e | inr i ↦ i ]) refl

-- "or on a funding order": where it may be false, 1,500 to the ledger is certain without any funding
pub true_funding : Safe 1 is_three (both_vote (reached (Call.funding_order 0 e2 good ∷ Call.funding_order 1 e2 good ∷ [])) cash) → ⊥
unfolding messages machine_calls ledger_calls
true_funding safe =
    let z : 1_500 ≤ 0 = within is_three (both_vote (reached (Call.funding_order 0 e2 good ∷ Call.funding_order 1 e2 good ∷ [])) cash) (body_of cash) safe (lit≤ tt) in
    omega arith
