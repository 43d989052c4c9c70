-- What each answer of 01 keeps out: for refusals 1 to 14 and *already* fair calls that it answers and that, done all the same, break a promise of demand 3.
-- (15 and 16 are never answered in a run; 17 and 18 are answers to fund.) Assumes nothing.
use Prim.Native.Nat.{ℕ, ◌+◌, ◌≤◌}
use mathlib.Core.Path.{◌≡◌, refl, sym, subst, ◌∙◌}
use mathlib.Core.Bool.{Bool, true, false, ◌&&◌, not, false≢true}
use mathlib.Core.List.{List, [], ◌∷◌, ◌++◌}
use mathlib.Core.Logic.{inl, inr}
use native.Mathlib.Omega.{arith}
use lib.ListN.{replicate}
use lib.Dec.{eqb, lit≤}
use borrow.Author.Tests.{eqb-true, eq-eqb, not-true}
use Rattle.model.specs.Lists.{In, is_in}
use Rattle.model.specs.Histories.{Event, votes}
use Rattle.model.specs.Quorums.{count}
use Rattle.model.proofs.SumLaws.{is_in_lem, sum_in, sum_zero}
use Rattle.octets.specs.Octets.{same}
use Rattle.octets.proofs.Laws.{same_is, is_same}
use Rattle.wire.specs.Messages.{funding_bytes}
use Rattle.wire.specs.Votes.{certificate_bytes}
use Rattle.wire.specs.Refusals.{Said, refuses}
use Rattle.wire.specs.declared.kinds.Payment.{Payment}
use Rattle.octets.proofs.TestLaws.{both}
use Rattle.records.specs.Answers.{already}
use Rattle.safety.specs.Runs.{Call, Moment, answer, after}
use Rattle.safety.specs.Demand3.{takes, brings, Safe}
use Rattle.evidence.specs.Example.{is_three, pays, payout, e1, e2, signature, body_of, order_of, certificate_of, good, all_good, beginning}
use Rattle.evidence.specs.Without.{anyway, Without, Step, after_steps, Guards}
use Rattle.evidence.proofs.Checking.{unlike, are_fair_votes, is_fair, fair_call, messages, machine_calls, ledger_calls}
use Rattle.evidence.proofs.Premises.{within, funding_calls, unpayable}

-- ---- such runs by computing

-- two answers are the same
abbrev is_same_answer : Said → Said → Bool
is_same_answer a b = eqb a.number b.number && same a.values b.values

-- each step is fair, and those that are done anyway are those that are answered so
abbrev are_without : Said → Moment → List Step → Bool
are_without said w [] = true
are_without said w (Step.made call ∷ steps) = is_fair 1 is_three w call && (not (is_same_answer (answer w call) said) && are_without said (after w call) steps)
are_without said w (Step.forced call ∷ steps) = is_fair 1 is_three w call && (is_same_answer (answer w call) said && are_without said (anyway w call) steps)

-- the test says whether they are equal
is_said : (a b : Said) → is_same_answer a b ≡ true → a ≡ b
is_said a b h =
    let t = both (eqb a.number b.number) (same a.values b.values) h in
    let n = eqb-true _ _ t.0 in
    let v = same_is a.values b.values t.1 in
    λ i. record { number = n i; values = v i }

said_is : (a b : Said) → is_same_answer a b ≡ false → a ≡ b → ⊥
said_is a b h e = false≢true (sym h ∙ rw (e, eq-eqb b.number b.number refl, is_same b.values))

-- steps that pass the test extend a run without the answer
checked : (said : Said) (w : Moment) (steps : List Step) → Without said is_three w → are_without said w steps ≡ true → Without said is_three (after_steps w steps)
checked said w [] run h = run
checked said w (Step.made call ∷ steps) run h =
    let t = both (is_fair 1 is_three w call) _ h in
    let c = fair_call 1 is_three w call t.0 in
    let u = both (not (is_same_answer (answer w call) said)) _ t.1 in
    checked said (after w call) steps (Without.changes_by_call run call c.0 c.1 (said_is _ _ (not-true _ u.0))) u.1
checked said w (Step.forced call ∷ steps) run h =
    let t = both (is_fair 1 is_three w call) _ h in
    let c = fair_call 1 is_three w call t.0 in
    let u = both (is_same_answer (answer w call) said) _ t.1 in
    checked said (anyway w call) steps (Without.leaves_out run call c.0 c.1 (is_said _ _ u.0)) u.1

-- so the answer guards where the steps pass the test and a promise is broken
guards : (said : Said) (steps : List Step) → are_without said beginning steps ≡ true → (Safe 1 is_three (after_steps beginning steps) → ⊥) → Guards said is_three steps
guards said steps h broken = record { few = lit≤ tt; run = checked said beginning steps Without.starts_fresh h; broken = broken }

-- ---- payments

-- two payments of account 2 to account 7 under one number
abbrev one : Payment
one = pays 2 0 7 500 0

abbrev two : Payment
two = pays 2 0 7 400 0

-- the two bodies are different
different : body_of one ≡ body_of two → ⊥
unfolding messages
different = unlike (body_of one) (body_of two) refl

-- account 2 pays ledger account 9, and more than it was funded with
abbrev cash : Payment
cash = pays 2 1 9 1_000 0

abbrev too_much : Payment
too_much = pays 2 1 9 3_000 0

-- calls, each made; and the funding that most runs begin with
abbrev all_made : List Call → List Step
all_made [] = []
all_made (call ∷ calls) = Step.made call ∷ all_made calls

abbrev funded : List Step
funded = all_made funding_calls

-- a machine is asked for its vote; a certificate comes to it, with the votes of 0, 1 and 3
abbrev votes_for_lem : ℕ → Payment → Call
votes_for_lem k p = Call.order k (order_of p) good

abbrev confirms : ℕ → Payment → Call
confirms k p = Call.certificate k (certificate_of p 0 1 3) all_good

-- ---- certificates that say less than they should: the ledger pays 1,000 that is not certain, and then not 2,000 that are, under the same number

abbrev all : Payment
all = pays 2 1 9 2_000 0

abbrev pays_for : List ℕ → List ℕ → List Step
pays_for m verdicts =
    funded ++ Step.made (votes_for_lem 0 cash) ∷ Step.forced (Call.redeem m verdicts) ∷ Step.made (votes_for_lem 1 all) ∷ Step.made (votes_for_lem 2 all) ∷ []

-- where only that was paid, and the good certificate for all of it is answered with 14
unpaid : (w : Moment) → are_fair_votes 1 is_three w (certificate_of all 1 2 3) all_good ≡ true → w.paid ≡ body_of cash ∷ []
    → (answer w (Call.redeem (certificate_of all 1 2 3) all_good)).number ≡ 14 → Safe 1 is_three w → ⊥
unfolding messages
unpaid w fair paid refused =
    unpayable w (certificate_of all 1 2 3) all_good 13 refl fair refl
    (λ i. elim (subst (λ (l : List (List ℕ)). In (body_of all) l) paid i) [ inl e ↦ unlike (body_of all) (body_of cash) refl e | inr j ↦ j ]) refused

-- 1: a byte behind the last vote, so that it is no certificate and its verdicts say nothing
pub refusal_1 : Guards (refuses 1) is_three (pays_for (certificate_of cash 0 1 2 ++ 0 ∷ []) all_good)
unfolding messages machine_calls ledger_calls
refusal_1 = guards _ _ refl (unpaid (after_steps beginning (pays_for (certificate_of cash 0 1 2 ++ 0 ∷ []) all_good)) refl refl refl)

-- 3: no verdicts
pub refusal_3 : Guards (refuses 3) is_three (pays_for (certificate_of cash 0 1 2) [])
unfolding messages machine_calls ledger_calls
refusal_3 = guards _ _ refl (unpaid (after_steps beginning (pays_for (certificate_of cash 0 1 2) [])) refl refl refl)

-- 4: bad verdicts on two votes
pub refusal_4 : Guards (refuses 4) is_three (pays_for (certificate_of cash 0 1 2) (1 ∷ 0 ∷ 0 ∷ []))
unfolding messages machine_calls ledger_calls
refusal_4 = guards _ _ refl (unpaid (after_steps beginning (pays_for (certificate_of cash 0 1 2) (1 ∷ 0 ∷ 0 ∷ []))) refl refl refl)

-- 5: votes of machines 4 and 5, which there are not
pub refusal_5 : Guards (refuses 5) is_three (pays_for (certificate_of cash 0 4 5) all_good)
unfolding messages machine_calls ledger_calls
refusal_5 = guards _ _ refl (unpaid (after_steps beginning (pays_for (certificate_of cash 0 4 5) all_good)) refl refl refl)

-- 6: machine 0's vote three times
pub refusal_6 : Guards (refuses 6) is_three (pays_for (certificate_of cash 0 0 0) all_good)
unfolding messages machine_calls ledger_calls
refusal_6 = guards _ _ refl (unpaid (after_steps beginning (pays_for (certificate_of cash 0 0 0) all_good)) refl refl refl)

-- 7: machine 0's vote alone
pub refusal_7 : Guards (refuses 7) is_three (pays_for (certificate_bytes (body_of cash) (0 ∷ signature)) good)
unfolding messages machine_calls ledger_calls
refusal_7 = guards _ _ refl (unpaid (after_steps beginning (pays_for (certificate_bytes (body_of cash) (0 ∷ signature)) good)) refl refl refl)

-- ---- orders

-- 8: two machines that know of no funding vote for 1,000
abbrev steps_8 : List Step
steps_8 = Step.forced (votes_for_lem 0 cash) ∷ Step.forced (votes_for_lem 1 cash) ∷ []

pub refusal_8 : Guards (refuses 8) is_three steps_8
unfolding messages machine_calls ledger_calls
refusal_8 = guards _ _ refl (λ safe. let z : 1_000 ≤ 0 = within is_three (after_steps beginning steps_8) (body_of cash) safe (lit≤ tt) in omega arith)

-- 9: machine 0 votes for a second body while the first is pending. Machines 0, 1 and 3 count for one, 0, 2 and 3 for the other
pub refusal_9 : Guards (refuses 9) is_three
    (funded ++ Step.made (votes_for_lem 0 one) ∷ Step.made (votes_for_lem 1 one) ∷ Step.made (votes_for_lem 2 two) ∷ Step.forced (votes_for_lem 0 two) ∷ [])
unfolding messages machine_calls ledger_calls
refusal_9 = guards _ _ refl (λ safe. different (safe.one_a_number (body_of one) (body_of two) (lit≤ tt) (lit≤ tt) refl refl))

-- 10 of an order: it votes under the number of a payment that is confirmed there
pub refusal_10 : Guards (refuses 10) is_three
    (funded ++ Step.made (votes_for_lem 0 one) ∷ Step.made (votes_for_lem 1 one) ∷ Step.made (confirms 0 one) ∷ Step.made (votes_for_lem 2 two)
    ∷ Step.forced (votes_for_lem 0 two) ∷ [])
unfolding messages machine_calls ledger_calls
refusal_10 = guards _ _ refl (λ safe. different (safe.one_a_number (body_of one) (body_of two) (lit≤ tt) (lit≤ tt) refl refl))

-- 11: two machines vote for 3,000 where 2,000 were funded
abbrev steps_11 : List Step
steps_11 = funded ++ Step.forced (votes_for_lem 0 too_much) ∷ Step.forced (votes_for_lem 1 too_much) ∷ []

pub refusal_11 : Guards (refuses 11) is_three steps_11
unfolding messages machine_calls ledger_calls
refusal_11 = guards _ _ refl (λ safe. let z : 3_000 ≤ 2_000 = within is_three (after_steps beginning steps_11) (body_of too_much) safe (lit≤ tt) in omega arith)

-- 12: two machines take the funding order twice
abbrev steps_12 : List Step
steps_12 =
    funded ++ Step.forced (Call.funding_order 0 e2 good) ∷ Step.forced (Call.funding_order 1 e2 good)
    ∷ Step.made (votes_for_lem 0 too_much) ∷ Step.made (votes_for_lem 1 too_much) ∷ []

pub refusal_12 : Guards (refuses 12) is_three steps_12
unfolding messages machine_calls ledger_calls
refusal_12 = guards _ _ refl (λ safe. let z : 3_000 ≤ 2_000 = within is_three (after_steps beginning steps_12) (body_of too_much) safe (lit≤ tt) in omega arith)

-- ---- redeeming

-- 13: a payment of 2,000 to account 7 is paid by the ledger, and then account 7's 2,000 to the ledger is answered with 15
abbrev moved : Payment
moved = pays 2 0 7 2_000 0

abbrev on : Payment
on = pays 7 1 9 2_000 0

abbrev steps_13 : List Step
steps_13 =
    funded ++ Step.made (votes_for_lem 0 moved) ∷ Step.made (votes_for_lem 1 moved) ∷ Step.made (confirms 0 moved) ∷ Step.made (confirms 1 moved)
    ∷ Step.forced (Call.redeem (certificate_of moved 0 1 3) all_good) ∷ Step.made (votes_for_lem 0 on) ∷ Step.made (votes_for_lem 1 on) ∷ []

pub refusal_13 : Guards (refuses 13) is_three steps_13
unfolding messages machine_calls ledger_calls
refusal_13 =
    guards _ _ refl (unpayable (after_steps beginning steps_13) (certificate_of on 0 1 3) all_good 14 refl refl refl (elim [ inl e ↦ unlike (body_of on) (body_of moved) refl e | inr i ↦ i ]) refl)

-- 14: a payment is paid twice
pub refusal_14 : Guards (refuses 14) is_three
    (funded ++ Step.made (votes_for_lem 0 cash) ∷ Step.made (votes_for_lem 1 cash) ∷ Step.made (Call.redeem (certificate_of cash 0 1 3) all_good)
    ∷ Step.forced (Call.redeem (certificate_of cash 0 1 3) all_good) ∷ [])
unfolding messages machine_calls ledger_calls
refusal_14 = guards _ _ refl (λ safe. safe.paid_once.0 (inl refl))

-- ---- certificates on a machine

-- *already*: two machines confirm and credit E1's 1,500 twice, and account 7 pays 3,000 to the ledger
abbrev steps_already : List Step
steps_already =
    funded ++ Step.made (votes_for_lem 0 e1) ∷ Step.made (votes_for_lem 1 e1) ∷ Step.made (confirms 0 e1) ∷ Step.made (confirms 1 e1)
    ∷ Step.forced (confirms 0 e1) ∷ Step.forced (confirms 1 e1)
    ∷ Step.made (votes_for_lem 0 (pays 7 1 9 3_000 0)) ∷ Step.made (votes_for_lem 1 (pays 7 1 9 3_000 0)) ∷ []

pub already_answered : Guards (already 3) is_three steps_already
unfolding messages machine_calls ledger_calls
already_answered = guards _ _ refl (λ safe. let z : 3_000 ≤ 2_000 = within is_three (after_steps beginning steps_already) (body_of (pays 7 1 9 3_000 0)) safe (lit≤ tt) in omega arith)

-- 10 of a certificate: one that comes ahead of its turn is confirmed, and then, in what is now its turn, once more. Account 2 pays account 7 1 and then 900
-- by the votes of 1, 2 and 3, account 3 the same by those of 0, 2 and 3; the second payment of each comes early and twice to the machine that did not vote.
-- There account 7 has 2,701, of 2,000 that were funded
abbrev from_2 : ℕ → ℕ → Payment
from_2 amount sequence = pays 2 0 7 amount sequence

abbrev from_3 : ℕ → ℕ → Payment
from_3 amount sequence = pays 3 0 7 amount sequence

abbrev order_of_lem : ℕ → ℕ → List ℕ
order_of_lem index account = funding_bytes (record { index = record { 0 = index }; account = record { 0 = account }; amount = 1_000 })

-- machine k takes both funding orders
abbrev takes_both : ℕ → List Step
takes_both k = Step.made (Call.funding_order k (order_of_lem 1 2) good) ∷ Step.made (Call.funding_order k (order_of_lem 2 3) good) ∷ []

-- machines k and 2 vote for a payment, and get its certificate with their votes and machine 3's
abbrev passes : ℕ → Payment → List Step
passes k p =
    Step.made (votes_for_lem k p) ∷ Step.made (votes_for_lem 2 p)
    ∷ Step.made (Call.certificate k (certificate_of p k 2 3) all_good) ∷ Step.made (Call.certificate 2 (certificate_of p k 2 3) all_good) ∷ []

-- and another machine gets it early, twice
abbrev early_twice : ℕ → ℕ → Payment → List Step
early_twice n k p = Step.forced (Call.certificate n (certificate_of p k 2 3) all_good) ∷ Step.made (Call.certificate n (certificate_of p k 2 3) all_good) ∷ []

abbrev steps_early : List Step
steps_early =
    (Step.made (Call.fund (replicate 16 0) 2 1_000) ∷ Step.made (Call.fund (replicate 16 0) 3 1_000) ∷ [])
    ++ takes_both 0 ++ takes_both 1 ++ takes_both 2
    ++ passes 1 (from_2 1 0) ++ passes 1 (from_2 900 1) ++ passes 0 (from_3 1 0) ++ passes 0 (from_3 900 1)
    ++ early_twice 0 1 (from_2 900 1) ++ early_twice 1 0 (from_3 900 1)
    ++ Step.made (votes_for_lem 0 (pays 7 1 9 2_701 0)) ∷ Step.made (votes_for_lem 1 (pays 7 1 9 2_701 0)) ∷ []

pub refusal_10_early : Guards (refuses 10) is_three steps_early
unfolding messages machine_calls ledger_calls
refusal_10_early = guards _ _ refl (λ safe. let z : 2_701 ≤ 2_000 = within is_three (after_steps beginning steps_early) (body_of (pays 7 1 9 2_701 0)) safe (lit≤ tt) in omega arith)

-- ---- values

-- 2: a payment of a kind that there is not. Account 7 is credited with it and pays it to the ledger, and has neither funding nor a certain payment to it
abbrev of_kind2 : Payment
of_kind2 = pays 2 2 7 1_500 0

abbrev steps_2 : List Step
steps_2 =
    funded ++ Step.forced (votes_for_lem 0 of_kind2) ∷ Step.forced (votes_for_lem 1 of_kind2) ∷ Step.forced (confirms 0 of_kind2) ∷ Step.forced (confirms 1 of_kind2)
    ∷ Step.made (votes_for_lem 0 payout) ∷ Step.made (votes_for_lem 1 payout) ∷ []

-- where machines 0 and 1 voted for these bodies and machine 2 for none, a payment that is certain is one of them
counted : (did : ℕ → List (Event (List ℕ) (List ℕ))) (b : List ℕ) (l : List (List ℕ)) → votes (did 0) ≡ l → votes (did 1) ≡ l → votes (did 2) ≡ []
    → 3 ≤ count (λ k. not (is_three k) && is_in same b (votes (did k))) 4 + count is_three 4 → In b l
unfolding is_in
counted did b l zeroth first second c = is_in_lem same same_is is_same b l (go (is_in same b l) refl)
  where
    go : (t : Bool) → is_in same b l ≡ t → t ≡ true
    go true e = refl
    go false e = let z : 3 ≤ 1 = rw (zeroth, first, second, e) at c in absurd (omega arith)

-- the payment of kind 2 and its payout bring account 7 nothing
nothing_brought : (b : List ℕ) → In b (body_of payout ∷ body_of of_kind2 ∷ []) → brings 7 b ≡ 0
unfolding messages
nothing_brought b (inl e) = rw e refl
nothing_brought b (inr (inl e)) = rw e refl
nothing_brought b (inr (inr i)) = absurd i

pub refusal_2 : Guards (refuses 2) is_three steps_2
unfolding messages machine_calls ledger_calls
refusal_2 =
    guards _ _ refl (λ safe.
    let none = sum_zero (brings 7) safe.certains (λ b i.
    nothing_brought b (counted (after_steps beginning steps_2).did b (body_of payout ∷ body_of of_kind2 ∷ []) refl refl refl (safe.only_certain b i))) in
    let some : 1_500 ≤ _ = sum_in (takes 7) safe.certains (body_of payout) (safe.all_certain (body_of payout) (lit≤ tt)) in
    let all : _ ≤ 0 + _ = safe.covered 7 in
    omega arith)
