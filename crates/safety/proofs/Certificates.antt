-- A good certificate with fair verdicts makes its body certain. Assumes nothing.
use Prim.Native.Nat.{ℕ, zero, suc, ◌+◌, ◌*◌, ◌≤◌, ◌<◌}
use mathlib.Core.Path.{◌≡◌, refl, sym, ap, ◌∙◌}
use mathlib.Core.Bool.{Bool, true, false, false≢true}
use mathlib.Core.List.{List, [], ◌∷◌}
use mathlib.Core.Logic.{inl, inr}
use native.Mathlib.Omega.{arith}
use native.Mathlib.Decide.{dec_lt}
use lib.ListN.{length, get_or}
use lib.Dec.{eqb, leb, ltb}
use borrow.Author.Tests.{eqb-true, leb-true, le-leb, ltb-true, lt-ltb, le-ltb}
use Rattle.model.specs.Lists.{In, Distinct, sum_of}
use Rattle.model.specs.Quorums as quorums
use Rattle.model.specs.Histories.{votes}
use Rattle.model.specs.Worlds as model
use Rattle.model.proofs.QuorumLaws.{signers_enough, enough_signers}
use Rattle.model.proofs.Safety.{good_certificate}
use Rattle.octets.specs.Tests.{need}
use Rattle.wire.specs.Fields.{laid}
use Rattle.wire.specs.Messages.{body_fields, certificate_fields, payment, is_payment, inside}
use Rattle.wire.specs.Refusals.{Said, refuses}
use Rattle.wire.specs.Votes as wire
use Rattle.wire.specs.Readers.{judged_by}
use Rattle.octets.proofs.TestLaws.{both}
use Rattle.roundtrip.specs.Voters.{rising_distinct, known_most}
use Rattle.invariants.specs.Outcomes.{Judged, judged}
use Rattle.safety.specs.Runs.{Moment}
use Rattle.safety.specs.Demand3.{FairVotes}
use Rattle.safety.proofs.Papers.{papers, world}

-- a committee as a header names it is one of the model: its last number, and machines of it are enough exactly where they weigh enough
pub record Seats (C : quorums.Committee) (c : wire.Committee) : Type 0 where
  pub last : c.last + 1 ≡ C.size
  pub weighs : (machines : List ℕ) → wire.known c.last machines ≡ true → c.quorum machines ≡ ltb (2 * quorums.total C) (3 * sum_of C.weight machines)

-- two tests that follow from one another come out alike
same_test : (a b c d : ℕ) → (a ≤ b → c < d) → (c < d → a ≤ b) → leb a b ≡ ltb c d
same_test a b c d to from = go (leb a b) refl
  where
    go : (t : Bool) → leb a b ≡ t → t ≡ ltb c d
    go true e = sym (lt-ltb c d (to (leb-true _ _ e)))
    go false e = sym (le-ltb c d (elim (dec_lt c d) [ yes l ↦ absurd (false≢true (sym e ∙ le-leb a b (from l))) | no n ↦ omega (arith, n) ]))

-- 2f + 1 of 3f + 1
pub counting_seats : (f : ℕ) → Seats (quorums.counting f) (wire.committee f)
unfolding quorums.counting
counting_seats f = record {
  last = refl;
  weighs = λ machines known. same_test (2 * f + 1) (length machines) _ _ (signers_enough f machines) (enough_signers f machines);
}

-- two headers that name the same committee judge alike
pub judged_alike : (C : quorums.Committee) (c d : wire.Committee) → Seats C c → Seats C d → (m verdicts : List ℕ)
    → judged_by c m verdicts ≡ judged_by d m verdicts
unfolding judged_by
judged_alike C c d a b m verdicts =
    let ks = wire.signers_in m in
    let last : c.last ≡ d.last = omega (arith, a.last, b.last) in
    ap (λ x. need (laid m certificate_fields) (refuses 1) x) (ap (λ x. need (laid (inside m) body_fields) (refuses 1) x)
    (ap (λ x. need (is_payment (payment (inside m))) (refuses 2) x) (ap (λ x. need (eqb (length verdicts) (wire.votes m)) (refuses 3) x)
    (votes_alike (wire.known c.last ks) (wire.known d.last ks) (wire.rising ks) (wire.good verdicts) (c.quorum ks) (d.quorum ks) _
    (ap (λ (n : ℕ). wire.known n ks) last) (λ known. a.weighs ks known ∙ sym (b.weighs ks (rw last at known)))))))
  where
    -- of the tests on votes the first comes out alike, and where it holds so does the last
    votes_alike : (s t u v p q : Bool) (rest : Said) → s ≡ t → (s ≡ true → p ≡ q)
        → need s (refuses 5) (need u (refuses 6) (need v (refuses 4) (need p (refuses 7) rest)))
        ≡ need t (refuses 5) (need u (refuses 6) (need v (refuses 4) (need q (refuses 7) rest)))
    votes_alike true t u v p q rest e h = rw (← e, h refl)
    votes_alike false t u v p q rest e h = rw (← e)

-- each machine counts once
pub signers_once : (c : wire.Committee) (m verdicts : List ℕ) → Judged c m verdicts → Distinct (wire.signers_in m)
signers_once c m verdicts j = rising_distinct (wire.signers_in m) j.in_order

-- what stands in a list stands at a place of it
place_of : (l : List ℕ) (k : ℕ) → In k l → (i : ℕ) × (i < length l) × (get_or l i 0 ≡ k)
place_of [] k i = absurd i
place_of (x ∷ l) k (inl e) = (0, omega arith, sym e)
place_of (x ∷ l) k (inr i) = let p = place_of l k i in (suc p.0, omega arith, p.2)

-- good verdicts are 1 at every place
good_at : (vs : List ℕ) (i : ℕ) → wire.good vs ≡ true → i < length vs → get_or vs i 0 ≡ 1
unfolding wire.good
good_at [] i g h = absurd (omega arith)
good_at (v ∷ vs) zero g h = eqb-true v 1 (both (eqb v 1) (wire.good vs) g).0
good_at (v ∷ vs) (suc i) g h = good_at vs i (both (eqb v 1) (wire.good vs) g).1 (omega arith)

-- a single good verdict is 1
pub one_good : (vs : List ℕ) → length vs ≡ 1 → wire.good vs ≡ true → vs ≡ 1 ∷ []
one_good [] n g = absurd (omega arith)
one_good (v ∷ []) n g = ap (λ x. x ∷ []) (good_at (v ∷ []) 0 g (omega arith))
one_good (v ∷ u ∷ vs) n g = absurd (omega arith)

-- the honest signers of a certificate that is judged good voted for its body
abbrev pub Vouched : (ℕ → Bool) → Moment → wire.Committee → List ℕ → List ℕ → Type 0
Vouched dishonest w c m verdicts = Judged c m verdicts → (k : ℕ) → In k (wire.signers_in m) → dishonest k ≡ false → In (inside m) (votes (w.did k))

-- so its body is certain, by weight
pub certified : (C : quorums.Committee) (c : wire.Committee) → Seats C c → (dishonest : ℕ → Bool) (w : Moment) (m verdicts : List ℕ)
    → (judged_by c m verdicts).number ≡ 0
    → Vouched dishonest w c m verdicts → model.Certain papers C dishonest (world w) (inside m)
certified C c seats dishonest w m verdicts good voted =
    let j = judged c m verdicts good in
    good_certificate papers C dishonest (world w) (inside m) (wire.signers_in m) (signers_once c m verdicts j)
    (λ k i. (omega (arith, known_most (wire.signers_in m) c.last k j.members i, seats.last), voted j k i))
    (ltb-true _ _ (sym (seats.weighs (wire.signers_in m) j.members) ∙ j.enough))

-- fair verdicts vouch, whichever header names the committee
pub fair_votes : (f : ℕ) (dishonest : ℕ → Bool) (w : Moment) (m verdicts : List ℕ) → FairVotes f dishonest w m verdicts → (c : wire.Committee)
    → Seats (quorums.counting f) c
    → Vouched dishonest w c m verdicts
unfolding quorums.counting
fair_votes f dishonest w m verdicts fair c seats j k i h =
    let p = place_of (wire.signers_in m) k i in
    let one = good_at verdicts p.0 j.verdicts_good (omega (arith, j.count)) in
    let member : k ≤ 3 * f = omega (arith, known_most (wire.signers_in m) c.last k j.members i, seats.last) in
    rw p.2 at (fair j.laid_down j.count p.0 (omega (arith, j.count)) one) (member, h)
