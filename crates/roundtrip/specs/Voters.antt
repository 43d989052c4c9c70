-- Machine numbers that rise: no two are the same, and there are no more of them than machines. Assumes nothing.
use Rattle.std.specs.Prelude.{ℕ, ◌+◌, ◌≤◌, ◌≡◌, true, List, [], ◌∷◌, length, leb}
use Rattle.std.proofs.Common.{inl, inr, arith, leb-true}
use Rattle.model.specs.Lists.{In, Distinct}
use Rattle.wire.specs.Votes.{known, rising_from, rising}
use Rattle.octets.proofs.TestLaws.{both}

-- numbers that rise from `least` are at least that
rising_least : (ks : List ℕ) (least k : ℕ) → rising_from least ks ≡ true → In k ks → least ≤ k
unfolding rising_from
rising_least [] least k r i = absurd i
rising_least (x ∷ ks) least k r (inl e) = omega (arith, leb-true least x (both (leb least x) (rising_from (x + 1) ks) r).0)
rising_least (x ∷ ks) least k r (inr i) =
    let t : (leb least x ≡ true) × (rising_from (x + 1) ks ≡ true) = both (leb least x) (rising_from (x + 1) ks) r in
    omega (arith, leb-true least x t.0, rising_least ks (x + 1) k t.1 i)

-- numbers that rise from some number on are pairwise different
rising_from_distinct : (ks : List ℕ) (least : ℕ) → rising_from least ks ≡ true → Distinct ks
unfolding rising_from
rising_from_distinct [] least r = tt
rising_from_distinct (k ∷ ks) least r =
    let t : (leb least k ≡ true) × (rising_from (k + 1) ks ≡ true) = both (leb least k) (rising_from (k + 1) ks) r in
    ((λ i. omega (arith, rising_least ks (k + 1) k t.1 i)), rising_from_distinct ks (k + 1) t.1)

-- machine numbers that rise are pairwise different
pub rising_distinct : (ks : List ℕ) → rising ks ≡ true → Distinct ks
rising_distinct ks r = rising_from_distinct ks 0 r

-- there are at most as many rising numbers as there are numbers from `least` to `last`
rising_few : (ks : List ℕ) (least last : ℕ) → least ≤ last + 1 → rising_from least ks ≡ true → known last ks ≡ true → length ks + least ≤ last + 1
unfolding rising_from known
rising_few [] least last h r k = omega arith
rising_few (x ∷ ks) least last h r k =
    let t : (leb least x ≡ true) × (rising_from (x + 1) ks ≡ true) = both (leb least x) (rising_from (x + 1) ks) r in
    let u : (leb x last ≡ true) × (known last ks ≡ true) = both (leb x last) (known last ks) k in
    let low : least ≤ x = leb-true least x t.0 in
    let high : x ≤ last = leb-true x last u.0 in
    omega (arith, rising_few ks (x + 1) last (omega arith) t.1 u.1)

-- the votes of known machines in rising order are at most as many as the machines
pub voters_few : (ks : List ℕ) (last : ℕ) → rising ks ≡ true → known last ks ≡ true → length ks ≤ last + 1
voters_few ks last r k = omega (arith, rising_few ks 0 last (omega arith) r k)

-- each of the known machine numbers is at most the last
pub known_most : (ks : List ℕ) (last k : ℕ) → known last ks ≡ true → In k ks → k ≤ last
unfolding known
known_most [] last k a i = absurd i
known_most (x ∷ ks) last k a (inl e) = omega (arith, leb-true x last (both (leb x last) (known last ks) a).0)
known_most (x ∷ ks) last k a (inr i) = known_most ks last k (both (leb x last) (known last ks) a).1 i
