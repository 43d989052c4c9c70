-- What a turn of a loop over votes or verdicts shows: the tally and the test go on with the rest of the list. Assumes nothing.
use Prim.Native.Nat.{ℕ, zero, suc, ◌+◌, ◌-◌, ◌*◌, ◌%◌, ◌^◌, ◌≤◌, ◌<◌}
use mathlib.Core.Bool.{Bool, true, false, ◌&&◌, and-true, and-false, and_assoc}
use mathlib.Core.Path.{◌≡◌, refl, sym, ap, ◌∙◌}
use mathlib.Core.List.{List, [], ◌∷◌}
use native.Mathlib.Nat.{zero-add, add_comm, one-mul, mul-suc, lt_of_lt_of_le, two-pow-succ}
use native.Mathlib.Numerals.{add-one}
use native.Mathlib.Omega.{arith}
use lib.ListN.{length, get_or, drop, drop_of_length-le}
use lib.Seq.{drop-cons}
use lib.Dec.{leb, eqb}
use Rattle.std.specs.Prelude.{Some, None}
use Rattle.std.specs.List.{list_all}
use lib.Pow.{pow_mono, shl_exact}
use lib.Bits.{bit_or, or_shifted_r}
use lib.Count.{ones, ones_cat}
use borrow.Author.Tests.{leb-true, le-leb, lt-leb, eq-eqb, ne_eqb}
use Rattle.octets.specs.Octets.{one, number}
use Rattle.wire.specs.Votes.{signers, known, rising, rising_from, good}
use Rattle.octets.specs.Tests.{need}
use Rattle.wire.specs.Refusals.{refuses}
use Rattle.votes.specs.Reach.{machines_of}
use Rattle.votes.specs.Tally.{Tallied, counted, AllSigned, enough, votes_judged, votes_given}
use Rattle.votes.specs.declared.Tally.{Tally}
use Rattle.votes.specs.declared.Votes.{Votes}

-- a machine above the last is unknown and has no bit
pub counted_unknown : {rises : Bool} (t : Tally) (k last : ℕ) → rises ≡ (t.rising && leb t.least k) → last < k
    → record { known = false; rising = rises; least = k + 1; mask = t.mask } ≡ counted t k last
unfolding counted
counted_unknown t k last e h = simp (e, lt-leb k last h, and-false)

-- a machine up to the last has its bit, which fits the mask
pub counted_known : {rises : Bool} (t : Tally) (k last : ℕ) → rises ≡ (t.rising && leb t.least k) → k ≤ last → last < 16
    → record { known = t.known; rising = rises; least = k + 1; mask = bit_or t.mask ((1 * 2 ^ k) % 65536) } ≡ counted t k last
unfolding counted
counted_known t k last e h l =
    let bit : (1 * 2 ^ k) % 65536 ≡ 2 ^ k = shl_exact {a = 1} 1 k 16 (omega arith) (omega arith) ∙ one-mul (2 ^ k) in
    simp (e, bit, le-leb k last h, and-true)

-- what holds of both tests holds of each
both_true : (a b : Bool) → (a && b) ≡ true → (a ≡ true) × (b ≡ true)
both_true true b e = (refl, e)
both_true false b e = (e, cc)

-- a bit above all bits of a mask is one bit more, and the highest
bit_more : (mask least k : ℕ) → mask < 2 ^ least → least ≤ k
    → (bit_or mask (2 ^ k) < 2 ^ (k + 1)) × (ones (bit_or mask (2 ^ k)) ≡ ones mask + 1)
unfolding ones
bit_more mask least k h le =
    let lt : mask < 2 ^ k = lt_of_lt_of_le h (pow_mono le) in
    let e : bit_or mask (2 ^ k) ≡ 2 ^ k + mask = simp one-mul at (or_shifted_r 1 k mask lt) in
    let pow : 2 ^ (k + 1) ≡ 2 ^ k + 2 ^ k = rw add-one (two-pow-succ k) in
    (omega (arith, e, pow), ap ones e ∙ (simp one-mul at (ones_cat k 1 mask lt)) ∙ add_comm (ones 1) (ones mask))

-- the tally t of those machines of `all` that were passed, where `rest` are left; its bits say who once the machines are known and rise
pub record Counting (last : ℕ) (all : List ℕ) (t : Tally) (rest : List ℕ) : Type 0 where
  pub known_so_far : known last all ≡ (t.known && known last rest)
  pub rising_so_far : rising all ≡ (t.rising && rising_from t.least rest)
  pub bits : t.known ≡ true → t.rising ≡ true → (t.mask < 2 ^ t.least) × (ones t.mask + length rest ≡ length all)

-- the tally of votes with each of which all is well
abbrev pub fine_tally : ℕ → ℕ → Tally
fine_tally least mask = record { known = true; rising = true; least = least; mask = mask }

-- before the first vote all are left
pub counting_none : (last : ℕ) (all : List ℕ) → Counting last all (fine_tally 0 0) all
unfolding ones
counting_none last all = record { known_so_far = refl; rising_so_far = refl; bits = λ _ _. (omega arith, zero-add _) }

-- one vote more is passed
pub counting_more : (last k : ℕ) (all rest : List ℕ) (t : Tally) → Counting last all t (k ∷ rest) → Counting last all (counted t k last) rest
unfolding counted known rising_from
counting_more last k all rest t p = record {
  known_so_far = p.known_so_far ∙ sym (and_assoc t.known (leb k last) (known last rest));
  rising_so_far = p.rising_so_far ∙ sym (and_assoc t.rising (leb t.least k) (rising_from (k + 1) rest));
  bits = λ a b.
      let knows = both_true t.known (leb k last) a in
      let rises = both_true t.rising (leb t.least k) b in
      let before = p.bits knows.0 rises.0 in
      let after = bit_more t.mask t.least k before.0 (leb-true _ _ rises.1) in
      rw knows.1 (after.0, omega arith);
}

-- when no vote is left the tally is that of all
pub counting_all : (last : ℕ) (all : List ℕ) (t : Tally) → Counting last all t [] → Tallied t last all
unfolding known rising_from
counting_all last all t p =
    let knows : t.known ≡ known last all = sym (p.known_so_far ∙ and-true _) in
    let rises : t.rising ≡ rising all = sym (p.rising_so_far ∙ and-true _) in
    record { all_known = knows; all_rising = rises; count = λ a b. omega (arith, p.bits (knows ∙ a) (rises ∙ b)) }

-- a tally is judged by the machine numbers that it counts
counted_need : (known rising ok : Bool) (f m n : ℕ) → (known ≡ true → rising ≡ true → m ≡ n)
    → need known (refuses 5) (need rising (refuses 6) (need ok (refuses 4) (enough f m)))
    ≡ need known (refuses 5) (need rising (refuses 6) (need ok (refuses 4) (enough f n)))
counted_need true true ok f m n e = rw (e refl refl)
counted_need true false ok f m n e = refl
counted_need false rising ok f m n e = refl

pub tally_given : (f : ℕ) (t : Tally) (ok : Bool) (ks : List ℕ) → Tallied t (3 * f) ks → votes_judged f t ok ≡ votes_given f ks ok
unfolding votes_judged votes_given
tally_given f t ok ks tallied =
    rw (tallied.all_known, tallied.all_rising) (counted_need (known (3 * f) ks) (rising ks) ok f (ones t.mask) (length ks) tallied.count)

-- a vote with which all is well
pub counting_fine : {last least mask k : ℕ} {all rest : List ℕ} → Counting last all (fine_tally least mask) (k ∷ rest) → k ≤ last → least ≤ k → last < 16
    → Counting last all (fine_tally (k + 1) (bit_or mask ((1 * 2 ^ k) % 65536))) rest
counting_fine {last} {least} {mask} {k} {all} {rest} p h r l =
    let e = rw (le-leb least k r) at (counted_known (fine_tally least mask) k last refl h l) in
    rw e (counting_more last k all rest (fine_tally least mask) p)

-- a pass over machines and verdicts ends at a vote with which it is not
module _ {last mask : ℕ} {all : List ℕ} (verdicts : List ℕ) where
  pub unknown_stops : {least k : ℕ} {rest : List ℕ} → Counting last all (fine_tally least mask) (k ∷ rest) → last < k → AllSigned None last all verdicts
  unfolding known
  unknown_stops {k = k} p h = rw (p.known_so_far, lt-leb k last h)

  pub falling_stops : {least k : ℕ} {rest : List ℕ} → Counting last all (fine_tally least mask) (k ∷ rest) → k < least → AllSigned None last all verdicts
  unfolding rising_from
  falling_stops {least} {k} p h = rw (p.rising_so_far, lt-leb least k h) (and-false (known last all))

  -- no vote is left, and all was well with each
  pub all_fine_lem : {least : ℕ} → Counting last all (fine_tally least mask) [] → good verdicts ≡ true → AllSigned (Some mask) last all verdicts
  unfolding known rising_from
  all_fine_lem p e = (simp (p.known_so_far, p.rising_so_far, e), omega (arith, p.bits refl refl))

pub verdict_stops : (last : ℕ) (all verdicts : List ℕ) → good verdicts ≡ false → AllSigned None last all verdicts
verdict_stops last all verdicts e = simp (e, and-false)

-- where all is well with each vote, their number decides
pub signed_given : (f mask : ℕ) (ks verdicts : List ℕ) → AllSigned (Some mask) (3 * f) ks verdicts → enough f (ones mask) ≡ votes_given f ks (good verdicts)
unfolding votes_given
signed_given f mask ks verdicts signed =
    let a = both_true (known (3 * f) ks) _ signed.0 in
    let b = both_true (rising ks) (good verdicts) a.1 in
    rw (a.0, b.0, b.1, signed.1)

-- the machine numbers of the first n votes behind the first i
abbrev pub left : Votes → ℕ → ℕ → List ℕ
left votes n i = signers votes.bytes.now (votes.place + votes.step * i) votes.step (n - i)

-- at first all are left
pub left_all : (votes : Votes) (n : ℕ) → left votes n 0 ≡ machines_of votes n
left_all votes n =
    let at : votes.place + votes.step * 0 ≡ votes.place = omega arith in
    let all : n - 0 ≡ n = omega arith in
    rw (at, all)

-- at a turn the next machine is left, and those after it
pub left_more : (votes : Votes) {n i : ℕ} → i < n → left votes n i ≡ number one votes.bytes.now (votes.place + votes.step * i) ∷ left votes n (i + 1)
unfolding signers
left_more votes {n} {i} h =
    let e : n - i ≡ suc (n - (i + 1)) = omega arith in
    let at : votes.place + votes.step * (i + 1) ≡ votes.place + votes.step * i + votes.step = omega arith in
    rw (e, at)

-- none is left after the last turn
pub left_none : (votes : Votes) {n i : ℕ} → n ≤ i → left votes n i ≡ []
unfolding signers
left_none votes {n} {i} h =
    let e : n - i ≡ zero = omega arith in
    rw e

-- a verdict of 1 leaves the rest to judge
pub good_more : (s : List ℕ) (i : ℕ) → i < length s → get_or s i 0 ≡ 1 → good (drop i s) ≡ good (drop (i + 1) s)
unfolding good
good_more s i h e = rw (add-one, drop-cons s i 0, eq-eqb _ _ e)

-- another verdict is the end
pub good_stop : (s : List ℕ) (i : ℕ) → i < length s → (get_or s i 0 ≡ 1 → ⊥) → good (drop i s) ≡ false
unfolding good
good_stop s i h e = rw (drop-cons s i 0, ne_eqb _ _ e)

-- no verdict is left to judge
pub good_end : (s : List ℕ) (i : ℕ) → length s ≤ i → good (drop i s) ≡ true
unfolding good
good_end s i h = rw (drop_of_length-le s h)

-- all verdicts pass the test
pub good_all : (s : List ℕ) → list_all (λ v. eqb v 1) s ≡ good s
unfolding good
good_all [] = refl
good_all (v ∷ vs) = ap (λ b. eqb v 1 && b) (good_all vs)

-- a step of what is left of n - i steps
pub steps_more : (step : ℕ) {i n : ℕ} → i < n → step * (n - i) ≡ step + step * (n - (i + 1))
steps_more step {i} {n} h =
    let e : n - i ≡ suc (n - (i + 1)) = omega arith in
    rw e (mul-suc step (n - (i + 1)) ∙ add_comm _ step)
