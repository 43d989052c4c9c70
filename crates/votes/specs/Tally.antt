-- What the functions on votes answer: the tally of machine numbers, and the tests of 01 over it.
use Rattle.std.specs.Prelude.{ℕ, ◌+◌, ◌*◌, ◌^◌, ◌≡◌, Bool, true, false, ◌&&◌, cond, List, [], ◌∷◌, length, leb, Option, Some, None, Result}
use Rattle.std.specs.Int.Bits.{bit_or}
use Rattle.std.specs.Int.Count.{ones}
use Rattle.octets.specs.Tests.{need}
use Rattle.wire.specs.Votes.{known, rising, good}
use Rattle.wire.specs.Refusals.{Said, gives, refuses, said}
use Rattle.votes.specs.declared.Tally.{Tally}
use Rattle.wire.specs.declared.answers.Refusal.{Refusal}

-- the tally of votes, one more at a time: a known machine is a bit of the mask
unfoldable pub counted : Tally → ℕ → ℕ → Tally
counted t k last = record {
  known = t.known && leb k last;
  rising = t.rising && leb t.least k;
  least = k + 1;
  mask = cond (leb k last) (bit_or t.mask (2 ^ k)) t.mask;
}

-- what the tally of machine numbers says; the bits of its mask are as many as they are, once they are known and rise
pub record Tallied (t : Tally) (last : ℕ) (ks : List ℕ) : Type 0 where
  pub all_known : t.known ≡ known last ks
  pub all_rising : t.rising ≡ rising ks
  pub count : known last ks ≡ true → rising ks ≡ true → ones t.mask ≡ length ks

-- what one pass over machine numbers and verdicts says: who signed, as many bits as there are machines, where all is well with each vote
abbrev pub AllSigned : Option ℕ → ℕ → List ℕ → List ℕ → Type 0
AllSigned None last ks verdicts = (known last ks && (rising ks && good verdicts)) ≡ false
AllSigned (Some mask) last ks verdicts = ((known last ks && (rising ks && good verdicts)) ≡ true) × (ones mask ≡ length ks)

-- 7, or how many machines voted
abbrev pub enough : ℕ → ℕ → Said
enough f n = need (leb (2 * f + 1) n) (refuses 7) (gives (n ∷ []))

-- over all votes 5, then 6, then 4, then 7, of a tally
unfoldable pub votes_judged : ℕ → Tally → Bool → Said
votes_judged f t ok =
    need t.known (refuses 5)
    (need t.rising (refuses 6)
    (need ok (refuses 4)
    (enough f (ones t.mask))))

-- over all votes 5, then 6, then 4, then 7; otherwise how many machines voted
unfoldable pub votes_given : ℕ → List ℕ → Bool → Said
votes_given f ks ok =
    need (known (3 * f) ks) (refuses 5)
    (need (rising ks) (refuses 6)
    (need ok (refuses 4)
    (need (leb (2 * f + 1) (length ks)) (refuses 7)
    (gives (length ks ∷ [])))))

-- what is said of votes: the number of machines, or a refusal
abbrev pub votes_said : Result ℕ Refusal → Said
votes_said = said (λ (n : ℕ). n ∷ [])
