-- 01, Numbers and Messages: committees and the votes of a certificate.
use Rattle.std.specs.Prelude.{ℕ, zero, suc, ◌+◌, ◌-◌, ◌*◌, ◌/◌, Bool, true, ◌&&◌, List, [], ◌∷◌, ◌++◌, length, take, drop, leb, eqb}
use Rattle.octets.specs.Octets.{one, two, number}
use Rattle.wire.specs.Fields.{field}

-- who may vote: the last machine number, and which machines together are enough
pub record Committee : Type 0 where
  pub last : ℕ
  pub quorum : List ℕ → Bool

-- machines are numbered 0..3f; a quorum is 2f + 1 distinct machines
abbrev pub committee : ℕ → Committee
committee f = record { last = 3 * f; quorum = λ machines. leb (2 * f + 1) (length machines) }

-- the machine numbers of n votes, the first at `at` and each `step` bytes after the one before
unfoldable pub signers : List ℕ → ℕ → ℕ → ℕ → List ℕ
signers s at step zero = []
signers s at step (suc n) = number one s at ∷ signers s (at + step) step n

-- each is one of the committee's machines
unfoldable pub known : ℕ → List ℕ → Bool
known last [] = true
known last (k ∷ ks) = leb k last && known last ks

-- votes stand in strictly rising machine number: each is at least `least`, which is one above the number before
unfoldable pub rising_from : ℕ → List ℕ → Bool
rising_from least [] = true
rising_from least (k ∷ ks) = leb least k && rising_from (k + 1) ks

-- votes rise, and so none repeats
abbrev pub rising : List ℕ → Bool
rising ks = rising_from 0 ks

-- every verdict is 1
unfoldable pub good : List ℕ → Bool
good [] = true
good (v ∷ vs) = eqb v 1 && good vs

-- how many votes a certificate has: each takes 68 bytes behind the body's field
abbrev pub votes : List ℕ → ℕ
votes m = (length m - (number two m 1 + 3)) / 68

-- the machines that voted in a certificate
abbrev pub signers_in : List ℕ → List ℕ
signers_in m = signers m (number two m 1 + 6) 68 (votes m)

-- the machines that voted in a run of 65-byte votes
abbrev pub signers_of : List ℕ → List ℕ
signers_of run = signers run 0 65 (length run / 65)

-- a run of n votes of 65 bytes, each in its field 21
unfoldable pub vote_fields : ℕ → List ℕ → List ℕ
vote_fields zero run = []
vote_fields (suc n) run = field 0x21 (take 65 run) ++ vote_fields n (drop 65 run)

-- the bytes of a certificate: a body, and a run of votes
unfoldable pub certificate_bytes : List ℕ → List ℕ → List ℕ
certificate_bytes body run = field 0x20 body ++ vote_fields (length run / 65) run

-- the values of n fields 21, one after another
unfoldable pub vote_run : ℕ → List ℕ → List ℕ
vote_run zero fields = []
vote_run (suc n) fields = take 65 (drop 3 fields) ++ vote_run n (drop 68 fields)

-- the run of votes that a certificate holds
abbrev pub votes_in : List ℕ → List ℕ
votes_in m = vote_run (votes m) (drop (number two m 1 + 3) m)
