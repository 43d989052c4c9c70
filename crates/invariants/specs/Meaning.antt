-- What the laws of the machine speak of.
use Rattle.std.specs.Prelude.{ℕ, ◌+◌, ◌*◌, ◌≤◌, ◌<◌, zero, suc, ◌≡◌, true, List, length, get_or}
use Rattle.octets.specs.Octets.{cut, put}
use Rattle.states.specs.Headers.{with_index, last_index}
use Rattle.states.specs.Outcomes.{Outcome}
use Rattle.records.specs.States.{Rules, base, is_state, place, record_of, is_formed}
use Rattle.records.specs.Calls.{fresh, order, certificate, funding_order}
use Rattle.records.specs.Balances.{nought, highest}

-- a refusal leaves every byte
abbrev pub LeavesRefused : List ℕ → Outcome → Type 0
LeavesRefused s o = (o.answer.number ≡ 0 → ⊥) → o.state ≡ s

-- the byte at i lies in the record of an account
abbrev pub InRecord : Rules → ℕ → ℕ → Type 0
InRecord rules account i = (place rules account ≤ i) × (i < place rules account + 72)

-- a state whose length and header are right and whose 64 records are well formed
pub record WellFormed (rules : Rules) (s : List ℕ) : Type 0 where
  pub state : is_state rules s ≡ true
  pub records : (account : ℕ) → account ≤ 63 → is_formed rules s account ≡ true

-- a state that was moved: length and header are right by the other rules, and index and records are the same bytes
pub record Moved (rules : Rules) (s : List ℕ) (rules' : Rules) (t : List ℕ) : Type 0 where
  pub state : is_state rules' t ≡ true
  pub index : last_index t ≡ last_index s
  pub windows : (account : ℕ) → account ≤ 63 → cut t (place rules' account) 72 ≡ cut s (place rules account) 72

-- bytes were put into the header behind the index
pub record InHeader (rules : Rules) (s t : List ℕ) : Type 0 where
  pub at : ℕ
  pub bytes : List ℕ
  pub is_put : t ≡ put s at bytes
  pub behind_index : 4 ≤ at
  pub before_records : at + length bytes ≤ rules.records

-- rules whose header has the index in its bytes 2 and 3, and is judged neither by it nor by anything from the records on; nor is the committee
pub record Lays (rules : Rules) : Type 0 where
  pub room : 4 ≤ rules.records
  pub index_free : (s : List ℕ) (index : ℕ) → rules.is_header (with_index s index) ≡ rules.is_header s
  pub records_free : (s : List ℕ) (at : ℕ) (vs : List ℕ) → rules.records ≤ at → rules.is_header (put s at vs) ≡ rules.is_header s
  pub index_seats : (s : List ℕ) (index : ℕ) → rules.committee (with_index s index) ≡ rules.committee s
  pub records_seats : (s : List ℕ) (at : ℕ) (vs : List ℕ) → rules.records ≤ at → rules.committee (put s at vs) ≡ rules.committee s
  -- what the header notes of balances stands behind the index, and leaves the header well formed and the committee as it was
  pub tally_put : (s : List ℕ) (out into : ℕ) → InHeader rules s (rules.tallied s out into)
  pub tally_free : (s : List ℕ) (out into : ℕ) → rules.records ≤ length s → rules.may_tally s out into ≡ true → rules.is_header s ≡ true
      → rules.is_header (rules.tallied s out into) ≡ true
  pub tally_seats : (s : List ℕ) (out into : ℕ) → rules.committee (rules.tallied s out into) ≡ rules.committee s
  -- what is sent leaves index, records, length and committee; and whether it may be hangs neither on records nor on what the header notes
  pub sent_moves : (s : List ℕ) (account amount : ℕ) → is_state rules s ≡ true → rules.may_send s ≡ true → Moved rules s rules (rules.sent s account amount)
  pub sent_size : (s : List ℕ) (account amount : ℕ) → length (rules.sent s account amount) ≡ length s
  pub sent_seats : (s : List ℕ) (account amount : ℕ) → rules.committee (rules.sent s account amount) ≡ rules.committee s
  pub send_free : (s : List ℕ) (out into account : ℕ) (vs : List ℕ) → rules.may_send s ≡ true
      → rules.may_send (put (rules.tallied s out into) (place rules account) vs) ≡ true

-- the byte at i changes neither where the header notes something of balances nor where a credit is sent
pub record Unnoted (rules : Rules) (i : ℕ) : Type 0 where
  pub noting : (s : List ℕ) (out into : ℕ) → get_or (rules.tallied s out into) i 0 ≡ get_or s i 0
  pub sending : (s : List ℕ) (account amount : ℕ) → get_or (rules.sent s account amount) i 0 ≡ get_or s i 0

-- every account is kept here
abbrev pub KeepsAll : Rules → Type 0
KeepsAll rules = (account : ℕ) → rules.keeps account ≡ true

-- the header can note any amounts
abbrev pub CanTally : Rules → List ℕ → Type 0
CanTally rules s = (out into : ℕ) → out ≤ 1_000_000_000 → into ≤ 1_000_000_000 → rules.may_tally s out into ≡ true

-- the certificates confirmed for the first n accounts: each raised its sender's next sequence by one
unfoldable pub confirmed_by : Rules → List ℕ → ℕ → ℕ
confirmed_by rules s zero = 0
confirmed_by rules s (suc n) = confirmed_by rules s n + (record_of rules s n).next.0

-- a balance is at most 10^9 times (funding orders taken + certificates confirmed), and at least minus 10^9 times its own confirmed ones
pub record Limited (rules : Rules) (s : List ℕ) : Type 0 where
  pub formed : WellFormed rules s
  pub index : last_index s ≤ 65_535
  pub least : (account : ℕ) → account ≤ 63 → nought ≤ (record_of rules s account).balance + 1_000_000_000 * (record_of rules s account).next.0
  pub most : (account : ℕ) → account ≤ 63 → (record_of rules s account).balance ≤ nought + 1_000_000_000 * (last_index s + confirmed_by rules s 64)

-- what that leaves: each balance kept here can fall and rise by any amount, and the header can note it
pub record HasRoom (rules : Rules) (s : List ℕ) : Type 0 where
  pub formed : WellFormed rules s
  pub least : (account : ℕ) → account ≤ 63 → rules.keeps account ≡ true → 1_000_000_000 ≤ (record_of rules s account).balance
  pub most : (account : ℕ) → account ≤ 63 → rules.keeps account ≡ true → (record_of rules s account).balance + 1_000_000_000 ≤ highest
  pub header : CanTally rules s

-- a state that a machine comes to from a fresh one, by any calls with any messages and verdicts
pub data Reached : List ℕ → Type 0 where
  start : (s : List ℕ) (f own : ℕ) → (fresh base s f own).answer.number ≡ 0 → Reached (fresh base s f own).state
  ordered : {s : List ℕ} → Reached s → (m verdicts : List ℕ) → Reached (order base s m verdicts).state
  certified : {s : List ℕ} → Reached s → (m verdicts : List ℕ) → Reached (certificate base s m verdicts).state
  funded : {s : List ℕ} → Reached s → (m verdicts : List ℕ) → Reached (funding_order base s m verdicts).state
