-- 01, States: the machine's state, a header and 64 records, under the rules in force.
use Rattle.std.specs.Prelude.{ℕ, ◌+◌, ◌*◌, ◌≤◌, Bool, true, ◌&&◌, List, [], ◌∷◌, ◌++◌, length, replicate, ◌==◌}
use Rattle.octets.specs.Octets.{one, number, bytes, cut, put, all_zero}
use Rattle.wire.specs.Numbers.{is_machine}
use Rattle.wire.specs.Votes.{Committee, committee}
use Rattle.states.specs.Headers.{faults_in}
use Rattle.records.specs.Records.{record_at, record_bytes, is_record, pending_at}
use Rattle.records.specs.declared.record.Record.{Record}

-- the rules in force on a machine
pub record Rules : Type 0 where
  -- where the records start, behind the header; what a well-formed header is; the committee that it names
  pub records : ℕ
  pub is_header : List ℕ → Bool
  pub committee : List ℕ → Committee
  -- the refusal that an order with this body meets beyond those of 01, or 0
  pub further : List ℕ → ℕ
  -- what the answer on a certificate carries, by the state and the machines that signed
  pub counted : List ℕ → List ℕ → List ℕ
  -- whether the header can note that one amount leaves the balances kept here and another comes to them, and the state where it did
  pub may_tally : List ℕ → ℕ → ℕ → Bool
  pub tallied : List ℕ → ℕ → ℕ → List ℕ
  -- whether an account is kept here; whether the credit of one that is not may be sent, and the state where it was, by account and amount
  pub keeps : ℕ → Bool
  pub may_send : List ℕ → Bool
  pub sent : List ℕ → ℕ → ℕ → List ℕ

-- f; own number; last funding index (2); four zeros
unfoldable pub is_base_header : List ℕ → Bool
is_base_header s = is_machine (faults_in s) (number one s 1) && all_zero (cut s 4 4)

-- how states are laid out: as 01 says
pub data Layout : Type 0 where
  plain : Layout

-- what an order may meet beyond the refusals of 01: nothing
pub data Refusals : Type 0 where
  none : Refusals

-- the refusal of an order with this body, or 0
abbrev pub further : Refusals → List ℕ → ℕ
further Refusals.none body = 0

-- the rules of a layout with these refusals. By 01's layout an answer carries the number of votes, the header notes nothing, and every account is
-- kept here
abbrev pub rules_of : Layout → Refusals → Rules
rules_of Layout.plain refusals = record {
  records = 8;
  is_header = is_base_header;
  committee = λ s. committee (faults_in s);
  further = further refusals;
  counted = λ s machines. length machines ∷ [];
  may_tally = λ s out into. true;
  tallied = λ s out into. s;
  keeps = λ account. true;
  may_send = λ s. true;
  sent = λ s account amount. s;
}

-- the rules of 01
abbrev pub base : Rules
base = rules_of Layout.plain Refusals.none

-- 4,616 bytes by the rules of 01
abbrev pub state_length : Rules → ℕ
state_length rules = rules.records + 4_608

-- length and header are as they should be
unfoldable pub is_state : Rules → List ℕ → Bool
is_state rules s = length s == state_length rules && rules.is_header s

-- where an account's record stands
abbrev pub place : Rules → ℕ → ℕ
place rules account = rules.records + 72 * account

-- an account's record
abbrev pub record_of : Rules → List ℕ → ℕ → Record
record_of rules s account = record_at s (place rules account)

-- whether it is well formed
abbrev pub is_formed : Rules → List ℕ → ℕ → Bool
is_formed rules s account = is_record account s (place rules account)

-- its pending body
abbrev pub pending_of : Rules → List ℕ → ℕ → List ℕ
pending_of rules s account = pending_at s (place rules account)

-- the state with another record for an account
abbrev pub with_record : Rules → List ℕ → ℕ → Record → List ℕ
with_record rules s account r = put s (place rules account) (record_bytes r)

-- a fresh machine state is f, its own number and zeros
unfoldable pub fresh_state : Rules → ℕ → ℕ → List ℕ
fresh_state rules f own = bytes one f ++ (bytes one own ++ replicate (rules.records + 4_606) 0)

-- a fresh state in a layout
abbrev pub fresh_in : Layout → ℕ → ℕ → List ℕ
fresh_in Layout.plain f own = fresh_state base f own

-- the committees that a layout has: f is 0..5
abbrev pub Has : Layout → ℕ → Type 0
Has Layout.plain f = f ≤ 5
