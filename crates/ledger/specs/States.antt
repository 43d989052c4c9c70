-- 01, States: the ledger's state, a header and 64 logs, under the rules in force.
use Rattle.std.specs.Prelude.{ℕ, ◌+◌, ◌*◌, ◌/◌, ◌%◌, ◌^◌, ◌≤◌, Bool, ◌&&◌, List, length, leb, eqb}
use Rattle.std.specs.Int.Bits.{bit_or}
use Rattle.octets.specs.Octets.{one, eight, number, bytes, cut, put, all_zero}
use Rattle.wire.specs.Numbers.{is_faults}
use Rattle.wire.specs.Votes.{Committee, committee}
use Rattle.states.specs.Headers.{faults_in, fresh_bytes}

-- the rules in force on the ledger: where the logs start, behind the header; what a well-formed header is; the committee that it names
pub record Rules : Type 0 where
  pub logs : ℕ
  pub is_header : List ℕ → Bool
  pub committee : List ℕ → Committee

-- the pot: what the ledger holds and may still pay out
abbrev pub pot : List ℕ → ℕ
pot s = number eight s 4

-- the state with another one
abbrev pub with_pot : List ℕ → ℕ → List ℕ
with_pot s amount = put s 4 (bytes eight amount)

-- the ledger's pot lies in 0..10^15
abbrev pub is_pot : ℕ → Bool
is_pot amount = leb amount 1_000_000_000_000_000

-- f; zero; last funding index (2); pot (8); four zeros
unfoldable pub is_base_header : List ℕ → Bool
is_base_header s = is_faults (faults_in s) && (eqb (number one s 1) 0 && (is_pot (pot s) && all_zero (cut s 12 4)))

-- how the ledger's states are laid out: as 01 says
pub data Layout : Type 0 where
  plain : Layout

-- the rules of a layout
abbrev pub rules_of : Layout → Rules
rules_of Layout.plain = record { logs = 16; is_header = is_base_header; committee = λ s. committee (faults_in s) }

-- the rules of 01
abbrev pub base : Rules
base = rules_of Layout.plain

-- 32,784 bytes by the rules of 01
abbrev pub state_length : Rules → ℕ
state_length rules = rules.logs + 32_768

-- length and header are as they should be
unfoldable pub is_state : Rules → List ℕ → Bool
is_state rules s = eqb (length s) (state_length rules) && rules.is_header s

-- where the byte with an account's sequence stands: byte sequence / 8 of its log of 512
abbrev pub place : Rules → ℕ → ℕ → ℕ
place rules account sequence = rules.logs + 512 * account + sequence / 8

-- the sequence is the bit of value 2^(sequence mod 8) in that byte
abbrev pub value : ℕ → ℕ
value sequence = 2 ^ (sequence % 8)

-- whether an account's sequence is in the log
unfoldable pub is_redeemed : Rules → List ℕ → ℕ → ℕ → Bool
is_redeemed rules s account sequence = eqb (number one s (place rules account sequence) / value sequence % 2) 1

-- the state with that bit set
unfoldable pub with_redeemed : Rules → List ℕ → ℕ → ℕ → List ℕ
with_redeemed rules s account sequence =
    put s (place rules account sequence) (bytes one (bit_or (number one s (place rules account sequence)) (value sequence)))

-- fresh: f and zeros
unfoldable pub fresh_state : Rules → ℕ → List ℕ
fresh_state rules f = fresh_bytes (state_length rules) f

-- a fresh state in a layout
abbrev pub fresh_in : Layout → ℕ → List ℕ
fresh_in Layout.plain f = fresh_state base f

-- the committees that a layout has: f is 0..5
abbrev pub Has : Layout → ℕ → Type 0
Has Layout.plain f = f ≤ 5
