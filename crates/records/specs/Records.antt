-- 01, States: a record of 72 bytes, and how a call changes one.
use Rattle.std.specs.Prelude.{ℕ, ◌+◌, ◌-◌, ◌≤◌, Bool, true, false, ◌&&◌, ◌||◌, List, ◌++◌, length, replicate, ◌==◌, nat_le}
use Rattle.octets.specs.Octets.{one, two, eight, number, bytes, cut, all_zero}
use Rattle.wire.specs.Messages.{payment}
use Rattle.wire.specs.Readers.{is_body, held}
use Rattle.records.specs.Balances.{nought, highest, lift, lower}
use Rattle.records.specs.declared.record.Record.{Record}

-- in use: 0 or 1
abbrev pub bit : Bool → ℕ
bit true = 1
bit false = 0

-- the record in the 72 bytes from `at`: in use; pending length; next sequence (2); balance (8); 57 bytes of pending body
unfoldable pub record_at : List ℕ → ℕ → Record
record_at s at = record {
  used = (number one s at == 1);
  waiting = number one s (at + 1);
  next = record { 0 = number two s (at + 2) };
  balance = lift (number eight s (at + 4));
  pending = cut s (at + 12) 57;
}

-- the first twelve bytes of a record
unfoldable pub head_bytes : Bool → ℕ → ℕ → ℕ → List ℕ
head_bytes used waiting next balance =
    bytes one (bit used) ++ (bytes one waiting ++ (bytes two next ++ bytes eight (lower balance)))

-- the 72 bytes of a record; three zeros stand last
unfoldable pub record_bytes : Record → List ℕ
record_bytes r = head_bytes r.used r.waiting r.next.0 r.balance ++ (r.pending ++ replicate 3 0)

-- the pending body of the record at `at`; none is an empty one
abbrev pub pending_at : List ℕ → ℕ → List ℕ
pending_at s at = cut s (at + 12) (number one s (at + 1))

-- nothing, or a well-formed body whose sender is this account and whose sequence is the next
unfoldable pub is_pending : ℕ → ℕ → List ℕ → Bool
is_pending account next b =
    (length b == 0) || (is_body b && ((payment b).sender.0 == account && (payment b).sequence.0 == next))

-- the numbers of a record are in range
unfoldable pub in_range : ℕ → ℕ → ℕ → ℕ → Bool
in_range used waiting next balance = nat_le used 1 && (nat_le waiting 57 && (nat_le next 4_096 && nat_le balance highest))

-- the 72 bytes from `at` are a well-formed record of this account: its numbers in range, its pending body as it should be and
-- zero-filled at the end, three zeros; a record out of use is all zeros
unfoldable pub is_record : ℕ → List ℕ → ℕ → Bool
is_record account s at =
    in_range (number one s at) (number one s (at + 1)) (number two s (at + 2)) (lift (number eight s (at + 4)))
    && (is_pending account (number two s (at + 2)) (pending_at s at)
    && (all_zero (cut s (at + 12 + number one s (at + 1)) (60 - number one s (at + 1)))
    && (number one s at == 1 || all_zero (cut s at 72))))

-- a record's numbers fit their bytes
pub record Fits (r : Record) : Type 0 where
  pub waiting : r.waiting ≤ 57
  pub next : r.next.0 ≤ 4_096
  pub balance : r.balance ≤ highest

-- a record out of use
unfoldable pub fresh_record : Record
fresh_record = record { used = false; waiting = 0; next = record { 0 = 0 }; balance = nought; pending = replicate 57 0 }

-- with this body pending
unfoldable pub holding : Record → List ℕ → Record
holding r body = record { used = r.used; waiting = length body; next = r.next; balance = r.balance; pending = held 57 body }

-- after a payment that takes n off: the next sequence raised by one, the pending body cleared, in use
unfoldable pub paid : Record → ℕ → Record
paid r n = record { used = true; waiting = 0; next = record { 0 = r.next.0 + 1 }; balance = r.balance - n; pending = replicate 57 0 }

-- put in use and credited with n
unfoldable pub credited : Record → ℕ → Record
credited r n = record { used = true; waiting = r.waiting; next = r.next; balance = r.balance + n; pending = r.pending }
