-- Bytes that arrive in pieces, and what is to be done with them.
use Rattle.std.specs.Prelude.{ℕ, ◌+◌, ◌≡◌, Bool, true, false, cond, List, [], ◌++◌, length, take, drop, ltb}
use Rattle.octets.specs.Tests.{need}
use Rattle.text.specs.Words.{is_line, line_end}
use Rattle.text.specs.declared.arrivals.Held.{Held}
use Rattle.text.specs.declared.arrivals.Input.{Input}
use Rattle.text.specs.declared.arrivals.Next.{Next}

-- what has arrived and is not done with; where it `skips`, it goes on with a line that was refused as too long
pub record Arrived : Type 0 where
  pub bytes : List ℕ
  pub skips : Bool

-- the two together, as a contract states them
abbrev pub arrived : List ℕ → Bool → Arrived
arrived bytes skips = record { bytes = bytes; skips = skips }

-- as it stands at the front of a buffer
abbrev pub held_in : List ℕ → Held → Arrived
held_in buffer held = arrived (take held.filled buffer) held.skips

-- what an input has arrived of
abbrev pub waiting : Input → Arrived
waiting input = held_in input.buffer.now (record { filled = input.filled; skips = input.skips })

-- the same buffer, in which this is left
abbrev pub Leaves : Input → Input → Arrived → Type 0
Leaves before after left = (after.buffer.ghost_name ≡ before.buffer.ghost_name) × (waiting after ≡ left)

-- more has arrived, behind what had
abbrev pub Grows : Arrived → Arrived → Type 0
Grows a b = (piece : List ℕ) × (b ≡ arrived (a.bytes ++ piece) a.skips)

-- whether there is a whole line
abbrev pub has_line : List ℕ → Bool
has_line input = ltb (line_end input) (length input)

-- answer the lines, or wait for more; where there is more than a line may have, refuse it, and then pass over all up to the end of
-- that line
unfoldable pub next_of : Arrived → Next
next_of a =
    cond (has_line a.bytes) (cond a.skips Next.Skip Next.Answer)
    (cond a.skips Next.Drop
    (need (is_line a.bytes) Next.Refuse Next.Await))

-- what has arrived of a line is dropped, and the rest of it is to come
abbrev pub passing : Arrived
passing = arrived [] true

-- the first n bytes are done with
abbrev pub released : ℕ → Arrived → Arrived
released n a = arrived (drop n a.bytes) false

-- the end of the line that was passed over has arrived
abbrev pub skipped : Arrived → Arrived
skipped a = released (line_end a.bytes + 1) a
