-- 01, Numbers: a balance lies in -10^15..10^15. It is handled lifted by 10^15, so that every balance is a natural number.
use Rattle.std.specs.Prelude.{ℕ, ◌+◌, ◌-◌, ◌%◌, ◌^◌, ℤ}
use Rattle.std.proofs.Math.IntN.{sub_ℕ}

-- the balance 0, lifted
abbrev pub nought : ℕ
nought = 1_000_000_000_000_000

-- the highest balance, lifted; the lowest is 0
abbrev pub highest : ℕ
highest = 2_000_000_000_000_000

-- the number that eight bytes make, read as two's complement and lifted
abbrev pub lift : ℕ → ℕ
lift w = (w + nought) % 2 ^ 64

-- and back
abbrev pub lower : ℕ → ℕ
lower l = (l + (2 ^ 64 - nought)) % 2 ^ 64

-- a lifted balance as a number with its sign
abbrev pub signed : ℕ → ℤ
signed l = sub_ℕ l nought

-- free to spend: the balance, or 0 if it is negative
abbrev pub free : ℕ → ℕ
free l = l - nought
