-- A lifted balance with its sign fits an i64. Assumes nothing.
use Rattle.std.proofs.Common.{ℕ, suc, ◌-◌, ◌^◌, ◌<◌, ◌≤◌, Bool, true, false, cond, ltb, pos, negsuc, arith, lit<, w64, SFits}
use Rattle.records.specs.Balances.{nought, highest, signed}

sized : (t : Bool) (a b : ℕ) → a < 2 ^ 63 → b < 2 ^ 63 → SFits w64 (cond t (negsuc (b - suc a)) (pos (a - b)))
sized true a b h k = record { sfits = omega arith }
sized false a b h k = record { sfits = omega arith }

pub signed_fits : (l : ℕ) → l ≤ highest → SFits w64 (signed l)
signed_fits l h = sized (ltb l nought) l nought (omega arith) (lit< tt)
