-- What is read of an account's use. Assumes nothing.
use mathlib.Core.Path.{◌≡◌, refl}
use mathlib.Core.Bool.{Bool, true, false}
use lib.Dec.{eqb}
use Rattle.records.specs.Records.{bit}

-- what is read of an account's use is a bit, and the bit is 1 where the account is in use
pub used_bit : (used : Bool) → eqb (bit used) 1 ≡ used
used_bit true = refl
used_bit false = refl
