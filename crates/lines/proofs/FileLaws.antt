-- The records of a state, one account after another. Assumes nothing.
use Prim.Native.Nat.{ℕ, zero, suc, ◌+◌}
use mathlib.Core.Path.{◌≡◌, refl, ◌∙◌}
use mathlib.Core.Bool.{Bool, true, false, ◌&&◌, and-true}
use mathlib.Core.List.{List}
use native.Mathlib.Omega.{arith}
use Rattle.std.specs.List.{list_all, range_with_len}
use Rattle.records.specs.States as records
use Rattle.lines.specs.Files.{are_records}

grouped : (a b c : Bool) → a && (b && c) ≡ (a && b) && c
grouped true b c = refl
grouped false b c = refl

-- those of the first accounts, and of n more
records_and : (s : List ℕ) (from n : ℕ) → are_records from s && list_all (records.is_formed records.base s) (range_with_len from n) ≡ are_records (from + n) s
unfolding are_records
records_and s from zero = let end : from + 0 ≡ from = omega arith in rw end (and-true _)
records_and s from (suc n) =
    let next : from + suc n ≡ suc from + n = omega arith in
    let one : from + 1 ≡ suc from = omega arith in
    rw (next, one)
    (grouped (are_records from s) (records.is_formed records.base s from) (list_all (records.is_formed records.base s) (range_with_len (suc from) n)) ∙ records_and s (suc from) n)

pub records_all : (s : List ℕ) (n : ℕ) → list_all (records.is_formed records.base s) (range_with_len 0 n) ≡ are_records n s
unfolding are_records
records_all s n = let all : 0 + n ≡ n = omega arith in rw all at (records_and s 0 n)
