-- How long numbers and bytes are as they are printed. Assumes nothing.
use Prim.Native.Nat.{ℕ, zero, suc, ◌*◌, ◌/◌, ◌%◌, ◌^◌, ◌<◌, ◌≤◌}
use mathlib.Core.Path.{◌≡◌, refl, sym, subst}
use mathlib.Core.Bool.{Bool, true, false}
use mathlib.Core.List.{List, [], ◌∷◌, ◌++◌}
use native.Mathlib.Omega.{arith}
use native.Mathlib.Nat.{pow-suc}
use lib.Dec.{ltb}
use lib.ListN.{length, length-append}
use borrow.Author.Tests.{ltb-true, ltb-false}
use Rattle.text.specs.Pages.{digit, decimal, hexadecimal}
use Rattle.text.proofs.PageLaws.{decimal_digit, decimal_more}

-- every byte is printed as two digits
pub length_hexadecimal : (bs : List ℕ) → length (hexadecimal bs) ≡ 2 * length bs
unfolding hexadecimal
length_hexadecimal [] = refl
length_hexadecimal (b ∷ bs) = omega (arith, length_hexadecimal bs)

-- what is printed of a number is one digit, or what is printed of a tenth of it and its last digit
pub decimal_case : (P : List ℕ → Type 0) (n : ℕ) → (n < 10 → P (digit n ∷ [])) → (10 ≤ n → P (decimal (n / 10) ++ (digit (n % 10) ∷ []))) → P (decimal n)
decimal_case P n one more = go (ltb n 10) refl
  where
    go : (t : Bool) → ltb n 10 ≡ t → P (decimal n)
    go true e = let low = ltb-true n 10 e in subst P (sym (decimal_digit n low)) (one low)
    go false e = let high = ltb-false n 10 e in subst P (sym (decimal_more n high)) (more high)

-- something is printed
pub decimal_some : (n : ℕ) → 0 < length (decimal n)
decimal_some n = decimal_case (λ (text : List ℕ). 0 < length text) n (λ _. omega arith) (λ _. simp length-append (omega arith))

-- a number below a power of ten has no more digits than that power has zeros
decimal_places : (k n : ℕ) → n < 10 ^ suc k → length (decimal n) ≤ suc k
decimal_places zero n h = decimal_case (λ (text : List ℕ). length text ≤ 1) n (λ _. omega arith) (λ high. absurd (omega arith))
decimal_places (suc k) n h =
    decimal_case (λ (text : List ℕ). length text ≤ suc (suc k)) n (λ _. omega arith)
    (λ high.
    let few : n / 10 < 10 ^ suc k = omega (arith, pow-suc 10 (suc k)) in
    simp length-append (omega (arith, decimal_places k (n / 10) few)))

-- a number of eight bytes has at most twenty
pub decimal_short : (n : ℕ) → n < 2 ^ 64 → length (decimal n) ≤ 20
decimal_short n h = decimal_places 19 n (omega arith)
