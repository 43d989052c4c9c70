-- Numbers and stretches in a list of bytes: what everything above cites. All numbers are big-endian.
-- A number takes 2 ^ k bytes, and k is its width: `one`, `two`, `four` or `eight` bytes.
use Rattle.std.specs.Prelude.{ℕ, zero, suc, ◌+◌, ◌*◌, ◌/◌, ◌%◌, ◌^◌, Bool, true, false, ◌&&◌, List, [], ◌∷◌, ◌++◌, get_or, take, drop, eqb}
use Rattle.std.proofs.lemmas.List.Edits.{sets}

abbrev pub one : ℕ
one = 0

abbrev pub two : ℕ
two = 1

abbrev pub four : ℕ
four = 2

abbrev pub eight : ℕ
eight = 3

-- how many numbers there are of width k: 256, 65536, 2 ^ 32, 2 ^ 64
abbrev pub span : ℕ → ℕ
span k = 256 ^ (2 ^ k)

-- the number in the 2 ^ k bytes from `at`: the higher half stands first
unfoldable pub number : ℕ → List ℕ → ℕ → ℕ
number zero s at = get_or s at 0
number (suc k) s at = number k s at * span k + number k s (at + 2 ^ k)

-- the 2 ^ k bytes of a number
unfoldable pub bytes : ℕ → ℕ → List ℕ
bytes zero v = v ∷ []
bytes (suc k) v = bytes k (v / span k) ++ bytes k (v % span k)

-- the n bytes from `at`
abbrev pub cut : List ℕ → ℕ → ℕ → List ℕ
cut s at n = take n (drop at s)

-- s with vs in the places from `at`; its length stays
unfoldable pub put : List ℕ → ℕ → List ℕ → List ℕ
put s at vs = sets s at vs

-- whether two lists of bytes are the same
unfoldable pub same : List ℕ → List ℕ → Bool
same [] [] = true
same [] (y ∷ ys) = false
same (x ∷ xs) [] = false
same (x ∷ xs) (y ∷ ys) = eqb x y && same xs ys

-- whether all bytes are zero
unfoldable pub all_zero : List ℕ → Bool
all_zero [] = true
all_zero (x ∷ xs) = eqb x 0 && all_zero xs
