-- Membership in lists, and sums.
use Rattle.std.specs.Prelude.{ℕ, zero, suc, ◌+◌, ◌≡◌, Bool, false, ◌||◌, cond, ◌⊎◌, List, [], ◌∷◌, eqb}

-- a stands in the list
abbrev pub In : {A : Type 0} → A → List A → Type 0
In a [] = ⊥
In a (c ∷ l) = (a ≡ c) ⊎ In a l

-- the same as a test, by a test whether two are the same
unfoldable pub is_in : {A : Type 0} → (A → A → Bool) → A → List A → Bool
is_in same a [] = false
is_in same a (c ∷ l) = same a c || is_in same a l

-- nothing stands twice in the list
abbrev pub Distinct : {A : Type 0} → List A → Type 0
Distinct [] = Unit {0}
Distinct (c ∷ l) = (In c l → ⊥) × Distinct l

-- a number where a test holds, and otherwise 0
abbrev pub only : Bool → ℕ → ℕ
only t a = cond t a 0

-- g added up over the list
abbrev pub sum_of : {A : Type 0} → (A → ℕ) → List A → ℕ
sum_of g [] = 0
sum_of g (c ∷ l) = g c + sum_of g l

-- g added up over 0 .. n - 1
abbrev pub up_to : (ℕ → ℕ) → ℕ → ℕ
up_to g zero = 0
up_to g (suc n) = up_to g n + g n

-- g, but a at k
abbrev pub instead : {A : Type 0} → ℕ → A → (ℕ → A) → ℕ → A
instead k a g = λ n. cond (eqb k n) a (g n)
