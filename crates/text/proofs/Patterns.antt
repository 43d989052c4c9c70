-- A byte string in a pattern: a word is the same where it has that length and those bytes. `patterns` is for the attribute of a function that matches a word. Assumes nothing.
use Prim.Native.Nat.{ℕ, suc}
use mathlib.Core.Path.{◌≡◌, refl, ap, ◌∙◌}
use mathlib.Core.Bool.{Bool, true, ◌&&◌}
use mathlib.Core.List.{List, [], ◌∷◌}
use native.Mathlib.Omega.{arith}
use lib.Dec.{eqb}
use lib.ListN.{length, get_or}
use Rattle.std.proofs.lemmas.Bool.Decides.{nat_tests}
use Rattle.octets.specs.Octets.{same}

-- whether the bytes of s from place k on begin with a name
abbrev pub begins : ℕ → List ℕ → List ℕ → Bool
begins k s [] = true
begins k s (x ∷ name) = eqb (get_or s k 0) x && begins (suc k) s name

behind : (k a : ℕ) (s name : List ℕ) → begins (suc k) (a ∷ s) name ≡ begins k s name
behind k a s [] = refl
behind k a s (x ∷ name) = ap (λ (b : Bool). eqb (get_or s k 0) x && b) (behind (suc k) a s name)

one_more : (m n : ℕ) (first : Bool) (rest : Bool) → first && (eqb m n && rest) ≡ eqb (suc m) (suc n) && (first && rest)
one_more m n first rest = grind (arith, nat_tests)

pub pattern : (s name : List ℕ) → same s name ≡ (eqb (length s) (length name) && begins 0 s name)
unfolding same
pattern [] [] = refl
pattern [] (x ∷ name) = grind (arith, nat_tests)
pattern (a ∷ s) [] = grind (arith, nat_tests)
pattern (a ∷ s) (x ∷ name) =
    rw (behind 0 a s name)
    (ap (λ (b : Bool). eqb a x && b) (pattern s name) ∙ one_more (length s) (length name) (eqb a x) (begins 0 s name))

pub ruleset patterns = (pattern, nat_tests)
