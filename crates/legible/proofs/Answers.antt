-- The answers to an input, line by line, whatever bounds their number. Assumes nothing.
use Prim.Native.Nat.{ℕ, zero, suc, ◌≤◌}
use mathlib.Core.Path.{◌≡◌, refl, ap, ◌∙◌}
use mathlib.Core.Bool.{Bool, true, false}
use mathlib.Core.List.{List, [], ◌∷◌, ◌++◌}
use native.Mathlib.Omega.{arith}
use lib.ListN.{length, take}
use Rattle.text.specs.Ascii.{ascii}
use Rattle.text.specs.Words.{line_end, behind_line}
use Rattle.text.specs.Arrivals.{has_line}
use Rattle.lines.specs.Calls.{Reply}
use Rattle.lines.specs.Serving.{reply_of}
use Rattle.lines.specs.declared.serving.Role.{Role}
use Rattle.legible.specs.Pieces.{told, first, unended, answers, answers_to}
use Rattle.legible.proofs.Lines.{rest_shorter}

-- the reply to the first line
abbrev pub replied : Role → List ℕ → List ℕ → Reply
replied role s input = reply_of role s (take (line_end input) input)

-- any bound above the bytes gives the same
enough : (n m : ℕ) (role : Role) (s input : List ℕ) → length input ≤ n → length input ≤ m → answers n role s input ≡ answers m role s input
unfolding answers line_end
enough zero zero role s input h k = refl
enough zero (suc m) role s [] h k = refl
enough zero (suc m) role s (b ∷ bs) h k = absurd (omega (arith, h))
enough (suc n) zero role s [] h k = refl
enough (suc n) zero role s (b ∷ bs) h k = absurd (omega (arith, k))
enough (suc n) (suc m) role s input h k = go (has_line input) refl (λ p q. enough n m role (replied role s input).state (behind_line input) p q)
  where
    go : (t : Bool) → has_line input ≡ t
        → (length (behind_line input) ≤ n → length (behind_line input) ≤ m → answers n role (replied role s input).state (behind_line input) ≡ answers m role (replied role s input).state (behind_line input))
        → answers (suc n) role s input ≡ answers (suc m) role s input
    go false e more = rw e
    go true e more =
        let less = rest_shorter input [] e in
        rw e (ap (first ((replied role s input).text ++ ascii "\n")) (more (omega (arith, less, h)) (omega (arith, less, k))))

-- the first line is answered first
pub answers_line : (role : Role) (s input : List ℕ) → has_line input ≡ true
    → answers_to role s input ≡ first ((replied role s input).text ++ ascii "\n") (answers_to role (replied role s input).state (behind_line input))
unfolding answers
answers_line role s input e =
    let less = rest_shorter input [] e in
    enough (length input) (suc (length input)) role s input (omega arith) (omega arith)
    ∙ rw e (ap (first ((replied role s input).text ++ ascii "\n")) (enough (length input) (length (behind_line input)) role (replied role s input).state (behind_line input) (omega (arith, less)) (omega arith)))

-- what has no line feed is no line
pub answers_end : (role : Role) (s input : List ℕ) → has_line input ≡ false → answers_to role s input ≡ told (unended input) s
unfolding answers
answers_end role s input e = enough (length input) (suc (length input)) role s input (omega arith) (omega arith) ∙ rw e
