-- Laws of the lines of a text: the next one, and a text that is joined from lines. Assumes nothing.
use Prim.Native.Nat.{ℕ, zero, suc, ◌+◌, ◌-◌}
use mathlib.Core.Path.{◌≡◌, refl, sym, ap, ◌∙◌}
use mathlib.Core.Bool.{Bool, true, false, ◌&&◌}
use mathlib.Core.List.{List, [], ◌∷◌, ◌++◌}
use native.Mathlib.Omega.{arith}
use native.Mathlib.Nat.{suc_inj}
use lib.ListN.{length, get_or, drop, drop_of_length-le}
use lib.Seq.{take-append_seam}
use lib.Dec.{eqb}
use borrow.Author.Tests.{eqb-true}
use Rattle.octets.proofs.TestLaws.{both}
use Rattle.text.specs.Words.{line_end, behind_line, line_at}

-- a line but the first is counted from behind the first
pub line_next : (k : ℕ) (s : List ℕ) → (k ≡ 0 → ⊥) → line_at k s ≡ line_at (k - 1) (behind_line s)
unfolding line_at
line_next zero s h = absurd (h refl)
line_next (suc k) s h = let e : suc k - 1 ≡ k = omega arith in rw e

-- behind a line without an end there is nothing
pub nothing_behind : {end : ℕ} (s : List ℕ) → end ≡ line_end s → end ≡ length s → drop end s ≡ behind_line s
nothing_behind {end} s e whole =
    drop_of_length-le s {i = end} (omega (arith, whole)) ∙ sym (drop_of_length-le s {i = line_end s + 1} (omega (arith, e, whole)))

-- lines, with a line feed behind each
unfoldable pub joined : List (List ℕ) → List ℕ
joined [] = []
joined (line ∷ lines) = line ++ (10 ∷ joined lines)

-- none of them has a line feed inside
unfoldable pub are_lines : List (List ℕ) → Bool
are_lines [] = true
are_lines (line ∷ lines) = eqb (line_end line) (length line) && are_lines lines

-- a line ends at the line feed behind it
pub end_joined : (line rest : List ℕ) → line_end line ≡ length line → line_end (line ++ (10 ∷ rest)) ≡ length line
unfolding line_end
end_joined [] rest h = refl
end_joined (b ∷ bs) rest h = go (eqb b 10) refl (λ e. end_joined bs rest e)
  where
    go : (t : Bool) → eqb b 10 ≡ t → (line_end bs ≡ length bs → line_end (bs ++ (10 ∷ rest)) ≡ length bs) → line_end ((b ∷ bs) ++ (10 ∷ rest)) ≡ length (b ∷ bs)
    go true e more = absurd (let none : 0 ≡ suc (length bs) = rw e at h in omega (arith, none))
    go false e more = rw e (ap suc (more (suc_inj (rw e at h))))

-- and the rest stands behind it
behind_joined : (line rest : List ℕ) → line_end line ≡ length line → behind_line (line ++ (10 ∷ rest)) ≡ rest
behind_joined line rest h = rw (end_joined line rest h) (past line)
  where
    past : (l : List ℕ) → drop (length l + 1) (l ++ (10 ∷ rest)) ≡ rest
    past [] = refl
    past (b ∷ bs) = let e : length (b ∷ bs) + 1 ≡ suc (length bs + 1) = omega arith in rw e (past bs)

-- a text without a byte has empty lines alone
line_none : (k : ℕ) → line_at k [] ≡ []
unfolding line_at line_end
line_none zero = refl
line_none (suc k) = line_none k

-- the lines of a text that is joined from lines are those lines
pub line_joined : (lines : List (List ℕ)) (k : ℕ) → are_lines lines ≡ true → line_at k (joined lines) ≡ get_or lines k []
unfolding line_at joined are_lines
line_joined [] k h = line_none k
line_joined (line ∷ lines) zero h =
    let ends = eqb-true _ _ (both _ _ h).0 in
    rw (end_joined line (joined lines) ends) (take-append_seam line (10 ∷ joined lines))
line_joined (line ∷ lines) (suc k) h =
    let t = both _ _ h in
    rw (behind_joined line (joined lines) (eqb-true _ _ t.0)) (line_joined lines k t.1)
