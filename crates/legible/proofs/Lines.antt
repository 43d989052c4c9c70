-- Lines in an input of two parts: the first line lies in the first part, or ends in the second. Assumes nothing.
use Prim.Native.Nat.{ℕ, suc, ◌+◌, ◌≤◌, ◌<◌}
use mathlib.Core.Path.{◌≡◌, refl, sym, ap}
use mathlib.Core.Bool.{Bool, true, false}
use mathlib.Core.List.{List, [], ◌∷◌, ◌++◌}
use native.Mathlib.Omega.{arith}
use native.Mathlib.Nat.{suc-add, zero-add}
use lib.Dec.{ltb, eqb}
use lib.ListN.{length, take, length-append, length-drop}
use lib.Seq.{take-append-le, drop-append-le, take-append-add, drop-append-add}
use borrow.Author.Tests.{ltb-true, ltb-false, lt-ltb, le-ltb}
use Rattle.text.specs.Words.{line_end, behind_line}
use Rattle.text.specs.Arrivals.{has_line}

-- no line ends behind its text
end_within : (s : List ℕ) → line_end s ≤ length s
unfolding line_end
end_within [] = omega arith
end_within (b ∷ bs) = go (eqb b 10) refl (end_within bs)
  where
    go : (t : Bool) → eqb b 10 ≡ t → line_end bs ≤ length bs → line_end (b ∷ bs) ≤ length (b ∷ bs)
    go true e more = rw e (omega arith)
    go false e more = rw e (omega (arith, more))

-- the first line feed of the first part is that of both
end_before : (a b : List ℕ) → line_end a < length a → line_end (a ++ b) ≡ line_end a
unfolding line_end
end_before [] b h = absurd (omega (arith, h))
end_before (x ∷ xs) b h = go (eqb x 10) refl (λ k. end_before xs b k)
  where
    go : (t : Bool) → eqb x 10 ≡ t → (line_end xs < length xs → line_end (xs ++ b) ≡ line_end xs) → line_end ((x ∷ xs) ++ b) ≡ line_end (x ∷ xs)
    go true e more = rw e
    go false e more = let k : suc (line_end xs) < suc (length xs) = rw e at h in rw e (ap suc (more (omega (arith, k))))

-- without one, that of the second part is
end_behind : (a b : List ℕ) → length a ≤ line_end a → line_end (a ++ b) ≡ length a + line_end b
unfolding line_end
end_behind [] b h = sym (zero-add (line_end b))
end_behind (x ∷ xs) b h = go (eqb x 10) refl (λ k. end_behind xs b k)
  where
    go : (t : Bool) → eqb x 10 ≡ t → (length xs ≤ line_end xs → line_end (xs ++ b) ≡ length xs + line_end b) → line_end ((x ∷ xs) ++ b) ≡ length (x ∷ xs) + line_end b
    go true e more = let none : suc (length xs) ≤ 0 = rw e at h in absurd (omega (arith, none))
    go false e more =
        let k : suc (length xs) ≤ suc (line_end xs) = rw e at h in
        rw (e, suc-add) (ap suc (more (omega (arith, k))))

-- where the first part has a whole line, it is the first of both
module _ (a b : List ℕ) (has : has_line a ≡ true) where
  within : line_end a < length a
  within = ltb-true (line_end a) (length a) has

  pub line_before : take (line_end (a ++ b)) (a ++ b) ≡ take (line_end a) a
  line_before = rw (end_before a b within) (take-append-le (line_end a) a b (omega (arith, within)))

  pub rest_before : behind_line (a ++ b) ≡ behind_line a ++ b
  rest_before = rw (end_before a b within) (drop-append-le (line_end a + 1) a b (omega (arith, within)))

  pub has_before : has_line (a ++ b) ≡ true
  has_before = rw (end_before a b within) (lt-ltb (line_end a) (length (a ++ b)) (simp length-append (omega (arith, within))))

  -- and what is behind it is shorter
  pub rest_shorter : length (behind_line a) < length a
  rest_shorter = simp length-drop (omega (arith, within))

-- otherwise its bytes begin the first line
module _ (a b : List ℕ) (none : has_line a ≡ false) where
  over : length a ≤ line_end a
  over = ltb-false (line_end a) (length a) none

  pub line_behind : take (line_end (a ++ b)) (a ++ b) ≡ a ++ take (line_end b) b
  line_behind = rw (end_behind a b over) (take-append-add a b (line_end b))

  pub rest_behind : behind_line (a ++ b) ≡ behind_line b
  rest_behind =
      let e : length a + line_end b + 1 ≡ length a + (line_end b + 1) = omega arith in
      rw (end_behind a b over, e) (drop-append-add a b (line_end b + 1))

  pub has_behind : has_line (a ++ b) ≡ has_line b
  has_behind = rw (end_behind a b over, length-append) (go (has_line b) refl)
    where
      go : (t : Bool) → has_line b ≡ t → ltb (length a + line_end b) (length a + length b) ≡ t
      go true e = lt-ltb (length a + line_end b) (length a + length b) (omega (arith, ltb-true (line_end b) (length b) e))
      go false e = le-ltb (length a + line_end b) (length a + length b) (omega (arith, ltb-false (line_end b) (length b) e))
