-- What writing to a part of a list leaves, and the bytes that a part holds. Assumes nothing.
use Prim.Native.Nat.{ℕ, zero, suc, ◌+◌, ◌-◌, ◌<◌, ◌≤◌}
use mathlib.Core.Path.{◌≡◌, refl, sym, ap, ◌∙◌}
use mathlib.Core.Bool.{Bool, true, false, ◌&&◌, and-false}
use mathlib.Core.List.{List, [], ◌∷◌, append_assoc}
use native.Mathlib.Omega.{arith}
use lib.ListN.{length, take, drop, get_or}
use lib.Seq.{paste}
use lib.Dec.{eqb}
use borrow.Author.Tests.{eq-eqb, ne_eqb}
use borrow.Rule.Slice.PartMut.{put_mid}
use Rattle.std.specs.Bool.{MatchBool}
use Rattle.std.specs.List.{AllWithin, HoldsAt}
use Rattle.std.specs.Str.{bytes_eq}
use Rattle.std.proofs.lemmas.Slice.{put_mid-paste}
use Rattle.std.proofs.lemmas.List.Edits.{paste_all, sets-eq}
use Rattle.octets.specs.Octets.{put, same, all_zero}

-- a part that was written over is a stretch that was put
pub part_put : (s : List ℕ) (at n : ℕ) (vs : List ℕ) → length vs ≡ n → at + n ≤ length s → put_mid at (at + n - at) s vs ≡ put s at vs
unfolding put
part_put s at n vs e h =
    let k : at + n - at ≡ length vs = omega arith in
    put_mid-paste at (at + n - at) s vs vs (at + n - at) refl refl k
    ∙ ap (λ (m : ℕ). paste s at vs m) k ∙ paste_all s at vs (length vs) refl ∙ sym (append_assoc (take at s) vs (drop (at + length vs) s)) ∙ sym (sets-eq vs s at (omega arith))

-- std's equality of bytes is this one
pub same_bytes : (s t : List ℕ) → bytes_eq s t ≡ same s t
unfolding same
same_bytes [] [] = refl
same_bytes [] (y ∷ t) = refl
same_bytes (x ∷ s) [] = refl
same_bytes (x ∷ s) (y ∷ t) = ap (λ (b : Bool). eqb x y && b) (same_bytes s t)

-- where each byte is zero the test says so, and not where one is another
all_zero_yes : (s : List ℕ) → ((k : ℕ) → k < length s → get_or s k 0 ≡ 0) → all_zero s ≡ true
unfolding all_zero
all_zero_yes [] h = refl
all_zero_yes (x ∷ s) h = rw (eq-eqb x 0 (h 0 (omega arith))) (all_zero_yes s (λ k l. h (suc k) (omega arith)))

all_zero_no : (s : List ℕ) (k : ℕ) → k < length s → (get_or s k 0 ≡ 0 → ⊥) → all_zero s ≡ false
unfolding all_zero
all_zero_no [] k l h = absurd (omega arith)
all_zero_no (x ∷ s) zero l h = rw (ne_eqb x 0 h) refl
all_zero_no (x ∷ s) (suc k) l h = rw (all_zero_no s k (omega arith) h) (and-false (eqb x 0))

pub all_zero_by : (r : Bool) (s : List ℕ) → MatchBool r (AllWithin (λ x. x ≡ 0) s 0 (length s)) ((k : ℕ) × (k < length s) × HoldsAt (λ x. x ≡ 0 → ⊥) s k) → r ≡ all_zero s
all_zero_by true s h = sym (all_zero_yes s (λ k l. h k 0 (omega arith) l))
all_zero_by false s h = sym (all_zero_no s h.0 h.1 (h.2 0))
