-- A turn of the loop that puts a part byte by byte. Assumes nothing.
use Prim.Native.Nat.{ℕ, ◌+◌, ◌<◌}
use mathlib.Core.Path.{◌≡◌, sym, ap, ◌∙◌}
use mathlib.Core.List.{List, [], ◌∷◌}
use native.Mathlib.Omega.{arith}
use native.Mathlib.Numerals.{add-one}
use lib.ListN.{length, get_or, set, take}
use lib.Seq.{sets, take-suc, length-take-le}
use Rattle.octets.specs.Octets.{put}
use Rattle.octets.proofs.Laws.{put_append}

-- one byte more of src is put
pub put_more : (s : List ℕ) (at : ℕ) (src : List ℕ) (i : ℕ) → i < length src → set (put s at (take i src)) (at + i) (get_or src i 0) ≡ put s at (take (i + 1) src)
unfolding put
put_more s at src i h =
    sym (rw (add-one, take-suc src i 0 h)
    (put_append s at (take i src) (get_or src i 0 ∷ []) ∙ ap (λ (n : ℕ). set (sets s at (take i src)) (at + n) (get_or src i 0)) (length-take-le i src (omega arith))))
