-- Zeros over a whole state, then f: a fresh one. Assumes nothing.
use Prim.Native.Nat.{ℕ, zero, suc, ◌-◌, ◌≤◌}
use mathlib.Core.Path.{◌≡◌, ap, ◌∙◌}
use mathlib.Core.List.{List}
use native.Mathlib.Omega.{arith}
use lib.ListN.{length, replicate, length-replicate}
use Rattle.octets.specs.Octets.{one, bytes, put}
use Rattle.octets.proofs.Laws.{put_all}
use Rattle.states.specs.Headers.{fresh_bytes}

-- f in front of zeros
first_put : (n f : ℕ) → 1 ≤ n → put (replicate n 0) 0 (bytes one f) ≡ fresh_bytes n f
unfolding put bytes
first_put zero f h = absurd (omega arith)
first_put (suc n) f h =
    let e : suc n - 1 ≡ n = omega arith in
    rw e

pub fresh_filled : {t u : List ℕ} (s : List ℕ) (f : ℕ) → 1 ≤ length s → t ≡ replicate (length s) 0 → u ≡ put t 0 (bytes one f) → u ≡ fresh_bytes (length s) f
fresh_filled s f h a b = b ∙ ap (λ (l : List ℕ). put l 0 (bytes one f)) a ∙ first_put (length s) f h

-- the same where the zeros were put over the state
pub fresh_put : {t u : List ℕ} (s : List ℕ) (f : ℕ) → 1 ≤ length s → t ≡ put s 0 (replicate (length s) 0) → u ≡ put t 0 (bytes one f) → u ≡ fresh_bytes (length s) f
fresh_put s f h a b = fresh_filled s f h (a ∙ put_all s (replicate (length s) 0) (length-replicate (length s) 0)) b
