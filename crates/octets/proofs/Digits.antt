-- A number's bytes, as std has them and as `number` and `bytes` have them. Assumes nothing.
use Prim.Native.Nat.{ℕ, zero, suc, ◌+◌, ◌*◌, ◌/◌, ◌%◌, ◌-◌, ◌≤◌, ◌<◌, ◌^◌}
use mathlib.Core.Path.{◌≡◌, ap, ◌∙◌}
use mathlib.Core.List.{List, [], ◌∷◌, ◌++◌}
use native.Mathlib.Omega.{arith}
use native.Mathlib.Nat.{two-pow-succ}
use lib.ListN.{length, take, drop, get_or, length-drop}
use lib.Seq.{take-add, take-suc, drop-drop, get_or-drop}
use borrow.Rule.Slice.PartMut.{put_mid}
use Rattle.std.specs.Int.{w64, from_be_bytes, to_be_bytes}
use Rattle.octets.specs.Octets.{number, bytes, cut}
use Rattle.octets.proofs.Laws.{number_lt}

-- the 2 ^ k bytes from `at`, one by one
unfoldable pub listed : ℕ → List ℕ → ℕ → List ℕ
listed zero s at = get_or s at 0 ∷ []
listed (suc k) s at = listed k s at ++ listed k s (at + 2 ^ k)

-- a stretch is two stretches, one after the other
cut_add : (s : List ℕ) (at m n : ℕ) → cut s at (m + n) ≡ cut s at m ++ cut s (at + m) n
cut_add s at m n = take-add m n (drop at s) ∙ ap (λ (rest : List ℕ). take m (drop at s) ++ take n rest) (drop-drop m at s)

-- a stretch of 2 ^ k bytes, one by one
pub cut_listed : (k : ℕ) (s : List ℕ) (at : ℕ) → at + 2 ^ k ≤ length s → cut s at (2 ^ k) ≡ listed k s at
unfolding listed
cut_listed zero s at h = take-suc (drop at s) 0 0 (omega (arith, length-drop at s)) ∙ ap (λ (x : ℕ). x ∷ []) (get_or-drop at s 0 0 ∙ ap (λ (n : ℕ). get_or s n 0) (omega arith))
cut_listed (suc k) s at h =
    ap (λ (n : ℕ). cut s at n) (two-pow-succ k) ∙ cut_add s at (2 ^ k) (2 ^ k)
    ∙ ap (λ (front : List ℕ). front ++ cut s (at + 2 ^ k) (2 ^ k)) (cut_listed k s at (omega (arith, two-pow-succ k)))
    ∙ ap (λ (rest : List ℕ). listed k s at ++ rest) (cut_listed k s (at + 2 ^ k) (omega (arith, two-pow-succ k)))

-- the number that std makes of 2 ^ k bytes behind zeros
pub numbered : (k : ℕ) (s : List ℕ) (at : ℕ) → k ≤ 3 → from_be_bytes w64 (put_mid (8 - 2 ^ k) (8 - (8 - 2 ^ k)) (0 ∷ 0 ∷ 0 ∷ 0 ∷ 0 ∷ 0 ∷ 0 ∷ 0 ∷ []) (listed k s at)) ≡ number k s at
unfolding listed number
numbered zero s at h = omega arith
numbered (suc zero) s at h = omega arith
numbered (suc (suc zero)) s at h = omega arith
numbered (suc (suc (suc zero))) s at h = omega arith
numbered (suc (suc (suc (suc k)))) s at h = absurd (omega arith)

-- the last 2 ^ k bytes of the eight that std makes of a number
pub spelled : (k : ℕ) (v : ℕ) → k ≤ 3 → v < 2 ^ (8 * 2 ^ k) → take (8 - (8 - 2 ^ k)) (drop (8 - 2 ^ k) (to_be_bytes w64 v)) ≡ bytes k v
unfolding bytes
spelled zero v h l =
    let e0 : v % 256 ≡ v = omega arith in
    λ i. e0 i ∷ []
spelled (suc zero) v h l =
    let e0 : v / 256 % 256 ≡ v / 256 = omega arith in
    let e1 : v % 256 ≡ v % 256 = omega arith in
    λ i. e0 i ∷ e1 i ∷ []
spelled (suc (suc zero)) v h l =
    let e0 : v / 16777216 % 256 ≡ v / 65536 / 256 = omega arith in
    let e1 : v / 65536 % 256 ≡ v / 65536 % 256 = omega arith in
    let e2 : v / 256 % 256 ≡ v % 65536 / 256 = omega arith in
    let e3 : v % 256 ≡ v % 65536 % 256 = omega arith in
    λ i. e0 i ∷ e1 i ∷ e2 i ∷ e3 i ∷ []
spelled (suc (suc (suc zero))) v h l =
    let e0 : v / 72057594037927936 % 256 ≡ v / 4294967296 / 65536 / 256 = omega arith in
    let e1 : v / 281474976710656 % 256 ≡ v / 4294967296 / 65536 % 256 = omega arith in
    let e2 : v / 1099511627776 % 256 ≡ v / 4294967296 % 65536 / 256 = omega arith in
    let e3 : v / 4294967296 % 256 ≡ v / 4294967296 % 65536 % 256 = omega arith in
    let e4 : v / 16777216 % 256 ≡ v % 4294967296 / 65536 / 256 = omega arith in
    let e5 : v / 65536 % 256 ≡ v % 4294967296 / 65536 % 256 = omega arith in
    let e6 : v / 256 % 256 ≡ v % 4294967296 % 65536 / 256 = omega arith in
    let e7 : v % 256 ≡ v % 4294967296 % 65536 % 256 = omega arith in
    λ i. e0 i ∷ e1 i ∷ e2 i ∷ e3 i ∷ e4 i ∷ e5 i ∷ e6 i ∷ e7 i ∷ []
spelled (suc (suc (suc (suc k)))) v h l = absurd (omega arith)

-- such a number has so many bits
pub number_fits : (k : ℕ) (s : List ℕ) (at : ℕ) → k ≤ 3 → ((i : ℕ) → get_or s i 0 < 256) → number k s at < 2 ^ (8 * 2 ^ k)
number_fits zero s at h b = number_lt 0 s at b
number_fits (suc zero) s at h b = number_lt 1 s at b
number_fits (suc (suc zero)) s at h b = number_lt 2 s at b
number_fits (suc (suc (suc zero))) s at h b = number_lt 3 s at b
number_fits (suc (suc (suc (suc k)))) s at h b = absurd (omega arith)
