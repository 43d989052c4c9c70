-- Laws of `put`, `bytes`, `number`, `cut` and `same`. Assumes nothing.
use Prim.Native.Nat.{ℕ, zero, suc, ◌+◌, ◌*◌, ◌/◌, ◌%◌, ◌^◌, ◌<◌, ◌≤◌, ◌-◌, min}
use mathlib.Core.Path.{◌≡◌, refl, sym, ap, ◌∙◌}
use mathlib.Core.Bool.{Bool, true, false, ◌&&◌, false≢true}
use mathlib.Core.List.{List, [], ◌∷◌, ◌++◌, append-nil, append_assoc}
use native.Mathlib.Omega.{arith}
use native.Mathlib.Nat.{two-pow-succ, div-add-mod', div-lt_iff_lt-mul, mod-lt, one-le-pow, zero-add}
use lib.Arith.{digits_lt, digits_div, digits_mod}
use lib.Pow.{pow-add}
use lib.Dec.{eqb, lit<}
use lib.ListN.{length, get_or, take, drop, set, length-append, length-take, length-drop, take-append-drop}
use lib.Seq.{sets, length-sets, get_or-set_other, get_or-set_same, set-get_or, sets-eq, length-take-le, drop-length, drop_at, take_at, ext_get_or, get_or-take, get_or-drop, take-add}
use borrow.Author.Tests.{eqb-true, eq-eqb}
use Rattle.octets.specs.Octets.{span, number, bytes, cut, put, same}

-- two stretches one after the other are one stretch
pub put_append : (s : List ℕ) (at : ℕ) (a b : List ℕ) → put s at (a ++ b) ≡ put (put s at a) (at + length a) b
unfolding put
put_append s at [] b = ap (λ (n : ℕ). sets s n b) (omega arith)
put_append s at (x ∷ a) b = put_append (set s at x) (suc at) a b ∙ ap (λ (n : ℕ). sets (sets (set s at x) (suc at) a) n b) (omega arith)

pub length_put : (s : List ℕ) (at : ℕ) (a : List ℕ) → length (put s at a) ≡ length s
unfolding put
length_put s at a = length-sets s at a

pub length_bytes : (k v : ℕ) → length (bytes k v) ≡ 2 ^ k
unfolding bytes
length_bytes zero v = refl
length_bytes (suc k) v =
    length-append (bytes k (v / span k)) (bytes k (v % span k)) ∙ ap (λ (n : ℕ). n + length (bytes k (v % span k))) (length_bytes k _) ∙ ap (λ (n : ℕ). 2 ^ k + n) (length_bytes k _) ∙ sym (two-pow-succ k)

-- a number is put in two halves
pub put_halves : (k : ℕ) (s : List ℕ) (at v : ℕ) → put s at (bytes (suc k) v) ≡ put (put s at (bytes k (v / span k))) (at + 2 ^ k) (bytes k (v % span k))
unfolding bytes
put_halves k s at v =
    put_append s at (bytes k (v / span k)) (bytes k (v % span k)) ∙ ap (λ (n : ℕ). put (put s at (bytes k (v / span k))) (at + n) (bytes k (v % span k))) (length_bytes k _)

-- What stands outside the stretch stays. That i is outside is said by a refutation, which `λ p q. omega arith` proves on either side.
pub get_or_put_out : (s : List ℕ) (at : ℕ) (vs : List ℕ) (i : ℕ) → (at ≤ i → i < at + length vs → ⊥) → get_or (put s at vs) i 0 ≡ get_or s i 0
unfolding put
get_or_put_out s at [] i out = refl
get_or_put_out s at (x ∷ vs) i out =
    get_or_put_out (set s at x) (suc at) vs i (λ p q. out (omega arith) (omega arith))
    ∙ get_or-set_other s at i x 0 (λ e. out (omega arith) (omega arith))

-- a number outside the stretch stays
pub number_put_out : (k : ℕ) (s : List ℕ) (at : ℕ) (vs : List ℕ) (i : ℕ) → ((j : ℕ) → at ≤ j → j < at + length vs → i ≤ j → j < i + 2 ^ k → ⊥) → number k (put s at vs) i ≡ number k s i
unfolding number
number_put_out zero s at vs i out = get_or_put_out s at vs i (λ p q. out i p q (omega arith) (omega arith))
number_put_out (suc k) s at vs i out =
    ap (λ (n : ℕ). n * span k + number k (put s at vs) (i + 2 ^ k)) (number_put_out k s at vs i (λ j p q r t. out j p q r (omega (arith, two-pow-succ k))))
    ∙ ap (λ (n : ℕ). number k s i * span k + n) (number_put_out k s at vs (i + 2 ^ k) (λ j p q r t. out j p q (omega arith) (omega (arith, two-pow-succ k))))

span_suc : (k : ℕ) → span (suc k) ≡ span k * span k
span_suc k = ap (λ (n : ℕ). 256 ^ n) (two-pow-succ k) ∙ pow-add 256 (2 ^ k) (2 ^ k)

span_pos : (k : ℕ) → 0 < span k
span_pos k = one-le-pow (2 ^ k) 256 (lit< tt)

-- a number that was put is read back
pub number_put : (k : ℕ) (s : List ℕ) (at v : ℕ) → v < span k → at + 2 ^ k ≤ length s → number k (put s at (bytes k v)) at ≡ v
unfolding number bytes put
number_put zero s at v h l = get_or-set_same s at v 0 (omega arith)
number_put (suc k) s at v h l =
    let hi = v / span k in
    let lo = v % span k in
    let m : span (suc k) ≡ span k * span k = span_suc k in
    let p : hi < span k = (div-lt_iff_lt-mul (span_pos k)).1 (rw m at h) in
    let n : length (bytes k lo) ≡ 2 ^ k = length_bytes k lo in
    let w : length (put s at (bytes k hi)) ≡ length s = length_put s at (bytes k hi) in
    let first : number k (put (put s at (bytes k hi)) (at + 2 ^ k) (bytes k lo)) at ≡ hi
    = number_put_out k (put s at (bytes k hi)) (at + 2 ^ k) (bytes k lo) at (λ j a b c d. omega arith)
    ∙ number_put k s at hi p (omega (arith, two-pow-succ k)) in
    let second : number k (put (put s at (bytes k hi)) (at + 2 ^ k) (bytes k lo)) (at + 2 ^ k) ≡ lo
    = number_put k (put s at (bytes k hi)) (at + 2 ^ k) lo (mod-lt v (span_pos k)) (omega (arith, two-pow-succ k)) in
    ap (λ (x : List ℕ). number (suc k) x at) (put_halves k s at v)
    ∙ ap (λ (x : ℕ). x * span k + number k (put (put s at (bytes k hi)) (at + 2 ^ k) (bytes k lo)) (at + 2 ^ k)) first
    ∙ ap (λ (x : ℕ). hi * span k + x) second
    ∙ div-add-mod' v (span k)

-- a number in the bytes of a list fits its level
pub number_lt : (k : ℕ) (s : List ℕ) (at : ℕ) → ((i : ℕ) → get_or s i 0 < 256) → number k s at < span k
unfolding number
number_lt zero s at b = b at
number_lt (suc k) s at b = rw span_suc (digits_lt (number_lt k s at b) (number_lt k s (at + 2 ^ k) b))

-- a number that was read is put back without a change
pub put_number : (k : ℕ) (s : List ℕ) (at : ℕ) → ((i : ℕ) → get_or s i 0 < 256) → put s at (bytes k (number k s at)) ≡ s
unfolding number bytes put
put_number zero s at b = set-get_or s at 0
put_number (suc k) s at b =
    let hi = number k s at in
    let lo = number k s (at + 2 ^ k) in
    put_halves k s at (hi * span k + lo)
    ∙ rw (digits_div hi (number_lt k s (at + 2 ^ k) b), digits_mod hi (number_lt k s (at + 2 ^ k) b), put_number k s at b) (put_number k s (at + 2 ^ k) b)

-- all of a list is replaced
pub put_all : (s vs : List ℕ) → length vs ≡ length s → put s 0 vs ≡ vs
unfolding put
put_all s vs e = sets-eq vs s 0 (omega arith) ∙ rw (zero-add, e, drop-length) (append-nil vs)

-- the stretch that was put, and any other
pub cut_put : (s : List ℕ) (at : ℕ) (vs : List ℕ) → at + length vs ≤ length s → cut (put s at vs) at (length vs) ≡ vs
unfolding put
cut_put s at vs h =
    rw (sets-eq vs s at h, append_assoc, drop_at (take at s) _ at (length-take-le at s (omega arith)))
    (take_at vs _ (length vs) refl)

pub cut_put_out : (s : List ℕ) (at : ℕ) (vs : List ℕ) (i n : ℕ) → ((j : ℕ) → at ≤ j → j < at + length vs → i ≤ j → j < i + n → ⊥) → cut (put s at vs) i n ≡ cut s i n
cut_put_out s at vs i n out =
    ext_get_or 0 (cut (put s at vs) i n) (cut s i n) (simp (length-take, length-drop, length_put))
    (λ j h. let q : j < min n (length (put s at vs) - i) = simp (length-take, length-drop) at h in
    let h' : j < n = omega arith in
    get_or-take n (drop i (put s at vs)) j 0 h' ∙ get_or-drop i (put s at vs) j 0
    ∙ get_or_put_out s at vs (i + j) (λ p q. out (i + j) p q (omega arith) (omega arith))
    ∙ sym (get_or-take n (drop i s) j 0 h' ∙ get_or-drop i s j 0))

-- what was read is put back without a change
pub put_cut : (s : List ℕ) (at n : ℕ) → at + n ≤ length s → put s at (cut s at n) ≡ s
unfolding put
put_cut s at n h =
    let e : length (cut s at n) ≡ n = simp (length-take, length-drop) (omega arith) in
    sets-eq (cut s at n) s at (omega arith) ∙ rw (e, ← take-add) (take-append-drop (at + n) s)

-- a number's bytes make the number
pub number_bytes : (k v : ℕ) (rest : List ℕ) → v < span k → number k (bytes k v ++ rest) 0 ≡ v
number_bytes k v rest h =
    let s = bytes k v ++ rest in
    let n : length s ≡ length (bytes k v) + length rest = length-append (bytes k v) rest in
    let m : length (bytes k v) ≡ 2 ^ k = length_bytes k v in
    let e : cut s 0 (2 ^ k) ≡ bytes k v = take_at (bytes k v) rest (2 ^ k) m in
    ap (λ (x : List ℕ). number k x 0) (sym (put_cut s 0 (2 ^ k) (omega arith)) ∙ ap (λ (x : List ℕ). put s 0 x) e)
    ∙ number_put k s 0 v h (omega arith)

-- bytes that are the same are equal, and the other way round
pub same_is : (s t : List ℕ) → same s t ≡ true → s ≡ t
unfolding same
same_is [] [] h = refl
same_is [] (y ∷ t) h = absurd (false≢true h)
same_is (x ∷ s) [] h = absurd (false≢true h)
same_is (x ∷ s) (y ∷ t) h = go (eqb x y) refl h (λ q. same_is s t q)
  where
    go : (b : Bool) → eqb x y ≡ b → (b && same s t) ≡ true → (same s t ≡ true → s ≡ t) → x ∷ s ≡ y ∷ t
    go true e q rest = let first = eqb-true x y e in let others = rest q in λ i. first i ∷ others i
    go false e q rest = absurd (false≢true q)

pub is_same : (s : List ℕ) → same s s ≡ true
unfolding same
is_same [] = refl
is_same (x ∷ s) = rw (eq-eqb x x refl, is_same s)
