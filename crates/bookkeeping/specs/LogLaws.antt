-- The logs: a bit that is set reads as set, all others of all 64 logs stay. Assumes nothing.
use Rattle.std.specs.Prelude.{ℕ, zero, suc, ◌+◌, ◌-◌, ◌/◌, ◌%◌, ◌^◌, ◌≤◌, ◌<◌, ◌≡◌, refl, Bool, true, false, List, [], ◌∷◌, length, get_or, ltb}
use Rattle.std.proofs.Common.{ap, ◌∙◌, arith, mod-lt, get_or-set_same, lit<, pow_pos, pow-add, ltb-true, ltb-false, eq-eqb}
use Rattle.std.proofs.Math.Nat.{div_self, div-eq_of_lt, mul-mod_left}
use Rattle.std.proofs.Math.Decide.{ℕ_discrete}
use Rattle.std.proofs.Math.Pow.{pow-lt}
use Rattle.std.proofs.lemmas.Nat.{shl-shr, or_shr, or_mod}
use Rattle.std.specs.Int.Bits.{bit_or, or_zero_r}
use Rattle.octets.specs.Octets.{one, number, bytes, put}
use Rattle.octets.proofs.Laws.{number_put_out, get_or_put_out}
use Rattle.ledger.specs.States.{Rules, place, value, is_redeemed, with_redeemed}

-- bit j of two numbers together is that bit of either
bit_or_lem : (a b j : ℕ) → bit_or a b / 2 ^ j % 2 ≡ bit_or (a / 2 ^ j % 2) (b / 2 ^ j % 2)
bit_or_lem a b j = ap (λ (n : ℕ). n % 2) (or_shr a b j) ∙ or_mod (a / 2 ^ j) (b / 2 ^ j) 1

-- a bit together with a bit that is set is set
or_one : (n : ℕ) → n < 2 → bit_or n 1 ≡ 1
or_one zero h = refl
or_one (suc zero) h = refl
or_one (suc (suc n)) h = absurd (omega arith)

-- a number together with 2 ^ k has bit k
own_bit : (a k : ℕ) → bit_or a (2 ^ k) / 2 ^ k % 2 ≡ 1
own_bit a k = bit_or_lem a (2 ^ k) k ∙ rw (div_self (pow_pos k)) (or_one _ (mod-lt (a / 2 ^ k) (lit< tt)))

-- 2 ^ k has no other bit
no_bit : (j k : ℕ) → (j ≡ k → ⊥) → 2 ^ k / 2 ^ j % 2 ≡ 0
no_bit j k apart = go (ltb k j) refl
  where
    go : (t : Bool) → ltb k j ≡ t → 2 ^ k / 2 ^ j % 2 ≡ 0
    go true e = rw (div-eq_of_lt (pow-lt (ltb-true k j e)))
    go false e =
        let m : ℕ = k - j - 1 in
        let low : j ≤ k = ltb-false k j e in
        let p : k ≡ m + 1 + j = omega arith in
        rw (p, pow-add 2 (m + 1) j, shl-shr (2 ^ (m + 1)) j, pow-add 2 m 1) (mul-mod_left (2 ^ m) 2)

-- so every other bit of a number together with 2 ^ k is as before
other_bit : (a j k : ℕ) → (j ≡ k → ⊥) → bit_or a (2 ^ k) / 2 ^ j % 2 ≡ a / 2 ^ j % 2
other_bit a j k apart = bit_or_lem a (2 ^ k) j ∙ rw (no_bit j k apart) (or_zero_r (a / 2 ^ j % 2))

-- and so it is of a byte in a list, whether the list reaches there or not
other_bit_put : (s : List ℕ) (at j k : ℕ) → (j ≡ k → ⊥) → number one (put s at (bytes one (bit_or (number one s at) (2 ^ k)))) at / 2 ^ j % 2 ≡ number one s at / 2 ^ j % 2
unfolding number bytes put
other_bit_put [] at j k apart = refl
other_bit_put (x ∷ s) zero j k apart = other_bit x j k apart
other_bit_put (x ∷ s) (suc at) j k apart = other_bit_put s at j k apart

-- a bit that was set reads as set
pub redeemed_set : (rules : Rules) (s : List ℕ) (account sequence : ℕ) → place rules account sequence < length s
    → is_redeemed rules (with_redeemed rules s account sequence) account sequence ≡ true
unfolding is_redeemed with_redeemed number bytes put
redeemed_set rules s account sequence h =
    let at = place rules account sequence in
    rw (get_or-set_same s at (bit_or (get_or s at 0) (value sequence)) 0 h) (eq-eqb _ _ (own_bit (get_or s at 0) (sequence % 8)))

-- every other byte stays
pub redeemed_leaves : (rules : Rules) (s : List ℕ) (account sequence i : ℕ) → (i ≡ place rules account sequence → ⊥)
    → get_or (with_redeemed rules s account sequence) i 0 ≡ get_or s i 0
unfolding with_redeemed bytes
redeemed_leaves rules s account sequence i apart = get_or_put_out s (place rules account sequence) _ i (λ p q. apart (omega arith))

-- every other sequence of every account reads as before
pub redeemed_stays : (rules : Rules) (s : List ℕ) (account sequence other next : ℕ) → sequence ≤ 4_095 → next ≤ 4_095
    → (account ≡ other → sequence ≡ next → ⊥) → is_redeemed rules (with_redeemed rules s account sequence) other next ≡ is_redeemed rules s other next
unfolding is_redeemed with_redeemed number
redeemed_stays rules s account sequence other next h k apart = go (ℕ_discrete (place rules other next) (place rules account sequence))
  where
    go : Dec (place rules other next ≡ place rules account sequence) → is_redeemed rules (with_redeemed rules s account sequence) other next ≡ is_redeemed rules s other next
    go (yes e) = rw (e, other_bit_put s (place rules account sequence) (next % 8) (sequence % 8) (λ q. apart (omega arith) (omega arith)))
    go (no e) = rw (redeemed_leaves rules s account sequence (place rules other next) e)

-- bytes put before the logs change none of them
pub redeemed_behind : (rules : Rules) (s : List ℕ) (at : ℕ) (vs : List ℕ) (account sequence : ℕ) → at + length vs ≤ rules.logs
    → is_redeemed rules (put s at vs) account sequence ≡ is_redeemed rules s account sequence
unfolding is_redeemed
redeemed_behind rules s at vs account sequence h = rw (number_put_out one s at vs (place rules account sequence) (λ j a b c d. omega arith))
