use Rattle.std.proofs.Common.{ℕ, zero, suc, ◌≡◌, ◌*◌, ◌%◌, ◌^◌, ◌≤◌, refl, arith}
use Rattle.octets.proofs.size.Goals as goal

-- each width's number of bytes, as the shift computes it
shifted : (k : ℕ) → k ≤ 3 → (1 * 2 ^ k % 18446744073709551616 ≡ 2 ^ k) × (1 * 2 ^ k % 18446744073709551616 ≤ 8)
shifted zero h = (refl, omega arith)
shifted (suc zero) h = (refl, omega arith)
shifted (suc (suc zero)) h = (refl, omega arith)
shifted (suc (suc (suc zero))) h = (refl, omega arith)
shifted (suc (suc (suc (suc k)))) h = absurd (omega arith)

pub returns : goal.returns
returns g c = shifted _ c.requires
