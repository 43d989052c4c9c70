-- How long the messages are, where the body inside an order or a certificate ends, and what stands behind it. Assumes nothing.
use Prim.Native.Nat.{ℕ, ◌+◌, ◌-◌, ◌*◌, ◌/◌, ◌≤◌, ◌<◌}
use mathlib.Core.Path.{◌≡◌, ap}
use mathlib.Core.Bool.{true, ◌||◌}
use mathlib.Core.Logic.{inl, inr}
use mathlib.Core.List.{List}
use native.Mathlib.Omega.{arith}
use lib.ListN.{length}
use Rattle.std.specs.Prelude.{Some, None}
use Rattle.std.proofs.lemmas.Bool.{or_cases}
use Rattle.octets.specs.Octets.{two, number, cut}
use Rattle.octets.specs.Tests.{need}
use Rattle.wire.specs.Fields.{size, laid}
use Rattle.wire.specs.Messages.{body_fields, order_fields, certificate_fields, funding_fields, inside}
use Rattle.wire.specs.Votes.{votes}
use Rattle.wire.proofs.Laid.{body_laid, order_laid, certificate_laid, funding_laid, votes_length, found}

pub body_least : (b : List ℕ) → laid b body_fields ≡ true → 25 ≤ length b
body_least b h = (body_laid b h).least

pub funding_length : (m : List ℕ) → laid m funding_fields ≡ true → length m ≡ 16
funding_length m h = (funding_laid m h).sixteen

-- the body in the first field, which ends at `end`
pub record Encloses (m : List ℕ) (end : ℕ) : Type 0 where
  pub least : 3 ≤ end
  pub short : end ≤ length m
  pub body : cut m 3 (end - 3) ≡ inside m

encloses : (m : List ℕ) (end : ℕ) → 3 + size m 0 ≤ length m → end ≡ 3 + size m 0 → Encloses m end
encloses m end h e = let s : end - 3 ≡ number two m 1 = omega arith in record { least = omega arith; short = omega arith; body = ap (cut m 3) s }

-- an order or a certificate has it
pub order_whole : (m : List ℕ) → laid m order_fields ≡ true → 3 + size m 0 ≤ length m
order_whole m h = omega (arith, (order_laid m h).body.whole)

pub certificate_whole : (m : List ℕ) → laid m certificate_fields ≡ true → 3 + size m 0 ≤ length m
certificate_whole m h = omega (arith, (certificate_laid m h).body.whole)

pub order_encloses : {end : ℕ} (m : List ℕ) → Some end ≡ need (laid m order_fields) None (Some (3 + size m 0)) → (laid m order_fields ≡ true) × Encloses m end
order_encloses m e = let f = found _ _ _ e in (f.0, encloses m _ (order_whole m f.0) f.1)

pub either_encloses : {end : ℕ} (m : List ℕ) → Some end ≡ need (laid m order_fields || laid m certificate_fields) None (Some (3 + size m 0)) → ((laid m order_fields || laid m certificate_fields) ≡ true) × (end ≡ 3 + size m 0) × Encloses m end
either_encloses m e =
    let f = found _ _ _ e in
    let whole : 3 + size m 0 ≤ length m = elim (or_cases _ _ f.0) [ inl h ↦ order_whole m h | inr h ↦ certificate_whole m h ] in
    (f.0, f.1, encloses m _ whole f.1)

-- a certificate whose body was found to end at `end`: the body, and where its votes are, and how many
pub record Opened (m : List ℕ) (end : ℕ) : Type 0 where
  pub laid_down : laid m certificate_fields ≡ true
  pub encloses : Encloses m end
  pub first : end + 3 ≡ number two m 1 + 6
  pub count : (length m - end) / 68 ≡ votes m

pub opened : {end : ℕ} (m : List ℕ) → Some end ≡ need (laid m certificate_fields) None (Some (3 + size m 0)) → Opened m end
opened m e =
    let f = found _ _ _ e in
    let at = number two m 1 + 3 in
    record {
      laid_down = f.0;
      encloses = encloses m _ (certificate_whole m f.0) f.1;
      first = omega (arith, f.1);
      count = ap (λ (k : ℕ). (length m - k) / 68) (let q = f.1 in omega arith);
    }

-- the room that its votes have
pub votes_room : (m : List ℕ) → laid m certificate_fields ≡ true → number two m 1 + 6 + 68 * votes m < length m + 68
votes_room m h =
    let n : length m ≡ number two m 1 + 3 + 68 * votes m = votes_length (votes m) m (number two m 1 + 3) (certificate_laid m h).run in
    omega arith
