-- Where the standing body lies: within the message or the state, and the bytes there are its own. Assumes nothing.
use Prim.Native.Nat.{ℕ, ◌+◌, ◌≤◌, ◌<◌}
use mathlib.Core.Path.{◌≡◌, refl, ap}
use mathlib.Core.Bool.{Bool, true, false, cond}
use mathlib.Core.List.{List, []}
use native.Mathlib.Omega.{arith}
use lib.ListN.{length, get_or}
use lib.Dec.{eqb, ltb, lit<}
use Rattle.octets.specs.Octets.{one, two, number, cut}
use Rattle.octets.specs.Tests.{need}
use Rattle.wire.specs.Fields.{laid}
use Rattle.wire.specs.Messages.{payment, is_payment, body_fields, order_fields, inside}
use Rattle.wire.specs.Refusals.{Said}
use Rattle.wire.specs.Readers.{is_body, is_order}
use Rattle.octets.proofs.TestLaws.{both}
use Rattle.wire.proofs.FieldLaws.{length_cut}
use Rattle.wire.proofs.Laid.{order_laid}
use Rattle.wire.proofs.Ranges.{payment_range}
use Rattle.records.specs.Answers.{in_message, in_state}
use Rattle.records.specs.States.{base, place, is_state, is_formed, pending_of}
use Rattle.records.specs.Calls.{standing, standing_on, standing_at, standing_on_at}
use Rattle.records.proofs.Facts.{state_length_lem, pending_fits}

-- which of the two an answer speaks of, and its place and length there
abbrev pub lender : Said → List ℕ → List ℕ → List ℕ
lender said m s = cond (eqb (get_or said.values 0 0) 0) m s

abbrev pub place_of : Said → ℕ
place_of said = get_or said.values 1 0

abbrev pub length_of : Said → ℕ
length_of said = get_or said.values 2 0

-- an answer that says where a body lies, in numbers of two bytes
pub record Lies (m s : List ℕ) (said : Said) (body : List ℕ) : Type 0 where
  pub within : place_of said + length_of said ≤ length (lender said m s)
  pub there : cut (lender said m s) (place_of said) (length_of said) ≡ body
  pub place_fits : place_of said < 65536
  pub length_fits : length_of said < 65536

module _ (m s : List ℕ) where
  -- a test of both cascades: nowhere where it fails
  needed : (t : Bool) (said : Said) (body : List ℕ) → (t ≡ true → Lies m s said body) → Lies m s (need t (in_message 0 0) said) (need t [] body)
  needed true said body h = h refl
  needed false said body h = record { within = omega arith; there = refl; place_fits = lit< tt; length_fits = lit< tt }

  chosen : (t : Bool) (said said' : Said) (body body' : List ℕ) → Lies m s said body → Lies m s said' body' → Lies m s (cond t said said') (cond t body body')
  chosen true said said' body body' l l' = l
  chosen false said said' body body' l l' = l'

  pending_lies : (a : ℕ) → length s ≡ 4616 → a ≤ 63 → is_formed base s a ≡ true → Lies m s (in_state (place base a + 12) (length (pending_of base s a))) (pending_of base s a)
  pending_lies a l h f =
      let w : number one s (place base a + 1) ≤ 57 = pending_fits a s (place base a) f in
      let e : length (pending_of base s a) ≡ number one s (place base a + 1) = length_cut s (place base a + 12) _ (omega arith) in
      record { within = omega arith; there = ap (cut s (place base a + 12)) e; place_fits = omega arith; length_fits = omega arith }

  message_lies : laid m order_fields ≡ true → Lies m s (in_message 3 (number two m 1)) (inside m)
  message_lies h =
      let l = order_laid m h in
      let n : number two m 1 ≤ 57 = l.body.short in
      record { within = omega arith; there = refl; place_fits = lit< tt; length_fits = omega arith }

  -- both cascades walked once
  lies : Lies m s (standing_at base m s) (standing base m s)
  unfolding standing standing_on standing_at standing_on_at
  lies =
      let a = (payment (inside m)).sender.0 in
      needed (is_state base s) _ _ (λ t.
      needed (is_order m) _ _ (λ o.
      let b = both (laid m order_fields) (is_body (inside m)) o in
      let p = payment_range (payment (inside m)) (both (laid (inside m) body_fields) (is_payment (payment (inside m))) b.1).1 in
      needed (is_formed base s a) _ _ (λ f.
      chosen (ltb 0 (length (pending_of base s a))) _ _ _ _ (pending_lies a (state_length_lem s t) p.sender f) (message_lies b.0))))

-- an answer of standing_at says where the standing body lies
pub standing_lies : {m s : List ℕ} {said : Said} → said ≡ standing_at base m s → Lies m s said (standing base m s)
standing_lies {m} {s} e = rw e (lies m s)

pub standing_fits : (m s : List ℕ) → (place_of (standing_at base m s) < 65536) × (length_of (standing_at base m s) < 65536)
standing_fits m s = let l = lies m s in (l.place_fits, l.length_fits)
