-- What the values of a reader's answer tell: the very payment or funding order of a message that has it. Assumes nothing.
use Prim.Native.Nat.{ℕ, ◌+◌, ◌≤◌}
use mathlib.Core.Path.{◌≡◌, refl, sym, ap, ◌∙◌}
use mathlib.Core.Bool.{true}
use mathlib.Core.List.{List, [], ◌∷◌}
use native.Mathlib.Omega.{arith}
use lib.ListN.{length, get_or, drop}
use lib.Dec.{eqb}
use Rattle.octets.specs.Octets.{two, number}
use Rattle.wire.specs.Numbers.{is_faults}
use Rattle.wire.specs.Fields.{laid}
use Rattle.wire.specs.Messages.{body_fields, payment, is_payment, certificate_fields, inside, funding_fields, funding, is_funding}
use Rattle.wire.specs.Votes.{Committee, committee, known, rising, good, votes, signers_in}
use Rattle.wire.specs.Refusals.{Said, gives, payment_values, funding_values}
use Rattle.wire.specs.Readers.{read_payment, is_body, read_order_payment, is_order, read_funding, judged_by, judged, count_of}
use Rattle.wire.specs.declared.kinds.Payment.{Payment}
use Rattle.wire.specs.declared.kinds.Funding.{Funding}
use Rattle.wire.proofs.FieldLaws.{length_cut}
use Rattle.wire.proofs.Laid.{order_laid, body_laid}
use Rattle.std.specs.Borrow.{Bor}
use Rattle.votes.specs.Reach.{Reaches, machines_of}
use Rattle.messages.specs.Opening.{IsOpened}
use Rattle.messages.specs.declared.certificate.Opened.{Opened}
use Rattle.messages.proofs.Places.{votes_room}
use Rattle.messages.proofs.Onward.{gives_held, payment_read, order_read, count_given}

-- a payment from its values
abbrev pub payment_of : List ℕ → Payment
payment_of vs = record { sender = record { 0 = get_or vs 0 0 }; kind = get_or vs 1 0; recipient = get_or vs 2 0; amount = get_or vs 3 0; sequence = record { 0 = get_or vs 4 0 } }

-- a funding order from its values
abbrev pub funding_of : List ℕ → Funding
funding_of vs = record { index = record { 0 = get_or vs 0 0 }; account = record { 0 = get_or vs 1 0 }; amount = get_or vs 2 0 }

-- payments with the same values are the same
pub payment_same : (p q : Payment) → gives (payment_values p) ≡ gives (payment_values q) → p ≡ q
payment_same p q e = ap (λ (s : Said). payment_of s.values) e

-- so are funding orders
pub funding_same : (o p : Funding) → gives (funding_values o) ≡ gives (funding_values p) → o ≡ p
funding_same o p e = ap (λ (s : Said). funding_of s.values) e

-- a payment that was read is that of the body
pub payment_told : (p : Payment) (b : List ℕ) → gives (payment_values p) ≡ read_payment b → (is_body b ≡ true) × (p ≡ payment b)
payment_told p b e = let r = payment_read b e in (simp (r.0, r.1), ap payment_of r.2)

-- and that of the body inside an order
pub order_told : (p : Payment) (m : List ℕ) → gives (payment_values p) ≡ read_order_payment m → (is_order m ≡ true) × (p ≡ payment (inside m)) × (is_payment p ≡ true)
order_told p m e =
    let r = order_read m e in
    let q = payment_read (inside m) r.1 in
    let s : p ≡ payment (inside m) = ap payment_of q.2 in
    (simp (r.0, q.0, q.1), s, ap is_payment s ∙ q.1)

-- the votes of an open certificate lie within the message, and their machines are its signers
pub votes_told : {f : ℕ} {m : Bor (List ℕ)} {o : Opened} → IsOpened f m o → Reaches o.votes o.number × (machines_of o.votes o.number ≡ signers_in m.now)
votes_told {m = m} h = rw (h.placed, h.counted) ((votes_room m.now h.laid_down, omega arith), refl)

-- what an accepted order is known to have
pub record OrderFacts (m : List ℕ) : Type 0 where
  pub accepted : is_order m ≡ true
  pub least : 25 ≤ number two m 1
  pub most : number two m 1 ≤ 57
  pub size : length (inside m) ≡ number two m 1
  pub total : length m ≡ number two m 1 + 70

pub order_facts : {v : ℕ} {vs : List ℕ} (m : List ℕ) → gives (v ∷ vs) ≡ read_order_payment m → OrderFacts m
order_facts m e =
    let o = order_read m e in
    let b = payment_read (inside m) o.1 in
    let l = order_laid m o.0 in
    let t : length m ≡ number two m 1 + 70 = l.total in
    let s : length (inside m) ≡ number two m 1 = length_cut m 3 (number two m 1) (omega arith) in
    let d = body_laid (inside m) b.0 in
    record { accepted = simp (o.0, b.0, b.1); least = omega arith; most = omega arith; size = s; total = t }

-- so of a funding order
pub funding_told : (o : Funding) (m : List ℕ) → gives (funding_values o) ≡ read_funding m → (o ≡ funding m) × (is_funding o ≡ true)
unfolding read_funding
funding_told o m e =
    let p = gives_held (laid m funding_fields) 1 _ e in
    let q = gives_held (is_funding (funding m)) 2 _ p.1 in
    let s : o ≡ funding m = funding_same o (funding m) q.1 in
    (s, ap is_funding s ∙ q.0)

-- what the values of a judged certificate are: it has its fields, and they are the number of its votes and its payment
pub record Found (m : List ℕ) (n : ℕ) (vs : List ℕ) : Type 0 where
  pub laid_down : laid m certificate_fields ≡ true
  pub formed : laid (inside m) body_fields ≡ true
  pub in_range : is_payment (payment (inside m)) ≡ true
  pub count : n ≡ length (signers_in m)
  pub values : vs ≡ payment_values (payment (inside m))

pub judged_found : (c : Committee) (m verdicts : List ℕ) (n : ℕ) (vs : List ℕ) → gives (n ∷ vs) ≡ judged_by c m verdicts → Found m n vs
unfolding judged_by
judged_found c m verdicts n vs e =
    let t₁ = gives_held (laid m certificate_fields) 1 _ e in
    let t₂ = gives_held (laid (inside m) body_fields) 1 _ t₁.1 in
    let t₃ = gives_held (is_payment (payment (inside m))) 2 _ t₂.1 in
    let t₄ = gives_held (eqb (length verdicts) (votes m)) 3 _ t₃.1 in
    let t₅ = gives_held (known c.last (signers_in m)) 5 _ t₄.1 in
    let t₆ = gives_held (rising (signers_in m)) 6 _ t₅.1 in
    let t₇ = gives_held (good verdicts) 4 _ t₆.1 in
    let t₈ = gives_held (c.quorum (signers_in m)) 7 _ t₇.1 in
    record {
      laid_down = t₁.0;
      formed = t₂.0;
      in_range = t₃.0;
      count = ap (λ (s : Said). get_or s.values 0 0) t₈.1;
      values = ap (λ (s : Said). drop 1 s.values) t₈.1;
    }

-- the same of a certificate of which the number of its votes was told
pub counted_found : (f : ℕ) (m verdicts : List ℕ) (n : ℕ) → gives (n ∷ []) ≡ count_of (judged f m verdicts)
    → Found m n (drop 1 (judged f m verdicts).values) × (gives (n ∷ payment_values (payment (inside m))) ≡ judged f m verdicts)
counted_found f m verdicts n e =
    let g = count_given n (judged f m verdicts) e in
    let d = judged_found (committee f) m verdicts n _ (gives_held (is_faults f) 2 _ g).1 in
    (d, ap (λ (vs : List ℕ). gives (n ∷ vs)) (sym d.values) ∙ g)

-- what a judged certificate tells: its votes and its payment
pub record Judged (m : List ℕ) (votes : ℕ) (p : Payment) : Type 0 where
  pub said : p ≡ payment (inside m)
  pub in_range : is_payment p ≡ true
  pub count : votes ≡ length (signers_in m)

pub judged_told : (c : Committee) (m verdicts : List ℕ) (n : ℕ) (p : Payment) → gives (n ∷ payment_values p) ≡ judged_by c m verdicts → Judged m n p
judged_told c m verdicts n p e =
    let d = judged_found c m verdicts n (payment_values p) e in
    let s : p ≡ payment (inside m) = ap payment_of d.values in
    record { said = s; in_range = ap is_payment s ∙ d.in_range; count = d.count }
