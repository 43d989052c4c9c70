-- Laws of a certificate that was read: where its votes are, and that the body inside it is read too, with that payment. Assumes nothing.
use Prim.Native.Nat.{ℕ, ◌+◌, ◌*◌, ◌≤◌, ◌<◌}
use mathlib.Core.Path.{◌≡◌, sym, ap, ◌∙◌}
use mathlib.Core.List.{List, ◌∷◌}
use native.Mathlib.Omega.{arith}
use lib.ListN.{length}
use Rattle.octets.specs.Octets.{two, number, cut}
use Rattle.wire.specs.Numbers.{is_faults}
use Rattle.wire.specs.Fields.{laid}
use Rattle.wire.specs.Messages.{inside, certificate_fields, body_fields, payment, is_payment}
use Rattle.wire.specs.Votes.{committee, votes, signers_in, known, rising}
use Rattle.wire.specs.Refusals.{Said, gives}
use Rattle.wire.specs.Readers.{BodyShown, read_payment, read_body, read_certificate_of, read_certificate}
use Rattle.wire.proofs.Laid.{certificate_laid, votes_length}
use Rattle.messages.proofs.Onward.{gives_held}

-- its first field, votes to its end, and the payment that its body says
pub record Shown (m : List ℕ) (paid : List ℕ) : Type 0 where
  pub sized : 3 ≤ length m
  pub body : number two m 1 + 3 ≤ length m
  pub room : number two m 1 + 6 + 68 * votes m < length m + 68
  pub reads : gives paid ≡ read_payment (inside m)

pub certificate_shown : {n : ℕ} {paid : List ℕ} (f : ℕ) (m : List ℕ) → gives (n ∷ paid) ≡ read_certificate f m → Shown m paid
unfolding read_certificate_of read_payment
certificate_shown f m e =
    let given = (gives_held (is_faults f) 2 _ e).1 in
    let whole = gives_held (laid m certificate_fields) 1 _ given in
    let enclosed = gives_held (laid (inside m) body_fields) 1 _ whole.1 in
    let ranged = gives_held (is_payment (payment (inside m))) 2 _ enclosed.1 in
    let voted = gives_held (known (committee f).last (signers_in m)) 5 _ ranged.1 in
    let risen = gives_held (rising (signers_in m)) 6 _ voted.1 in
    let counted = gives_held ((committee f).quorum (signers_in m)) 7 _ risen.1 in
    let values = ap (λ (s : Said). s.values) counted.1 in
    let found = certificate_laid m whole.0 in
    let end : length m ≡ number two m 1 + 3 + 68 * votes m = votes_length (votes m) m (number two m 1 + 3) found.run in
    record { sized = omega arith; body = omega arith; room = omega arith; reads = rw (enclosed.0, ranged.0) (ap gives cc) }

-- the body that was cut out of a message is the body inside it: its note, its payment, and that it is not refused
module _ {shown : BodyShown} {given : List ℕ} {size : ℕ} (m : List ℕ) (told : shown ≡ read_body given) (taken : given ≡ cut m 3 size) (sized : size ≡ number two m 1) where
  pub same_note : shown.note ≡ (read_body (inside m)).note
  same_note = (λ i. (told i).note) ∙ (λ i. (read_body (taken i)).note) ∙ (λ i. (read_body (cut m 3 (sized i))).note)

  answered : shown.answer ≡ read_payment (inside m)
  unfolding read_body
  answered = (λ i. (told i).answer) ∙ (λ i. read_payment (taken i)) ∙ (λ i. read_payment (cut m 3 (sized i)))

  pub same_payment : {paid : List ℕ} → gives paid ≡ read_payment (inside m) → shown.answer.values ≡ paid
  same_payment reads = ap (λ (s : Said). s.values) (answered ∙ sym reads)
