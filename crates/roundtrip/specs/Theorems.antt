-- Demand 2 and document 01, Messages: what our writers make is read back as the same values, and what a reader accepts is
-- written again as the same bytes. Assumes nothing.
use Rattle.std.specs.Prelude.{ℕ, ◌+◌, ◌*◌, ◌/◌, ◌≤◌, ◌≡◌, true, List, [], ◌∷◌, ◌↔◌, length, get_or, take, replicate}
use Rattle.std.proofs.Common.{ap, ◌∙◌, arith, leb-true}
use Rattle.octets.specs.Octets.{put}
use Rattle.octets.proofs.Laws.{cut_put, put_all}
use Rattle.wire.specs.Fields.{laid}
use Rattle.wire.specs.Messages.{body_fields, inside, payment, note_in, signature_in}
use Rattle.wire.specs.Votes.{votes, signers_in, votes_in}
use Rattle.wire.specs.Refusals.{gives, payment_values, funding_values}
use Rattle.wire.specs.Readers.{is_body, note_held, read_body, read_order, read_funding, read_certificate}
use Rattle.wire.specs.Writers.{Written, write_body, write_order, write_funding, write_certificate}
use Rattle.wire.specs.declared.kinds.Note.{Note}
use Rattle.wire.specs.declared.kinds.Payment.{Payment}
use Rattle.wire.specs.declared.kinds.Funding.{Funding}
use Rattle.octets.proofs.TestLaws.{both}
use Rattle.wire.proofs.FieldLaws.{Bytes}
use Rattle.wire.proofs.Laid.{note_fits, signature_fits}
use Rattle.writing.proofs.Written.{length_body, length_order, length_funding}
use Rattle.roundtrip.specs.Answers.{said, told, Wrote, wrote_size}
use Rattle.roundtrip.specs.Body.{body_wrote, body_read_back, payment_given, body_again}
use Rattle.roundtrip.specs.Order.{order_wrote, order_read_back, order_given_lem, order_again}
use Rattle.roundtrip.specs.Funding.{funding_wrote, funding_read_back, funding_given, funding_again}
use Rattle.roundtrip.specs.Certificate.{certificate_wrote, certificate_read_back, certificate_again, certifies_written, certifies_size}
use Rattle.model.specs.Lists.{In, Distinct}

-- what a writer made: the first bytes of the output, as many as its answer says; none if it refused
abbrev pub made : Written → List ℕ
made w = take (get_or w.answer.values 0 0) w.out

-- the note that a reader shows, without the zeros after it
abbrev pub note_shown : Note → List ℕ
note_shown n = take n.length n.bytes

-- what was made is the bytes that were written
made_wrote : {w : Written} {out bs : List ℕ} → Wrote w out bs → made w ≡ bs
made_wrote {out = out} {bs = bs} o = ap made o.outcome ∙ cut_put out 0 bs (omega (arith, o.fits))

-- a note has room among the 32 bytes
note_shown_lem : (b : List ℕ) → is_body b ≡ true → note_shown (note_held (note_in b)) ≡ note_in b
note_shown_lem b h = cut_put (replicate 32 0) 0 (note_in b) (omega (arith, leb-true (length (note_in b)) 32 (note_fits b (both (laid b body_fields) _ h).0)))

-- Written, then read: a body gives its values and its note
pub body_trip : (out : List ℕ) (p : Payment) (note : List ℕ) → (write_body out p note).answer.number ≡ 0
    → read_body (made (write_body out p note)) ≡ record { answer = gives (payment_values p); note = note_held note }
body_trip out p note h = let t = body_wrote out p note h in rw (made_wrote t.2) (body_read_back p note t.0 t.1)

-- an order gives its values, its note and its signature
pub order_trip : (out : List ℕ) (p : Payment) (note signature : List ℕ) → (write_order out p note signature).answer.number ≡ 0
    → read_order (made (write_order out p note signature)) ≡ record { answer = gives (payment_values p); note = note_held note; signature = signature }
order_trip out p note signature h =
    let t = order_wrote out p note signature h in
    rw (made_wrote t.3) (order_read_back p note signature t.0 t.1 t.2)

-- a funding order gives its values
pub funding_trip : (out : List ℕ) (o : Funding) → (write_funding out o).answer.number ≡ 0
    → read_funding (made (write_funding out o)) ≡ gives (funding_values o)
funding_trip out o h = let t = funding_wrote out o h in rw (made_wrote t.1) (funding_read_back o t.0)

-- a certificate gives the number of its votes and its body's values, and holds that body and those votes
pub certificate_trip : (f : ℕ) (out body run : List ℕ) → (write_certificate f out body run).answer.number ≡ 0
    → (read_certificate f (made (write_certificate f out body run)) ≡ gives (length run / 65 ∷ payment_values (payment body)))
    × (inside (made (write_certificate f out body run)) ≡ body) × (votes_in (made (write_certificate f out body run)) ≡ run)
certificate_trip f out body run h = let t = certificate_wrote f out body run h in rw (made_wrote t.1) (certificate_read_back f body run t.0)

-- Read, then written: a body that the reader accepts is written again from the values and the note that the reader shows
pub body_rewritten : (b out : List ℕ) (p : Payment) → Bytes b → (read_body b).answer ≡ gives (payment_values p) → length b ≤ length out
    → write_body out p (note_shown (read_body b).note) ≡ record { answer = gives (length b ∷ []); out = put out 0 b }
unfolding read_body
body_rewritten b out p bs h fits = let g = payment_given b p h in rw (g.0, note_shown_lem b g.0, ← g.1) (body_again b out bs g.0 fits)

-- an order from its values, its note and its signature
pub order_rewritten : (m out : List ℕ) (p : Payment) → Bytes m → (read_order m).answer ≡ gives (payment_values p) → length m ≤ length out
    → write_order out p (note_shown (read_order m).note) (read_order m).signature ≡ record { answer = gives (length m ∷ []); out = put out 0 m }
unfolding read_order
order_rewritten m out p bs h fits =
    let g = order_given_lem m p h in
    rw (g.0, g.1, note_shown_lem (inside m) g.1, put_all (replicate 64 0) (signature_in m) (signature_fits m g.0), ← g.2)
    (order_again m out bs g.0 g.1 fits)

-- a funding order from its values
pub funding_rewritten : (m out : List ℕ) (o : Funding) → Bytes m → read_funding m ≡ gives (funding_values o) → length m ≤ length out
    → write_funding out o ≡ record { answer = gives (length m ∷ []); out = put out 0 m }
funding_rewritten m out o bs h fits = let g = funding_given m o h in rw (← g.2) (funding_again m out bs g.0 g.1 fits)

-- a certificate from its body and its votes
pub certificate_rewritten : (f : ℕ) (m out : List ℕ) → Bytes m → (read_certificate f m).number ≡ 0 → length m ≤ length out
    → write_certificate f out (inside m) (votes_in m) ≡ record { answer = gives (length m ∷ []); out = put out 0 m }
certificate_rewritten f m out bs h fits =
    let a = certificate_again f m bs h in
    rw a.0 at (certifies_written f out (inside m) (votes_in m) a.1 (rw a.0 fits))

-- Sizes: a body that is written has 25 to 57 bytes
pub body_size : (out : List ℕ) (p : Payment) (note : List ℕ) (n : ℕ) → (write_body out p note).answer ≡ gives (n ∷ []) → (25 ≤ n) × (n ≤ 57)
body_size out p note n h =
    let t = body_wrote out p note (ap said h) in
    omega (arith, leb-true, wrote_size t.2 h, length_body p note)

-- an order at most 127
pub order_size : (out : List ℕ) (p : Payment) (note signature : List ℕ) (n : ℕ) → (write_order out p note signature).answer ≡ gives (n ∷ []) → n ≤ 127
order_size out p note signature n h =
    let t = order_wrote out p note signature (ap said h) in
    omega (arith, leb-true, wrote_size t.3 h, length_order p note signature t.2)

-- a funding order 16
pub funding_size : (out : List ℕ) (o : Funding) (n : ℕ) → (write_funding out o).answer ≡ gives (n ∷ []) → n ≡ 16
funding_size out o n h = wrote_size (funding_wrote out o (ap said h)).1 h ∙ length_funding o

-- a certificate at most 1,148
pub certificate_size : (f : ℕ) (out body run : List ℕ) (n : ℕ) → (write_certificate f out body run).answer ≡ gives (n ∷ []) → n ≤ 1_148
certificate_size f out body run n h =
    let t = certificate_wrote f out body run (ap said h) in
    omega (arith, wrote_size t.1 h, certifies_size f body run t.0)

-- The certificate reader accepts exactly what the certificate writer can write
pub exactly : (f : ℕ) (m : List ℕ) → Bytes m → ((read_certificate f m).number ≡ 0)
    ↔ ((out : List ℕ) × (body : List ℕ) × (run : List ℕ) × ((write_certificate f out body run).answer.number ≡ 0) × (made (write_certificate f out body run) ≡ m))
exactly f m bs = (
  (λ h. let w = certificate_rewritten f m m bs h (omega arith) in (m, inside m, votes_in m, ap told w, ap made w ∙ cut_put m 0 m (omega arith))),
  (λ w. rw w.4 at (ap said (certificate_trip f w.0 w.1 w.2 w.3).0)),
)

-- the n votes that a certificate is accepted with: those of n different machines of the committee, at least 2f + 1
pub record Voters (f : ℕ) (m : List ℕ) (n : ℕ) : Type 0 where
  pub count : votes m ≡ n
  pub machines : length (signers_in m) ≡ n
  pub different : Distinct (signers_in m)
  pub members : (k : ℕ) → In k (signers_in m) → k ≤ 3 * f
  pub quorum : 2 * f + 1 ≤ n
