-- 01, Rules, Writers: what each writer answers, and every byte of the output afterwards. Bytes beyond what is written stay.
use Rattle.std.specs.Prelude.{ℕ, ◌%◌, List, [], ◌∷◌, length, leb, eqb, Result}
use Rattle.octets.specs.Octets.{put}
use Rattle.wire.specs.Numbers.{is_faults, is_note}
use Rattle.octets.specs.Tests.{need}
use Rattle.wire.specs.Fields.{laid}
use Rattle.wire.specs.Messages.{body_fields, payment, is_payment, body_bytes, order_bytes, is_funding, funding_bytes}
use Rattle.wire.specs.Votes.{Committee, committee, signers_of, known, rising, certificate_bytes}
use Rattle.wire.specs.Refusals.{Said, gives, refuses, write_said}
use Rattle.wire.specs.declared.kinds.Payment.{Payment}
use Rattle.wire.specs.declared.kinds.Funding.{Funding}
use Rattle.wire.specs.declared.answers.Refusal.{Refusal}

-- an answer, and the output afterwards
pub record Written : Type 0 where
  pub answer : Said
  pub out : List ℕ

abbrev pub written : Result ℕ Refusal → List ℕ → Written
written a out = record { answer = write_said a; out = out }

-- a refusal writes nothing
abbrev pub unwritten : ℕ → List ℕ → Written
unwritten n out = record { answer = refuses n; out = out }

-- 18 where the output is too small; otherwise the bytes stand at its start
unfoldable pub writes : List ℕ → List ℕ → Written
writes out bs = need (leb (length bs) (length out)) (unwritten 18 out) (record { answer = gives (length bs ∷ []); out = put out 0 bs })

-- the writer of a body: 2, also for a note above 32 bytes, then 18
unfoldable pub write_body : List ℕ → Payment → List ℕ → Written
write_body out p note =
    need (is_payment p) (unwritten 2 out)
    (need (is_note (length note)) (unwritten 2 out)
    (writes out (body_bytes p note)))

-- the writer of an order: 2, also for a note above 32 bytes or a signature not of 64, then 18
unfoldable pub write_order : List ℕ → Payment → List ℕ → List ℕ → Written
write_order out p note signature =
    need (is_payment p) (unwritten 2 out)
    (need (is_note (length note)) (unwritten 2 out)
    (need (eqb (length signature) 64) (unwritten 2 out)
    (writes out (order_bytes p note signature))))

-- the writer of a funding order: 2, then 18
unfoldable pub write_funding : List ℕ → Funding → Written
write_funding out o =
    need (is_funding o) (unwritten 2 out)
    (writes out (funding_bytes o))

-- the votes of the certificate writer, once its body is in order: 5, 6, 7, then 18
unfoldable pub write_voted_of : Committee → List ℕ → List ℕ → List ℕ → Written
write_voted_of c out body run =
    need (known c.last (signers_of run)) (unwritten 5 out)
    (need (rising (signers_of run)) (unwritten 6 out)
    (need (c.quorum (signers_of run)) (unwritten 7 out)
    (writes out (certificate_bytes body run))))

-- the same, of the committee that f makes
abbrev pub write_voted : ℕ → List ℕ → List ℕ → List ℕ → Written
write_voted f = write_voted_of (committee f)

-- the certificate writer takes f, a body and a run of 65-byte votes: f above 5 gives 2; an ill-formed body or a run not divisible
-- by 65 gives 1; a body value out of range 2; then 5, 6, 7, 18
unfoldable pub write_certificate : ℕ → List ℕ → List ℕ → List ℕ → Written
write_certificate f out body run =
    need (is_faults f) (unwritten 2 out)
    (need (eqb (length run % 65) 0) (unwritten 1 out)
    (need (laid body body_fields) (unwritten 1 out)
    (need (is_payment (payment body)) (unwritten 2 out)
    (write_voted f out body run))))
