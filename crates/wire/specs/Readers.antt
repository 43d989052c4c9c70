-- 01, Messages, the last paragraph, and the order of checks under Refusal numbers: what each reader answers.
use Rattle.std.specs.Prelude.{ℕ, Bool, ◌&&◌, ◌||◌, List, [], ◌∷◌, length, take, replicate, eqb, Result, Ok, Err}
use Rattle.octets.specs.Octets.{put}
use Rattle.wire.specs.Numbers.{is_faults}
use Rattle.octets.specs.Tests.{need}
use Rattle.wire.specs.Fields.{size, laid}
use Rattle.wire.specs.Messages.{body_fields, payment, is_payment, note_in, order_fields, certificate_fields, inside, signature_in, funding_fields, funding, is_funding}
use Rattle.wire.specs.Votes.{Committee, committee, votes, signers_in, known, rising, good}
use Rattle.wire.specs.Refusals.{Said, gives, refuses, refusal_number, payment_values, funding_values}
use Rattle.wire.specs.declared.kinds.Note.{Note}
use Rattle.wire.specs.declared.answers.Refusal.{Refusal}
use Rattle.wire.specs.declared.answers.Body.{Body}
use Rattle.wire.specs.declared.answers.Order.{Order}
use Rattle.wire.specs.declared.answers.Stretch.{Stretch}

-- a body's values, or 1, then 2
unfoldable pub read_payment : List ℕ → Said
read_payment b =
    need (laid b body_fields) (refuses 1)
    (need (is_payment (payment b)) (refuses 2)
    (gives (payment_values (payment b))))

-- a body that its reader accepts
abbrev pub is_body : List ℕ → Bool
is_body b = laid b body_fields && is_payment (payment b)

-- an order that its reader accepts
abbrev pub is_order : List ℕ → Bool
is_order m = laid m order_fields && is_body (inside m)

-- bytes in an array of n, zeros after them
abbrev pub held : ℕ → List ℕ → List ℕ
held n bs = put (replicate n 0) 0 bs

-- a note in its array of 32, with its length
abbrev pub note_held : List ℕ → Note
note_held bs = record { length = length bs; bytes = held 32 bs }

-- all that the reader of a body gives: the answer, and the note beside it
pub record BodyShown : Type 0 where
  pub answer : Said
  pub note : Note

-- what is read of a body; a refusal has no note
abbrev pub body_shown : Result Body Refusal → BodyShown
body_shown (Ok b) = record { answer = gives (payment_values b.payment); note = b.note }
body_shown (Err r) = record { answer = refuses (refusal_number r); note = note_held [] }

-- the reader of a body: its values, the note's bytes too; a refusal has no note
unfoldable pub read_body : List ℕ → BodyShown
read_body b = record { answer = read_payment b; note = note_held (need (is_body b) [] (note_in b)) }

-- all that the reader of an order gives
pub record OrderShown : Type 0 where
  pub answer : Said
  pub note : Note
  pub signature : List ℕ

-- what is read of an order; a refusal has no note, and zeros for a signature
abbrev pub order_shown : Result Order Refusal → OrderShown
order_shown (Ok o) = record { answer = gives (payment_values o.payment); note = o.note; signature = o.signature }
order_shown (Err r) = record { answer = refuses (refusal_number r); note = note_held []; signature = held 64 [] }

-- an order's payment, or 1 on the whole message, then 2
abbrev pub read_order_payment : List ℕ → Said
read_order_payment m = need (laid m order_fields) (refuses 1) (read_payment (inside m))

-- the reader of an order: its payment, the note and the signature; a refusal has neither of these
unfoldable pub read_order : List ℕ → OrderShown
read_order m = record {
  answer = read_order_payment m;
  note = note_held (need (is_order m) [] (note_in (inside m)));
  signature = held 64 (need (is_order m) [] (signature_in m));
}

-- the reader of a funding order: its values, or 1, then 2
unfoldable pub read_funding : List ℕ → Said
read_funding m =
    need (laid m funding_fields) (refuses 1)
    (need (is_funding (funding m)) (refuses 2)
    (gives (funding_values (funding m))))

-- the certificate reader for a committee: 1, 2, 5, 6, 7, without verdicts; otherwise the number of machines, and the payment
unfoldable pub read_certificate_of : Committee → List ℕ → Said
read_certificate_of c m =
    need (laid m certificate_fields) (refuses 1)
    (need (laid (inside m) body_fields) (refuses 1)
    (need (is_payment (payment (inside m))) (refuses 2)
    (need (known c.last (signers_in m)) (refuses 5)
    (need (rising (signers_in m)) (refuses 6)
    (need (c.quorum (signers_in m)) (refuses 7)
    (gives (length (signers_in m) ∷ payment_values (payment (inside m)))))))))

-- the certificate reader takes f and refuses 2 for f first
abbrev pub read_certificate : ℕ → List ℕ → Said
read_certificate f m = need (is_faults f) (refuses 2) (read_certificate_of (committee f) m)

-- a certificate judged with its verdicts: 1 on the whole message; 2; 3; then over all votes 5, then 6, then 4, then 7
unfoldable pub judged_by : Committee → List ℕ → List ℕ → Said
judged_by c m verdicts =
    need (laid m certificate_fields) (refuses 1)
    (need (laid (inside m) body_fields) (refuses 1)
    (need (is_payment (payment (inside m))) (refuses 2)
    (need (eqb (length verdicts) (votes m)) (refuses 3)
    (need (known c.last (signers_in m)) (refuses 5)
    (need (rising (signers_in m)) (refuses 6)
    (need (good verdicts) (refuses 4)
    (need (c.quorum (signers_in m)) (refuses 7)
    (gives (length (signers_in m) ∷ payment_values (payment (inside m)))))))))))

-- the judged certificate takes f and refuses 2 for f first
abbrev pub judged : ℕ → List ℕ → List ℕ → Said
judged f m verdicts = need (is_faults f) (refuses 2) (judged_by (committee f) m verdicts)

-- the answer without the payment
abbrev pub count_of : Said → Said
count_of said = record { number = said.number; values = take 1 said.values }

-- the stretch that votes cover: the body inside an order or a certificate, or an empty part where it is neither of these or has 1 or 2
unfoldable pub covered : List ℕ → List ℕ
covered m =
    need (laid m order_fields || laid m certificate_fields) []
    (need (is_body (inside m)) []
    (inside m))

-- an empty stretch
abbrev pub nowhere : Stretch
nowhere = record { place = 0; length = 0 }

-- the same stretch by its place and length
unfoldable pub covered_at : List ℕ → Stretch
covered_at m =
    need (laid m order_fields || laid m certificate_fields) nowhere
    (need (is_body (inside m)) nowhere
    (record { place = 3; length = size m 0 }))
