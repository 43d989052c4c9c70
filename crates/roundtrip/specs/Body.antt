-- Bodies: one that was written is read back, and one that was read is written again, byte for byte. Assumes nothing.
use Rattle.std.specs.Prelude.{ℕ, ◌-◌, ◌≤◌, ◌≡◌, refl, true, List, [], ◌∷◌, ◌++◌, length, drop}
use Rattle.std.proofs.Common.{sym, ap, ◌∙◌, append-nil, arith, lit<, leb-true}
use Rattle.std.proofs.Math.Seq.{take-length, drop-length}
use Rattle.octets.specs.Octets.{one, two, four, number, bytes, cut}
use Rattle.wire.specs.Numbers.{is_note}
use Rattle.wire.specs.Fields.{field, laid}
use Rattle.wire.specs.Messages.{body_fields, payment, note_in, is_payment, body_bytes}
use Rattle.wire.specs.Refusals.{gives, refuses, payment_values}
use Rattle.wire.specs.Readers.{read_payment, read_body, is_body, note_held}
use Rattle.wire.specs.Writers.{unwritten, write_body}
use Rattle.wire.specs.declared.kinds.Payment.{Payment}
use Rattle.octets.proofs.TestLaws.{both}
use Rattle.wire.proofs.FieldLaws.{Bytes, ends_laid, number_written, bytes_number, cut_join, drop_field, drop_sized, ends_sized, ends_last}
use Rattle.wire.proofs.Laid.{BodyLaid, body_laid, note_fits}
use Rattle.writing.proofs.Written.{length_body, PaymentFits, payment_fits}
use Rattle.messages.proofs.Told.{payment_same}
use Rattle.roundtrip.specs.Answers.{through, said, told, wrote, Wrote, has_room, comes_to_write}

-- the bytes of a body have its fields
pub body_written : (p : Payment) (note : List ℕ) → length note ≤ 32 → laid (body_bytes p note) body_fields ≡ true
unfolding body_bytes bytes
body_written p note h =
    let m = body_bytes p note in
    let f₁ = field 0x01 (bytes one p.sender.0) in
    let f₂ = field 0x02 (bytes one p.kind ++ bytes two p.recipient) in
    let f₃ = field 0x03 (bytes four p.amount) in
    let f₄ = field 0x04 (bytes two p.sequence.0) in
    ends_laid m body_fields (omega (arith, length_body p note))
    (ends_sized m [] (bytes one p.sender.0) (f₂ ++ (f₃ ++ (f₄ ++ field 0x05 note))) 0 0x01 1 4 (drop 1 body_fields) refl refl refl refl (lit< tt) (lit< tt)
    ∙ ends_sized m f₁ (bytes one p.kind ++ bytes two p.recipient) (f₃ ++ (f₄ ++ field 0x05 note)) 4 0x02 3 10 (drop 2 body_fields) refl refl refl refl (lit< tt) (lit< tt)
    ∙ ends_sized m (f₁ ++ f₂) (bytes four p.amount) (f₄ ++ field 0x05 note) 10 0x03 4 17 (drop 3 body_fields) refl refl refl refl (lit< tt) (lit< tt)
    ∙ ends_sized m (f₁ ++ (f₂ ++ f₃)) (bytes two p.sequence.0) (field 0x05 note) 17 0x04 2 22 (drop 4 body_fields) refl refl refl refl (lit< tt) (lit< tt)
    ∙ ends_last m (f₁ ++ (f₂ ++ (f₃ ++ f₄))) note 22 0x05 0 32 refl refl (lit< tt) (omega arith) (omega arith) h)

-- the values of a body that was written are read back
pub payment_written : (p : Payment) (note : List ℕ) → PaymentFits p → payment (body_bytes p note) ≡ p
unfolding payment body_bytes bytes
payment_written p note f =
    let m = body_bytes p note in
    let f₁ = field 0x01 (bytes one p.sender.0) in
    let f₂ = field 0x02 (bytes one p.kind ++ bytes two p.recipient) in
    let f₃ = field 0x03 (bytes four p.amount) in
    let f₄ = field 0x04 (bytes two p.sequence.0) in
    let f₅ = field 0x05 note in
    let sender : number one m 3 ≡ p.sender.0 = number_written one (0x01 ∷ bytes two 1) p.sender.0 (f₂ ++ (f₃ ++ (f₄ ++ f₅))) f.sender in
    let kind : number one m 7 ≡ p.kind = number_written one (f₁ ++ (0x02 ∷ bytes two 3)) p.kind (bytes two p.recipient ++ (f₃ ++ (f₄ ++ f₅))) f.kind in
    let recipient : number two m 8 ≡ p.recipient = number_written two (f₁ ++ (0x02 ∷ bytes two 3) ++ bytes one p.kind) p.recipient (f₃ ++ (f₄ ++ f₅)) f.recipient in
    let amount : number four m 13 ≡ p.amount = number_written four (f₁ ++ (f₂ ++ (0x03 ∷ bytes two 4))) p.amount (f₄ ++ f₅) f.amount in
    let sequence : number two m 20 ≡ p.sequence.0 = number_written two (f₁ ++ (f₂ ++ (f₃ ++ (0x04 ∷ bytes two 2)))) p.sequence.0 f₅ f.sequence in
    λ i. record { sender = record { 0 = sender i }; kind = kind i; recipient = recipient i; amount = amount i; sequence = record { 0 = sequence i } }

-- so is the note
pub note_written : (p : Payment) (note : List ℕ) → note_in (body_bytes p note) ≡ note
unfolding body_bytes bytes
note_written p note =
    let e : length (body_bytes p note) - 25 ≡ length note = omega (arith, length_body p note) in
    ap (λ (n : ℕ). cut (body_bytes p note) 25 n) e ∙ take-length note

-- a body that was written is read back
pub body_read_back : (p : Payment) (note : List ℕ) → is_payment p ≡ true → is_note (length note) ≡ true
    → read_body (body_bytes p note) ≡ record { answer = gives (payment_values p); note = note_held note }
unfolding read_body read_payment
body_read_back p note h k =
    rw (body_written p note (leb-true _ _ k), payment_written p note (payment_fits p h), h, note_written p note)

-- a body that was read is, byte for byte, its values and its note written
pub body_bytes_lem : (b : List ℕ) → Bytes b → is_body b ≡ true → body_bytes (payment b) (note_in b) ≡ b
unfolding payment body_bytes
body_bytes_lem b bs h =
    let l : BodyLaid b = body_laid b (both (laid b body_fields) _ h).0 in
    let least : 25 ≤ length b = l.least in
    let sender : bytes one (number one b 3) ≡ cut b 3 1 = bytes_number one b 3 bs (omega arith) in
    let kind : bytes one (number one b 7) ≡ cut b 7 1 = bytes_number one b 7 bs (omega arith) in
    let recipient : bytes two (number two b 8) ≡ cut b 8 2 = bytes_number two b 8 bs (omega arith) in
    let amount : bytes four (number four b 13) ≡ cut b 13 4 = bytes_number four b 13 bs (omega arith) in
    let sequence : bytes two (number two b 20) ≡ cut b 20 2 = bytes_number two b 20 bs (omega arith) in
    let join : cut b 7 1 ++ cut b 8 2 ≡ cut b 7 3 = cut_join b 7 1 8 2 3 refl refl in
    let from₄ : drop 4 b ≡ field 0x02 (cut b 7 3) ++ drop 10 b = drop_sized b 4 0x02 3 10 bs l.recipient refl in
    let from₁₀ : drop 10 b ≡ field 0x03 (cut b 13 4) ++ drop 17 b = drop_sized b 10 0x03 4 17 bs l.amount refl in
    let from₁₇ : drop 17 b ≡ field 0x04 (cut b 20 2) ++ drop 22 b = drop_sized b 17 0x04 2 22 bs l.sequence refl in
    let from₂₂ : drop 22 b ≡ field 0x05 (note_in b) ++ drop (length b) b = drop_field b 22 0x05 0 32 (length b - 25) (length b) bs l.note l.note_size (omega arith) in
    rw (sender, kind, recipient, amount, sequence, join)
    (sym (drop_sized b 0 0x01 1 4 bs l.sender refl ∙ rw (from₄, from₁₀, from₁₇, from₂₂, drop-length b, append-nil (field 0x05 (note_in b)))))

-- where the writer does not refuse, its tests hold and it writes the bytes
pub body_wrote : (out : List ℕ) (p : Payment) (note : List ℕ) → told (write_body out p note) ≡ 0
    → (is_payment p ≡ true) × (is_note (length note) ≡ true) × Wrote (write_body out p note) out (body_bytes p note)
unfolding write_body
body_wrote out p note h =
    let a = through told (is_payment p) (unwritten 2 out) _ (lit< tt) h in
    let b = through told (is_note (length note)) (unwritten 2 out) _ (lit< tt) a.1 in
    (a.0, b.0, comes_to_write _ out (body_bytes p note) (rw (a.0, b.0)) b.1)

-- a reader that gives values found a body, and they are the body's
pub payment_given : (b : List ℕ) (p : Payment) → read_payment b ≡ gives (payment_values p) → (is_body b ≡ true) × (payment b ≡ p)
unfolding read_payment
payment_given b p h =
    let l = through said (laid b body_fields) (refuses 1) _ (lit< tt) (ap said h) in
    let i = through said (is_payment (payment b)) (refuses 2) _ (lit< tt) l.1 in
    (rw (l.0, i.0), payment_same (payment b) p (rw (l.0, i.0) at h))

-- from these values and its note it is written again byte for byte
pub body_again : (b out : List ℕ) → Bytes b → is_body b ≡ true → length b ≤ length out → write_body out (payment b) (note_in b) ≡ wrote out b
unfolding write_body
body_again b out bs h fits =
    let t = both (laid b body_fields) (is_payment (payment b)) h in
    rw (t.1, note_fits b t.0, body_bytes_lem b bs h) (has_room out b fits)
