-- 01, Messages: which fields each message has, and where its values stand. Tags are hexadecimal.
use Rattle.std.specs.Prelude.{ℕ, ◌+◌, ◌-◌, Bool, ◌&&◌, List, [], ◌∷◌, ◌++◌, length}
use Rattle.octets.specs.Octets.{one, two, four, number, bytes, cut}
use Rattle.wire.specs.Numbers.{is_account, is_recipient, is_amount, is_sequence, is_index}
use Rattle.wire.specs.Fields.{field, Want, want, want_all}
use Rattle.wire.specs.declared.kinds.Payment.{Payment}
use Rattle.wire.specs.declared.kinds.Funding.{Funding}

-- Body: 01 sender, length 1. 02 recipient, length 3. 03 amount, length 4. 04 sequence, length 2. 05 note, length 0..32
abbrev pub body_fields : List Want
body_fields = want 0x01 1 1 ∷ want 0x02 3 3 ∷ want 0x03 4 4 ∷ want 0x04 2 2 ∷ want 0x05 0 32 ∷ []

-- what a body says, the note apart. The recipient is a kind, then a two-byte number
unfoldable pub payment : List ℕ → Payment
payment b = record {
  sender = record { 0 = number one b 3 };
  kind = number one b 7;
  recipient = number two b 8;
  amount = number four b 13;
  sequence = record { 0 = number two b 20 };
}

-- the note: what stands behind its header
abbrev pub note_in : List ℕ → List ℕ
note_in b = cut b 25 (length b - 25)

-- a body's values are in range
unfoldable pub is_payment : Payment → Bool
is_payment p = is_account p.sender.0 && (is_recipient p.kind p.recipient && (is_amount p.amount && is_sequence p.sequence.0))

-- the bytes of a body
unfoldable pub body_bytes : Payment → List ℕ → List ℕ
body_bytes p note =
    field 0x01 (bytes one p.sender.0)
    ++ (field 0x02 (bytes one p.kind ++ bytes two p.recipient)
    ++ (field 0x03 (bytes four p.amount)
    ++ (field 0x04 (bytes two p.sequence.0)
    ++ field 0x05 note)))

-- Order: 10 holding a body, 11 holding the sender's signature, length 64
abbrev pub order_fields : List Want
order_fields = want 0x10 25 57 ∷ want 0x11 64 64 ∷ []

-- Certificate: 20 holding a body, then any number of 21, length 65: machine number, 64 signature bytes
abbrev pub certificate_fields : List Want
certificate_fields = want 0x20 25 57 ∷ want_all 0x21 65 ∷ []

-- the body inside field 10 or 20
abbrev pub inside : List ℕ → List ℕ
inside m = cut m 3 (number two m 1)

-- the signature of an order
abbrev pub signature_in : List ℕ → List ℕ
signature_in m = cut m (number two m 1 + 6) 64

-- the bytes of an order
unfoldable pub order_bytes : Payment → List ℕ → List ℕ → List ℕ
order_bytes p note signature = field 0x10 (body_bytes p note) ++ field 0x11 signature

-- Funding order: 30 index, length 2. 31 account, length 1. 32 amount, length 4
abbrev pub funding_fields : List Want
funding_fields = want 0x30 2 2 ∷ want 0x31 1 1 ∷ want 0x32 4 4 ∷ []

-- what a funding order says
unfoldable pub funding : List ℕ → Funding
funding m = record {
  index = record { 0 = number two m 3 };
  account = record { 0 = number one m 8 };
  amount = number four m 12;
}

-- its values are in range
unfoldable pub is_funding : Funding → Bool
is_funding o = is_index o.index.0 && (is_account o.account.0 && is_amount o.amount)

-- its bytes
unfoldable pub funding_bytes : Funding → List ℕ
funding_bytes o =
    field 0x30 (bytes two o.index.0)
    ++ (field 0x31 (bytes one o.account.0)
    ++ field 0x32 (bytes four o.amount))
