-- 01, Examples: the messages of the table, byte by byte. None of these bytes is made by a definition that the contracts cite.
use Rattle.std.specs.Prelude.{ℕ, List, [], ◌∷◌, ◌++◌, replicate}
use Rattle.wire.specs.declared.kinds.Payment.{Payment}
use Rattle.wire.specs.declared.kinds.Funding.{Funding}

abbrev pub zeros : ℕ → List ℕ
zeros n = replicate n 0x00

-- what a lent buffer holds before the call
abbrev pub lent : ℕ → List ℕ
lent n = replicate n 0xAA

-- n good verdicts
abbrev pub good : ℕ → List ℕ
good n = replicate n 0x01

-- E1: 01 0001 02 02 0003 00 0007 03 0004 000005DC 04 0002 0000 05 0000
abbrev pub e1 : List ℕ
e1 =
    0x01 ∷ 0x00 ∷ 0x01 ∷ 0x02
    ∷ 0x02 ∷ 0x00 ∷ 0x03 ∷ 0x00 ∷ 0x00 ∷ 0x07
    ∷ 0x03 ∷ 0x00 ∷ 0x04 ∷ 0x00 ∷ 0x00 ∷ 0x05 ∷ 0xDC
    ∷ 0x04 ∷ 0x00 ∷ 0x02 ∷ 0x00 ∷ 0x00
    ∷ 0x05 ∷ 0x00 ∷ 0x00
    ∷ []

-- E2: 30 0002 0001 31 0001 02 32 0004 000007D0
abbrev pub e2 : List ℕ
e2 =
    0x30 ∷ 0x00 ∷ 0x02 ∷ 0x00 ∷ 0x01
    ∷ 0x31 ∷ 0x00 ∷ 0x01 ∷ 0x02
    ∷ 0x32 ∷ 0x00 ∷ 0x04 ∷ 0x00 ∷ 0x00 ∷ 0x07 ∷ 0xD0
    ∷ []

-- E1 with another amount (4) and sequence (2)
abbrev pub body : List ℕ → List ℕ → List ℕ
body amount sequence =
    0x01 ∷ 0x00 ∷ 0x01 ∷ 0x02
    ∷ 0x02 ∷ 0x00 ∷ 0x03 ∷ 0x00 ∷ 0x00 ∷ 0x07
    ∷ 0x03 ∷ 0x00 ∷ 0x04 ∷ (amount
    ++ 0x04 ∷ 0x00 ∷ 0x02 ∷ (sequence
    ++ 0x05 ∷ 0x00 ∷ 0x00
    ∷ []))

-- E2 with another amount
abbrev pub funding : List ℕ → List ℕ
funding amount = 0x30 ∷ 0x00 ∷ 0x02 ∷ 0x00 ∷ 0x01 ∷ 0x31 ∷ 0x00 ∷ 0x01 ∷ 0x02 ∷ 0x32 ∷ 0x00 ∷ 0x04 ∷ amount

abbrev pub amount_0 : List ℕ
amount_0 = 0x00 ∷ 0x00 ∷ 0x00 ∷ 0x00 ∷ []

abbrev pub amount_1500 : List ℕ
amount_1500 = 0x00 ∷ 0x00 ∷ 0x05 ∷ 0xDC ∷ []

abbrev pub amount_1501 : List ℕ
amount_1501 = 0x00 ∷ 0x00 ∷ 0x05 ∷ 0xDD ∷ []

abbrev pub amount_2000 : List ℕ
amount_2000 = 0x00 ∷ 0x00 ∷ 0x07 ∷ 0xD0 ∷ []

abbrev pub amount_2001 : List ℕ
amount_2001 = 0x00 ∷ 0x00 ∷ 0x07 ∷ 0xD1 ∷ []

abbrev pub amount_1000000001 : List ℕ
amount_1000000001 = 0x3B ∷ 0x9A ∷ 0xCA ∷ 0x01 ∷ []

abbrev pub sequence_0 : List ℕ
sequence_0 = 0x00 ∷ 0x00 ∷ []

abbrev pub sequence_1 : List ℕ
sequence_1 = 0x00 ∷ 0x01 ∷ []

-- the values that the writers take: E1's and E2's, with any amount
abbrev pub pays : ℕ → Payment
pays amount = record { sender = record { 0 = 2 }; kind = 0; recipient = 7; amount = amount; sequence = record { 0 = 0 } }

abbrev pub funds : ℕ → Funding
funds amount = record { index = record { 0 = 1 }; account = record { 0 = 2 }; amount = amount }

-- an order of a body of 25 bytes. The host checks signatures, so any 64 bytes will do
abbrev pub order_of : List ℕ → List ℕ
order_of b = 0x10 ∷ 0x00 ∷ 0x19 ∷ (b ++ 0x11 ∷ 0x00 ∷ 0x40 ∷ zeros 64)

-- the votes of these machines, each in its field
abbrev pub votes : List ℕ → List ℕ
votes [] = []
votes (k ∷ ks) = 0x21 ∷ 0x00 ∷ 0x41 ∷ k ∷ (zeros 64 ++ votes ks)

-- a certificate of a body of 25 bytes with the votes of these machines
abbrev pub certificate_of : List ℕ → List ℕ → List ℕ
certificate_of b machines = 0x20 ∷ 0x00 ∷ 0x19 ∷ (b ++ votes machines)
