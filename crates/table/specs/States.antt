-- 01, Examples: the states of the table, byte by byte. None of these bytes is made by a definition that the contracts cite.
use Rattle.std.specs.Prelude.{ℕ, List, [], ◌∷◌, ◌++◌, ℤ}
use Rattle.wire.specs.Refusals.{gives}
use Rattle.records.specs.Answers.{AccountShown}
use Rattle.table.specs.Papers.{zeros, e1, body, amount_2000, sequence_0}

-- a state of machine 0 with f = 1: the last funding index (2), four zeros, then 64 records, all out of use but those of accounts 2 and 7
abbrev pub state : List ℕ → List ℕ → List ℕ → List ℕ
state index two seven = 0x01 ∷ 0x00 ∷ (index ++ zeros 4 ++ zeros 144 ++ two ++ zeros 288 ++ seven ++ zeros 4_032)

abbrev pub index_0 : List ℕ
index_0 = 0x00 ∷ 0x00 ∷ []

abbrev pub index_1 : List ℕ
index_1 = 0x00 ∷ 0x01 ∷ []

-- records: in use, pending length, next sequence (2), balance (8), then 60 bytes: the pending body, zeros behind it. Out of use
abbrev pub unused : List ℕ
unused = zeros 72

-- account 2 at 2,000, with nothing pending
abbrev pub two_funded : List ℕ
two_funded =
    0x01 ∷ 0x00 ∷ 0x00 ∷ 0x00
    ∷ 0x00 ∷ 0x00 ∷ 0x00 ∷ 0x00 ∷ 0x00 ∷ 0x00 ∷ 0x07 ∷ 0xD0
    ∷ zeros 60

-- account 2 at 2,000, with a body of 25 bytes pending
abbrev pub two_pending : List ℕ → List ℕ
two_pending b =
    0x01 ∷ 0x19 ∷ 0x00 ∷ 0x00
    ∷ 0x00 ∷ 0x00 ∷ 0x00 ∷ 0x00 ∷ 0x00 ∷ 0x00 ∷ 0x07 ∷ 0xD0
    ∷ (b ++ zeros 35)

-- account 2 at 500, next 1
abbrev pub two_paid : List ℕ
two_paid =
    0x01 ∷ 0x00 ∷ 0x00 ∷ 0x01
    ∷ 0x00 ∷ 0x00 ∷ 0x00 ∷ 0x00 ∷ 0x00 ∷ 0x00 ∷ 0x01 ∷ 0xF4
    ∷ zeros 60

-- account 2 at -1,500, next 1
abbrev pub two_negative : List ℕ
two_negative =
    0x01 ∷ 0x00 ∷ 0x00 ∷ 0x01
    ∷ 0xFF ∷ 0xFF ∷ 0xFF ∷ 0xFF ∷ 0xFF ∷ 0xFF ∷ 0xFA ∷ 0x24
    ∷ zeros 60

-- account 7 at 1,500
abbrev pub seven_paid : List ℕ
seven_paid =
    0x01 ∷ 0x00 ∷ 0x00 ∷ 0x00
    ∷ 0x00 ∷ 0x00 ∷ 0x00 ∷ 0x00 ∷ 0x00 ∷ 0x00 ∷ 0x05 ∷ 0xDC
    ∷ zeros 60

-- the states that the rows leave
abbrev pub fresh_machine : List ℕ
fresh_machine = state index_0 unused unused

abbrev pub after_e2 : List ℕ
after_e2 = state index_1 two_funded unused

abbrev pub after_e4 : List ℕ
after_e4 = state index_1 (two_pending e1) unused

abbrev pub after_e6 : List ℕ
after_e6 = state index_1 (two_pending (body amount_2000 sequence_0)) unused

abbrev pub after_e7 : List ℕ
after_e7 = state index_1 two_paid seven_paid

abbrev pub after_e9 : List ℕ
after_e9 = state index_0 two_negative seven_paid

-- the reading of an account in use: next sequence, free to spend, balance
abbrev pub reads : ℕ → ℕ → ℤ → AccountShown
reads next free balance = record { answer = gives (1 ∷ next ∷ free ∷ []); balance = balance }
