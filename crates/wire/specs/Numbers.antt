-- 01, Numbers: the range of each, as a test.
use Rattle.std.specs.Prelude.{ℕ, zero, suc, ◌*◌, Bool, false, ◌&&◌, leb}

-- f is 0..5
abbrev pub is_faults : ℕ → Bool
is_faults f = leb f 5

-- machines are numbered 0..3f
abbrev pub is_machine : ℕ → ℕ → Bool
is_machine f k = is_faults f && leb k (3 * f)

-- accounts 0..63
abbrev pub is_account : ℕ → Bool
is_account a = leb a 63

-- ledger accounts 0..65,535
abbrev pub is_ledger_account : ℕ → Bool
is_ledger_account n = leb n 65_535

-- a recipient's kind and number: 0 account, 1 ledger
abbrev pub is_recipient : ℕ → ℕ → Bool
is_recipient zero n = is_account n
is_recipient (suc zero) n = is_ledger_account n
is_recipient (suc (suc kind)) n = false

-- amount 1..1,000,000,000
abbrev pub is_amount : ℕ → Bool
is_amount v = leb 1 v && leb v 1_000_000_000

-- sequence 0..4,095
abbrev pub is_sequence : ℕ → Bool
is_sequence s = leb s 4_095

-- funding index 1..65,535
abbrev pub is_index : ℕ → Bool
is_index i = leb 1 i && leb i 65_535

-- note 0..32 bytes
abbrev pub is_note : ℕ → Bool
is_note n = leb n 32

-- message at most 1,148 bytes
abbrev pub is_message : ℕ → Bool
is_message n = leb n 1_148
