-- What a state file must be: well-formed in all of its parts, not in those alone that a call touches.
use Rattle.std.specs.Prelude.{ℕ, zero, suc, Bool, true, ◌&&◌, List}
use Rattle.records.specs.States as records
use Rattle.ledger.specs.States as logs
use Rattle.lines.specs.declared.serving.Role.{Role}

-- the records of the first n accounts
unfoldable pub are_records : ℕ → List ℕ → Bool
are_records zero s = true
are_records (suc n) s = are_records n s && records.is_formed records.base s n

-- a machine's state: length, header and all 64 records. Of the ledger's, every log is well formed
unfoldable pub is_file : Role → List ℕ → Bool
is_file Role.Machine s = records.is_state records.base s && are_records 64 s
is_file Role.Ledger s = logs.is_state logs.base s
