-- The day of the example is a run, its calls get the answers that stand there, and both payments are certain at its end. Assumes nothing.
use mathlib.Core.Path.{◌≡◌, refl}
use lib.Dec.{lit≤}
use lib.IntN.{pos, negsuc}
use Rattle.safety.specs.Demand3.{Run, Certain, Safe, Kept}
use Rattle.evidence.specs.Example.{answers, is_three, beginning, e1, payout, body_of, morning, day, day_answers, reached, balance}
use Rattle.safety.proofs.Demand3.{demand3}
use Rattle.evidence.proofs.Checking.{checked, begins, messages, machine_calls, ledger_calls}

-- the day is a run
pub day_runs : Run 1 is_three (reached day)
unfolding messages machine_calls ledger_calls
day_runs = checked 1 is_three beginning day (begins is_three) refl

-- so demand 3 speaks of it
pub day_safe : Safe 1 is_three (reached day) × Kept 1 is_three (reached day)
day_safe = demand3 1 (lit≤ tt) is_three (lit≤ tt) (reached day) day_runs

-- its calls get the answers that stand beside them
pub day_answers_lem : answers beginning day ≡ day_answers
unfolding messages machine_calls ledger_calls
day_answers_lem = refl

-- machine 2 shows account 2 at -1,500 after the early certificate, and at 500 at the end
pub day_balances : (balance (reached morning) 2 2 ≡ negsuc 1_499) × (balance (reached day) 2 2 ≡ pos 500)
unfolding messages machine_calls ledger_calls
day_balances = (refl, refl)

-- both payments are certain at the end
pub day_certain : Certain 1 is_three (reached day) (body_of e1) × Certain 1 is_three (reached day) (body_of payout)
unfolding messages machine_calls ledger_calls
day_certain = (lit≤ tt, lit≤ tt)
