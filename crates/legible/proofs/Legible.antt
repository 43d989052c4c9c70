-- What is printed can be read. Assumes nothing.
use Prim.Native.Nat.{ℕ}
use mathlib.Core.List.{List}
use native.Mathlib.Omega.{arith}
use Rattle.octets.specs.Octets.{two}
use Rattle.octets.proofs.Laws.{number_lt}
use Rattle.lines.specs.declared.serving.Role.{Role}
use Rattle.legible.specs.Theorems.{Bytes, Legible}
use Rattle.legible.specs.Pieces.{Fits}
use Rattle.legible.proofs.ReadBack.{hexadecimal_back, decimal_back}
use Rattle.legible.proofs.Short.{machine_short, ledger_short}
use Rattle.legible.proofs.Pages.{said_answer}

-- bytes make a number of two bytes
bytes_fit : (role : Role) (s : List ℕ) → Bytes s → Fits role s
bytes_fit Role.Machine s all = tt
bytes_fit Role.Ledger s all = let most = number_lt two s 2 all in omega (arith, most)

pub legible : Legible
legible = record {
  hexadecimal_back = hexadecimal_back;
  decimal_back = λ n h. decimal_back n (omega arith);
  machine_short = λ s line. let h = machine_short s line in omega arith;
  ledger_short = λ s line all. let h = ledger_short s line (bytes_fit Role.Ledger s all) in omega arith;
  whole = λ role d line all room. said_answer role d line (bytes_fit role d.state all) room;
}
