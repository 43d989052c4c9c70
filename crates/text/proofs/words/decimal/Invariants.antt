use Prim.Native.Nat.{◌<◌}
use mathlib.Core.Path.{◌≡◌}
use lib.ListN.{drop}
use Rattle.text.specs.Words.{number_of, worth}
use Rattle.text.proofs.words.decimal.Given as goal

abbrev pub invariant-loop-byte : goal.invariant-loop-byte
invariant-loop-byte l =
    (l.value < 1_000_000_000_000_000_000) × (number_of l.word ≡ worth l.value (drop l.byte-index l.word))
