-- A state that is noted already. Assumes nothing.
use Prim.Native.Nat.{ℕ}
use mathlib.Core.Path.{◌≡◌, refl, sym}
use mathlib.Core.List.{List}
use native.Mathlib.Omega.{arith}
use lib.ListN.{length}
use borrow.Author.Tests.{le-leb}
use Rattle.octets.proofs.Laws.{put_all}
use Rattle.keeping.specs.Saving.{noted}

pub noted_same : (state before : List ℕ) → state ≡ before → before ≡ noted state before
noted_same state before e = rw (e, le-leb (length before) (length before) (omega arith)) (sym (put_all before before refl))
