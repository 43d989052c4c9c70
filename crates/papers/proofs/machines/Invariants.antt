use Prim.Native.Nat.{◌+◌, ◌*◌, ◌-◌}
use mathlib.Core.Path.{◌≡◌}
use Rattle.wire.specs.Votes.{signers}
use Rattle.text.specs.Pages.{page, said}
use Rattle.papers.specs.Papers.{machines_named}
use Rattle.papers.proofs.machines.Given as goal

abbrev pub invariant-loop-i : goal.invariant-loop-i
invariant-loop-i l =
    (l.page.bytes.ghost_name ≡ l.initial.page.bytes.ghost_name)
    × (said (page l.page.bytes.now l.page.length) (machines_named (signers l.message (l.place + 68 * l.i) 68 (l.n - l.i))) ≡ said (page l.initial.page.bytes.now l.initial.page.length) (machines_named (signers l.message l.place 68 l.n)))
