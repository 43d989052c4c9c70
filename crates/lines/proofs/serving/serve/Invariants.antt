use Prim.Native.Nat.{◌-◌, ◌≤◌}
use mathlib.Core.Path.{◌≡◌}
use lib.ListN.{length}
use Rattle.text.specs.Pages.{page}
use Rattle.lines.specs.Calls.{desk}
use Rattle.lines.specs.Serving.{served}
use Rattle.lines.proofs.ServingLaws.{Left}
use Rattle.lines.proofs.serving.serve.Given as goal

abbrev pub invariant-loop-role : goal.invariant-loop-role
invariant-loop-role l =
    (l.from ≤ length l.input)
    × (l.page.bytes.ghost_name ≡ l.initial.page.bytes.ghost_name)
    × (length l.page.bytes.now ≡ length l.initial.page.bytes.now)
    × Left l.role l.input l.from (desk l.state (page l.page.bytes.now l.page.length)) (served l.role l.input (desk l.initial.state (page l.initial.page.bytes.now l.initial.page.length)))

abbrev pub decreases-loop-role : goal.decreases-loop-role
decreases-loop-role l = length l.input - l.from
