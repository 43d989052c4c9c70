use Prim.Native.Nat.{ℕ, suc, ◌+◌, ◌*◌, ◌-◌, ◌≤◌, ◌<◌}
use mathlib.Core.Path.{◌≡◌, sym, ◌∙◌}
use mathlib.Core.List.{List, [], ◌++◌}
use native.Mathlib.Omega.{arith}
use lib.ListN.{get_or}
use Rattle.octets.specs.Octets.{number}
use Rattle.wire.specs.Votes.{signers}
use Rattle.text.specs.Ascii.{ascii}
use Rattle.text.specs.Pages.{decimal}
use Rattle.text.proofs.PageLaws.{said_rest, said_nothing}
use Rattle.papers.specs.Papers.{machines_named}
use Rattle.papers.proofs.machines.Goals as goal

-- a turn of the loop: the machines of the votes that are left are the next one, and those of the rest; at the end there are none
machines-more : (s : List ℕ) (place n i : ℕ) → i < n → machines_named (signers s (place + 68 * i) 68 (n - i)) ≡ ascii " " ++ decimal (get_or s (place + 68 * i) 0) ++ machines_named (signers s (place + 68 * (i + 1)) 68 (n - (i + 1)))
unfolding machines_named signers number
machines-more s place n i h =
    let left : n - i ≡ suc (n - (i + 1)) = omega arith in
    let next : place + 68 * (i + 1) ≡ place + 68 * i + 68 = omega arith in
    rw (left, next)

machines-end : (s : List ℕ) (from n i : ℕ) → n ≤ i → machines_named (signers s from 68 (n - i)) ≡ []
unfolding machines_named signers
machines-end s from n i h = let left : n - i ≡ 0 = omega arith in rw left

pub loop-i-preserved : goal.loop-i-preserved
unfolding ascii
loop-i-preserved c =
    let came = c.loop-i in
    let turn = machines-more c.args.message.now c.args.place c.args.n came.i c.loop-i-test.true in
    (c.say_numbered.ensures.0 ∙ came.invariant.0, said_rest _ _ _ c.say_numbered.ensures.1 (rw (← turn) came.invariant.1))

pub returns : goal.returns
returns c = (c.loop-i.invariant.0, sym (said_nothing _) ∙ (rw (machines-end _ _ _ _ c.loop-i-test.false) at c.loop-i.invariant.1))
