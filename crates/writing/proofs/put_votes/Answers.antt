use Prim.Native.Nat.{◌+◌, ◌<◌}
use mathlib.Core.Path.{◌≡◌, refl, sym, ◌∙◌}
use native.Mathlib.Omega.{arith}
use borrow.Author.Rules.{rules}
use lib.ListN.{length, length-append}
use Rattle.std.specs.Slice.Iter.{chunks_exact_rest}
use Rattle.writing.proofs.Written.{put_vote, put_no_vote}
use Rattle.writing.proofs.put_votes.Goals as goal

pub loop-vote-init : goal.loop-vote-init
loop-vote-init c =
    rw (c.into_iter-vote-iterator.ensures.into_iter_gives, c.chunks_exact-vote-items.ensures.rest)
    (c.chunks_exact-vote-items.ensures.size, omega arith, refl, refl)

pub loop-vote-preserved : goal.loop-vote-preserved
loop-vote-preserved c =
    let steps = c.in-Some.ensures.steps in
    let size : length c.in-Some.vote.now ≡ 65 = steps.1.1 ∙ c.loop-vote.invariant.0 in
    let before = c.loop-vote.invariant in
    let shorter : length (chunks_exact_rest c.loop-vote.vote-iterator) ≡ 65 + length (chunks_exact_rest c.next.new.self) = simp (steps.1.0, length-append, size) in
    (steps.0 ∙ before.0, search rules, search rules, put_vote _ _ _ _ size c.put_part.ensures ∙ rw steps.1.0 at before.3)

pub returns : goal.returns
returns c =
    let few : length (chunks_exact_rest c.loop-vote.vote-iterator) < 65 = rw c.loop-vote.invariant.0 at c.in-None.ensures.steps.1.0 in
    sym (put_no_vote _ c.loop-vote.place _ few) ∙ c.loop-vote.invariant.3
