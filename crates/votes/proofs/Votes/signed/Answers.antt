use mathlib.Core.Path.{◌∙◌}
use Rattle.votes.proofs.Tallies.{counting_fine, unknown_stops, falling_stops, verdict_stops, all_fine_lem, left_more, left_none, good_more, good_stop, good_end}
use Rattle.votes.proofs.Votes.signed.Goals as goal

pub returns-then-last-machine : goal.returns-then-last-machine
returns-then-last-machine c = unknown_stops _ (rw (left_more c.args.self c.loop-i-test.true, ← c.get-machine.ensures.0) at c.loop-i.invariant.1) c.if-last-machine.true

pub returns-then-machine-least : goal.returns-then-machine-least
returns-then-machine-least c = falling_stops _ (rw (left_more c.args.self c.loop-i-test.true, ← c.get-machine.ensures.0) at c.loop-i.invariant.1) c.if-machine-least.true

pub returns-then-verdict-ne1 : goal.returns-then-verdict-ne1
returns-then-verdict-ne1 c = verdict_stops _ _ _ (c.loop-i.invariant.0 ∙ good_stop _ _ c.loop-i-test.true c.if-verdict-ne1.true)

pub loop-i-preserved : goal.loop-i-preserved
loop-i-preserved c = (
  c.loop-i.invariant.0 ∙ good_more _ _ c.loop-i-test.true c.if-verdict-ne1.false,
  counting_fine (rw (left_more c.args.self c.loop-i-test.true, ← c.get-machine.ensures.0) at c.loop-i.invariant.1) c.if-last-machine.false c.if-machine-least.false c.requires.1,
)

pub returns : goal.returns
returns c = all_fine_lem _ (rw (left_none c.args.self c.loop-i-test.false) at c.loop-i.invariant.1) (c.loop-i.invariant.0 ∙ good_end _ _ c.loop-i-test.false)
