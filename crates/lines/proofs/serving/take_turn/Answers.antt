use mathlib.Core.Bool.{true, false}
use mathlib.Core.Path.{refl, ap, ◌∙◌}
use lib.ListN.{length}
use Rattle.text.specs.Arrivals.{Arrived, waiting}
use Rattle.text.specs.Pages.{Page}
use Rattle.text.proofs.PageLaws.{said_room}
use Rattle.text.specs.declared.arrivals.Next.{Next}
use Rattle.lines.specs.Calls.{desk, lent}
use Rattle.lines.specs.Serving.{turn, turn_of}
use Rattle.lines.proofs.ServingLaws.{turn_by, answered_turn_lem}
use Rattle.lines.proofs.serving.take_turn.Goals as goal

pub returns-in-Answer-clause-turned : goal.returns-in-Answer-clause-turned
unfolding turn_of
returns-in-Answer-clause-turned c =
    (c.release.ensures.left.0, c.serve-taken.ensures.served.0, turn_by _ _ _ Next.Answer c.next_step.ensures c.in-Answer.is (answered_turn_lem _ _ (waiting c.args.input.now) c.bytes.ensures c.serve-taken.ensures.served.1 c.release.ensures.left.1))

pub returns-in-Await-clause-turned : goal.returns-in-Await-clause-turned
unfolding turn_of
returns-in-Await-clause-turned c = (refl, refl, turn_by _ _ _ Next.Await c.next_step.ensures c.in-Await.is refl)

pub returns-in-Refuse-clause-turned : goal.returns-in-Refuse-clause-turned
unfolding turn_of
returns-in-Refuse-clause-turned c =
    (c.pass.ensures.left.0, c.refuse.ensures.0, turn_by _ _ _ Next.Refuse c.next_step.ensures c.in-Refuse.is (λ i. turn (desk c.args.state.now (c.refuse.ensures.1 i)) (c.pass.ensures.left.1 i) true))

pub returns-in-Refuse-clause-room : goal.returns-in-Refuse-clause-room
returns-in-Refuse-clause-room c = (ap length c.pass.ensures.kept.0, ap (λ (p : Page). length p.bytes) c.refuse.ensures.1 ∙ said_room _ _)

pub returns-in-Skip-clause-turned : goal.returns-in-Skip-clause-turned
unfolding turn_of
returns-in-Skip-clause-turned c = (c.skip.ensures.left.0, refl, turn_by _ _ _ Next.Skip c.next_step.ensures c.in-Skip.is (ap (λ (left : Arrived). turn (desk c.args.state.now (lent c.args.page.now)) left false) c.skip.ensures.left.1))

pub returns-in-Drop-clause-turned : goal.returns-in-Drop-clause-turned
unfolding turn_of
returns-in-Drop-clause-turned c = (c.pass-in-Drop.ensures.left.0, refl, turn_by _ _ _ Next.Drop c.next_step.ensures c.in-Drop.is (ap (λ (left : Arrived). turn (desk c.args.state.now (lent c.args.page.now)) left true) c.pass-in-Drop.ensures.left.1))
