use Rattle.std.proofs.Common.{◌≡◌, ap, ◌∙◌, arith, eq-eqb}
use Rattle.octets.specs.Octets.{cut}
use Rattle.wire.specs.Messages.{inside}
use Rattle.messages.proofs.Told.{order_told, order_facts}
use Rattle.records.specs.Answers.{vote_values}
use Rattle.records.specs.Calls.{order}
use Rattle.states.proofs.Unless.{handed_on, goes_on}
use Rattle.voting.proofs.handle_order.Goals as goal

pub returns-in_err-payment : goal.returns-in_err-payment
unfolding order
returns-in_err-payment c = rw (c.in-Some.ensures.value.0, c.in-Some.ensures.value.1) (handed_on vote_values _ _ _ _ c.from_residual.ensures c.in_err-payment.ensures)

pub get-size-requires : goal.get-size-requires
get-size-requires c = let d = order_facts c.args.message.now c.in_ok-payment.ensures in (omega arith, omega arith)

pub cut-requires : goal.cut-requires
cut-requires c = let d = order_facts c.args.message.now c.in_ok-payment.ensures in omega (arith, c.get-size.ensures.0)

pub vote-requires : goal.vote-requires
vote-requires c = let d = order_facts c.args.message.now c.in_ok-payment.ensures in ((order_told _ c.args.message.now c.in_ok-payment.ensures).2, omega (arith, c.cut.ensures.1, c.get-size.ensures.0))

pub returns : goal.returns
unfolding order
returns c = let m = c.args.message.now in
    let e = c.in_ok-payment.ensures in
    let body : c.cut.result.now ≡ inside m = c.cut.ensures.0 ∙ ap (cut m 3) c.get-size.ensures.0 in
    rw (c.in-Some.ensures.value.1, eq-eqb _ _ c.if-verdicts-ne1.false, ← c.all_good.ensures, c.if-not-all_good.false)
    (c.vote.ensures ∙ rw (c.in-Some.ensures.value.0, body, (order_told _ m e).1) (goes_on _ _ _ e))
