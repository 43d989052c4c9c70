use native.Mathlib.Omega.{arith}
use Rattle.papers.specs.Papers.{certificate_read_text}
use Rattle.refusals.proofs.RefusalLaws.{says_refused}
use Rattle.drafts.proofs.ReadingLaws.{certificate_shown, same_note, same_payment}
use Rattle.drafts.proofs.showing.show_certificate.Goals as goal

pub returns-in-Err : goal.returns-in-Err
unfolding certificate_read_text
returns-in-Err c = rw (← c.in-Err.ensures) (says_refused _ c.in-Err.refusal _ c.refused.ensures)

pub get-size-requires : goal.get-size-requires
get-size-requires c = let shown = certificate_shown c.args.f c.args.message.now c.in_default.ensures in (omega arith, shown.sized)

pub cut-requires : goal.cut-requires
cut-requires c =
    let shown = certificate_shown c.args.f c.args.message.now c.in_default.ensures in
    omega (arith, shown.body, c.get-size.ensures.0)

pub unreachable-requires : goal.unreachable-requires
unreachable-requires c =
    let shown = certificate_shown c.args.f c.args.message.now c.in_default.ensures in
    let none = same_payment _ c.in_default-read_body.ensures c.cut.ensures.0 c.get-size.ensures.0 shown.reads in
    cc none

pub overflow_sub-n : goal.overflow_sub-n
overflow_sub-n c =
    let shown = certificate_shown c.args.f c.args.message.now c.in_default.ensures in
    omega (arith, shown.body, c.get-size.ensures.0)

pub returns : goal.returns
unfolding certificate_read_text
returns c =
    let shown = certificate_shown c.args.f c.args.message.now c.in_default.ensures in
    let note = same_note _ c.in-Ok.ensures c.cut.ensures.0 c.get-size.ensures.0 in
    let paid = same_payment _ c.in-Ok.ensures c.cut.ensures.0 c.get-size.ensures.0 shown.reads in
    rw (← c.in_default.ensures) (rw (paid, note, c.get-size.ensures.0) at c.certificate.ensures)
