use mathlib.Core.Path.{◌∙◌}
use mathlib.Core.Bool.{true}
use Rattle.std.proofs.lemmas.Result.{err_from_is_err_and}
use Rattle.wire.specs.Writers.{unwritten, write_voted_of}
use Rattle.messages.proofs.Onward.{votes_onward}
use Rattle.writing.proofs.Written.{length_certificate, writes_small, writes_room}
use Rattle.writing.proofs.write_voted.Goals as goal

pub returns-in_err-count : goal.returns-in_err-count
unfolding write_voted_of
returns-in_err-count c =
    let p = err_from_is_err_and c.from_residual.result c.from_residual.ensures.1 in
    rw (p.1, p.2) (votes_onward (λ n. unwritten n c.args.out.now) _ c.args.f _ true c.in_err-count.ensures)

pub returns-then-out-size : goal.returns-then-out-size
unfolding write_voted_of
returns-then-out-size c =
    writes_small _ _ (length_certificate _ _) c.if-out-size.true
    ∙ votes_onward (λ n. unwritten n c.args.out.now) _ c.args.f _ true c.in_ok-count.ensures

pub returns : goal.returns
unfolding write_voted_of
returns c =
    writes_room _ _ (length_certificate _ _) c.if-out-size.false c.put_certificate.ensures
    ∙ votes_onward (λ n. unwritten n c.args.out.now) _ c.args.f _ true c.in_ok-count.ensures
