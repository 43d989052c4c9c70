use mathlib.Core.Path.{◌≡◌, sym, ap, ◌∙◌}
use native.Mathlib.Omega.{arith}
use lib.ListN.{length}
use Rattle.wire.specs.Fields.{size}
use Rattle.std.proofs.lemmas.Bool.{and_parts}
use Rattle.wire.specs.Readers.{is_body, covered_at}
use Rattle.wire.proofs.Laid.{body_laid}
use Rattle.wire.proofs.Laid.{missed}
use Rattle.messages.proofs.Places.{either_encloses}
use Rattle.messages.proofs.covered.covered_at.Goals as goal

pub returns-in_default : goal.returns-in_default
unfolding covered_at
returns-in_default c = (simp (missed _ _ c.in_default.ensures), omega arith, omega arith)

pub cut-body-requires : goal.cut-body-requires
cut-body-requires c = let d = (either_encloses c.args.message.now c.in-Some.ensures).2 in omega arith

pub returns-then-not-is_body : goal.returns-then-not-is_body
unfolding covered_at
returns-then-not-is_body c =
    let d = either_encloses c.args.message.now c.in-Some.ensures in
    let inside = c.cut-body.ensures.0 ∙ d.2.body in
    (simp (d.0, ap is_body (sym inside) ∙ sym c.is_body.ensures ∙ c.if-not-is_body.true), omega arith, omega arith)

pub returns : goal.returns
unfolding covered_at
returns c =
    let d = either_encloses c.args.message.now c.in-Some.ensures in
    let inside = c.cut-body.ensures.0 ∙ d.2.body in
    let e = sym c.is_body.ensures ∙ c.if-not-is_body.false in
    let b = body_laid c.cut-body.result.now (and_parts _ _ e).0 in
    let size : length c.cut-body.result.now ≡ size c.args.message.now 0 = omega (arith, d.1, c.cut-body.ensures.1) in
    let place = d.2 in
    (simp (d.0, ap is_body (sym inside) ∙ e) (λ i. record { place = 3; length = size i }), omega (arith, c.cut-body.ensures.1), omega arith)
