use Prim.Native.Nat.{ℕ}
use mathlib.Core.Bool.{Bool}
use mathlib.Core.List.{List}
use mathlib.Core.Path.{◌≡◌, sym, ap, ◌∙◌}
use lib.ListN.{length}
use borrow.Author.Tests.{le-leb, eq-eqb, ne_eqb}
use Rattle.std.proofs.lemmas.Result.{err_from_is_err_and}
use Rattle.wire.specs.declared.kinds.Payment.{Payment}
use Rattle.wire.specs.Fields.{laid}
use Rattle.wire.specs.Messages.{body_fields, payment, is_payment}
use Rattle.wire.specs.Readers.{judged_by, count_of}
use Rattle.wire.specs.Votes.{votes, signers_in, good}
use Rattle.messages.proofs.Onward.{votes_counted}
use Rattle.messages.proofs.Told.{votes_told}
use Rattle.messages.proofs.certificate.judge.Goals as goal

-- what the tests of a body say of the same body by its other name
module _ {b own : List ℕ} (same : b ≡ own) {tested answer : Bool} where
  formed : tested ≡ laid b body_fields → tested ≡ answer → laid own body_fields ≡ answer
  formed e h = sym (rw same at e) ∙ h

  ranged : {p : Payment} → p ≡ payment b → tested ≡ is_payment p → tested ≡ answer → is_payment (payment own) ≡ answer
  ranged read e h = ap is_payment (sym (read ∙ ap payment same)) ∙ sym e ∙ h

pub returns-in_err-opened : goal.returns-in_err-opened
unfolding judged_by
returns-in_err-opened c =
    let p = err_from_is_err_and c.from_residual.result c.from_residual.ensures.1 in
    rw (p.1, p.2) (ap count_of (c.in_err-opened.ensures _))

pub returns-then-not-body_laid : goal.returns-then-not-body_laid
unfolding judged_by
returns-then-not-body_laid c =
    let o = c.in_ok-opened.ensures in
    simp (le-leb _ _ o.faults, o.laid_down, formed o.body c.body_laid.ensures c.if-not-body_laid.true)

pub returns-then-not-in_range : goal.returns-then-not-in_range
unfolding judged_by
returns-then-not-in_range c =
    let o = c.in_ok-opened.ensures in
    simp (le-leb _ _ o.faults, o.laid_down, formed o.body c.body_laid.ensures c.if-not-body_laid.false, ranged o.body c.payment_in-payment.ensures c.in_range.ensures c.if-not-in_range.true)

pub returns-then-verdicts-opened : goal.returns-then-verdicts-opened
unfolding judged_by
returns-then-verdicts-opened c =
    let o = c.in_ok-opened.ensures in
    simp (le-leb _ _ o.faults, o.laid_down, formed o.body c.body_laid.ensures c.if-not-body_laid.false, ranged o.body c.payment_in-payment.ensures c.in_range.ensures c.if-not-in_range.false, ne_eqb (length c.args.verdicts.now) (votes c.args.message.now) (λ e. c.if-verdicts-opened.true (e ∙ sym o.counted)))

pub judge-requires : goal.judge-requires
judge-requires c = let o = c.in_ok-opened.ensures in (o.faults, rw c.if-verdicts-opened.false (votes_told o).0)

pub returns : goal.returns
unfolding judged_by
returns c =
    let m = c.args.message.now in
    let verdicts = c.args.verdicts.now in
    let o = c.in_ok-opened.ensures in
    simp (le-leb _ _ o.faults, o.laid_down, formed o.body c.body_laid.ensures c.if-not-body_laid.false, ranged o.body c.payment_in-payment.ensures c.in_range.ensures c.if-not-in_range.false, eq-eqb (length verdicts) (votes m) (c.if-verdicts-opened.false ∙ o.counted))
    (votes_counted c.args.f (signers_in m) (good verdicts) _ (rw (c.if-verdicts-opened.false, (votes_told o).1) at c.judge.ensures))
