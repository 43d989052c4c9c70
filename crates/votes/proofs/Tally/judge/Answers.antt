use borrow.Author.Tests.{not-true, not-false}
use Rattle.votes.specs.Tally.{votes_judged}
use Rattle.votes.proofs.Tally.judge.Goals as goal

pub returns-then-not-self : goal.returns-then-not-self
unfolding votes_judged
returns-then-not-self c = simp (not-true c.args.self.known c.if-not-self.true)

pub returns-then-not-self-2 : goal.returns-then-not-self-2
unfolding votes_judged
returns-then-not-self-2 c =
    simp (not-false c.args.self.known c.if-not-self.false, not-true c.args.self.rising c.if-not-self-2.true)

pub returns-then-not-good : goal.returns-then-not-good
unfolding votes_judged
returns-then-not-good c =
    simp (not-false c.args.self.known c.if-not-self.false, not-false c.args.self.rising c.if-not-self-2.false, c.if-not-good.true)

pub returns : goal.returns
unfolding votes_judged
returns c =
    simp (not-false c.args.self.known c.if-not-self.false, not-false c.args.self.rising c.if-not-self-2.false, c.if-not-good.false)
    c.quorum.ensures
