use Rattle.text.specs.Ascii.{ascii}
use Rattle.text.proofs.PageLaws.{says_then}
use Rattle.papers.specs.Papers.{payment_text}
use Rattle.text.proofs.PageLaws.{says_then_two}
use Rattle.papers.proofs.payment.Goals as goal

pub returns : goal.returns
unfolding ascii payment_text
returns c =
    let recipient = says_then _ _ _ (says_then _ _ _ c.say_numbered.ensures c.pays.ensures) c.say_decimal.ensures in
    says_then_two _ _ _ _ (says_then_two _ _ _ _ recipient c.say_numbered-2.ensures) c.say_numbered-3.ensures
