use Rattle.text.specs.Pages.{hexadecimal}
use Rattle.text.proofs.PageLaws.{says_then}
use Rattle.text.proofs.page.Page.say_pair.Goals as goal

pub returns : goal.returns
unfolding hexadecimal
returns c = says_then _ _ _ c.say_digit.ensures c.say_digit-2.ensures
