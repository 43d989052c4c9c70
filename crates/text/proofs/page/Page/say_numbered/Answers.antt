use Rattle.text.proofs.PageLaws.{says_then}
use Rattle.text.proofs.page.Page.say_numbered.Goals as goal

pub returns : goal.returns
returns c = says_then _ _ _ c.say.ensures c.say_decimal.ensures
