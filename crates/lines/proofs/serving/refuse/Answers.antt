use Rattle.text.specs.Ascii.{ascii}
use Rattle.text.proofs.PageLaws.{says_then}
use Rattle.lines.proofs.serving.refuse.Goals as goal

pub returns : goal.returns
unfolding ascii
returns c = says_then _ _ _ c.unread.ensures c.say.ensures
