use Rattle.text.specs.Ascii.{ascii}
use Rattle.text.proofs.PageLaws.{says_then_two}
use Rattle.wording.proofs.entry.Goals as goal

pub returns : goal.returns
unfolding ascii
returns c = says_then_two _ _ _ _ c.say_numbered.ensures c.say_numbered-2.ensures
