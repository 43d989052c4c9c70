use Rattle.text.specs.Ascii.{ascii}
use Rattle.text.proofs.words.is_stroke.Goals as goal

pub returns : goal.returns
unfolding ascii
returns c = c.same.ensures
