use Rattle.text.specs.Ascii.{ascii}
use Rattle.lines.proofs.ServingLaws.{reply_ends}
use Rattle.lines.proofs.serving.answer.Goals as goal

pub returns : goal.returns
unfolding ascii
returns c = reply_ends _ _ _ _ c.reply.ensures c.say.ensures
