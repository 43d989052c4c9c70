-- What was read is behind what is held.
use Rattle.text.proofs.ArrivalLaws.{grows_more}
use Rattle.keeping.proofs.input.read_more.Goals as goal

pub returns-in-Ok-clause-grows : goal.returns-in-Ok-clause-grows
returns-in-Ok-clause-grows c =
    let input = c.args.input.now in
    grows_more input.buffer.now _ (record { filled = input.filled; skips = input.skips }) c.in-Ok.n c.in-Ok.ensures.kept
