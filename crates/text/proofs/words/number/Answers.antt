use Rattle.text.proofs.WordLaws.{decimal_number}
use Rattle.text.proofs.words.number.Goals as goal

pub returns : goal.returns
returns c = decimal_number _ (rw c.decimal.ensures at c.unwrap_or.ensures)
