use Rattle.std.proofs.lemmas.Iterator.{YieldsList-from_slice}
use Rattle.std.proofs.lemmas.Iterator.Search.{position_from_yields_List}
use lib.Dec.{eqb}
use borrow.Author.Rules.{rules}
use Rattle.text.proofs.WordLaws.{found, line_found}
use Rattle.text.proofs.words.line_end.Goals as goal

pub returns : goal.returns
returns c =
    let s = c.args.s.now in
    let at = position_from_yields_List (λ b. eqb b 10) _ _ _ c.position.ensures.ran (YieldsList-from_slice s c.iter.ensures.rest) (λ x b q k. search rules) in
    rw (← line_found s) (found _ s at c.unwrap_or.ensures)
