use Rattle.std.proofs.lemmas.Iterator.{YieldsList-from_slice}
use Rattle.std.proofs.lemmas.Iterator.Search.{position_from_yields_List}
use mathlib.Core.Bool.{not}
use borrow.Author.Rules.{rules}
use Rattle.text.specs.Words.{is_kind}
use Rattle.text.proofs.WordLaws.{found, leading_found}
use Rattle.text.proofs.words.leading.Goals as goal

pub returns : goal.returns
returns c =
    let blank = c.args.blank in
    let s = c.args.s.now in
    let at = position_from_yields_List (λ b. not (is_kind blank b)) _ _ _ c.position.ensures.ran (YieldsList-from_slice s c.iter.ensures.rest) (λ x b q k. search rules) in
    rw (← leading_found blank s) (found _ s at c.unwrap_or.ensures)
