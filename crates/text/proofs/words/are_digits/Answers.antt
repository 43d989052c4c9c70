use mathlib.Core.Path.{◌∙◌}
use lib.Dec.{ltb}
use Rattle.std.proofs.lemmas.Iterator.{YieldsList-from_slice}
use Rattle.std.proofs.lemmas.Iterator.Search.{all_from_yields_List}
use borrow.Author.Rules.{rules}
use Rattle.text.specs.Words.{nibble}
use Rattle.text.proofs.WordLaws.{digits_all}
use Rattle.text.proofs.words.are_digits.Goals as goal

pub returns : goal.returns
returns c =
    let word = c.args.word.now in
    all_from_yields_List (λ b. ltb (nibble b) 16) _ _ _ c.all.ensures.ran (YieldsList-from_slice word c.iter.ensures.rest) (λ x b q k. search rules) ∙ digits_all word
