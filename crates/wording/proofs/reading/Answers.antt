use borrow.Author.Rules.{rules}
use mir.Syntax.{w64}
use mir.Facts.{to_z-of_z}
use Rattle.text.specs.Ascii.{ascii}
use Rattle.text.proofs.PageLaws.{says_then, says_then_two}
use Rattle.wording.specs.Answers.{account_text}
use Rattle.wording.proofs.Used.{used_bit}
use Rattle.wording.proofs.reading.Goals as goal

pub returns : goal.returns
unfolding ascii account_text
returns c =
    let shown = c.args.reading in
    let back = to_z-of_z {w = w64} {z = shown.balance} (search rules) in
    let next = says_then _ _ _ (says_then _ _ _ c.say_numbered.ensures c.in_use.ensures) c.say_decimal.ensures in
    let balance = says_then _ _ _ (says_then _ _ _ next c.say.ensures) (rw back at c.say_signed.ensures) in
    rw (used_bit shown.used) (says_then_two _ _ _ _ balance c.say_numbered-2.ensures)
