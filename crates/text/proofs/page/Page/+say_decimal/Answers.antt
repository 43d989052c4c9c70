use Rattle.text.proofs.PageLaws.{says_then, decimal_digit, decimal_more}
use Rattle.text.proofs.page.Page.+say_decimal.Goals as goal

pub returns-then-n-lt10 : goal.returns-then-n-lt10
returns-then-n-lt10 t c = rw (decimal_digit _ c.if-n-lt10.true) c.say_digit.ensures

pub returns : goal.returns
returns t c = rw (decimal_more _ c.if-n-lt10.false) (says_then _ _ _ c.say_decimal.ensures c.say_digit-2.ensures)
