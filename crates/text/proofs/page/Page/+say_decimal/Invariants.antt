use Rattle.text.proofs.page.Page.+say_decimal.Given as goal

abbrev pub decreases-say_decimal : goal.decreases-say_decimal
decreases-say_decimal l = l.n
