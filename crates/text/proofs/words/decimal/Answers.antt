use mathlib.Core.Path.{sym, ◌∙◌}
use native.Mathlib.Omega.{arith}
use borrow.Author.Rules.{rules}
use borrow.Author.Tests.{eqb-true, eqb-false}
use Rattle.octets.specs.Octets.{number}
use Rattle.text.specs.Words.{number_of}
use Rattle.text.proofs.WordLaws.{number_worth, worth_more, worth_other, worth_many, worth_end, no_decimal, a_decimal}
use Rattle.text.proofs.words.decimal.Goals as goal

pub returns-then-is_empty : goal.returns-then-is_empty
unfolding number_of
returns-then-is_empty c = let none = eqb-true _ _ (sym c.is_empty.ensures ∙ c.if-is_empty.true) in no_decimal _ (rw none)

pub loop-byte-init : goal.loop-byte-init
loop-byte-init c = (omega arith, number_worth _ (eqb-false _ _ (sym c.is_empty.ensures ∙ c.if-is_empty.false)))

pub returns-then-not-is_ascii_digit : goal.returns-then-not-is_ascii_digit
unfolding number
returns-then-not-is_ascii_digit c =
    no_decimal _ (c.loop-byte.invariant.1 ∙ worth_other _ _ _ c.loop-byte-test.true (sym c.is_ascii_digit.ensures.value ∙ c.if-not-is_ascii_digit.true))

pub returns-then-value-ge100000000000000000 : goal.returns-then-value-ge100000000000000000
unfolding number
returns-then-value-ge100000000000000000 c =
    no_decimal _ (c.loop-byte.invariant.1 ∙ worth_many _ _ _ c.loop-byte-test.true (search rules) (search rules) c.if-value-ge100000000000000000.true)

pub loop-byte-preserved : goal.loop-byte-preserved
unfolding number
loop-byte-preserved c = (search rules, c.loop-byte.invariant.1 ∙ worth_more _ _ _ c.loop-byte-test.true (search rules) (search rules) c.if-value-ge100000000000000000.false)

pub returns : goal.returns
returns c = a_decimal _ (c.loop-byte.invariant.1 ∙ worth_end _ _ _ c.loop-byte-test.false) (search rules)
