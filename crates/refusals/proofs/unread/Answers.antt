use mathlib.Core.Path.{refl}
use native.Mathlib.Omega.{arith}
use Rattle.text.specs.Ascii.{ascii}
use Rattle.text.specs.Words.{line_end}
use Rattle.text.proofs.LineLaws.{joined, are_lines}
use Rattle.refusals.specs.Refusals.{fault_reasons}
use Rattle.refusals.proofs.RefusalLaws.{fault_least, told}
use Rattle.refusals.proofs.unread.Goals as goal

pub say_refusal-requires : goal.say_refusal-requires
say_refusal-requires c = let least = fault_least _ c.number.ensures in omega (arith, least)

pub returns : goal.returns
unfolding ascii line_end joined are_lines
returns c = told _ fault_reasons _ _ (rw c.number.ensures at c.say_refusal.ensures) refl refl
