use mathlib.Core.Path.{refl}
use Rattle.text.specs.Ascii.{ascii}
use Rattle.text.specs.Words.{line_end}
use Rattle.text.proofs.LineLaws.{joined, are_lines}
use Rattle.refusals.specs.Refusals.{reasons}
use Rattle.refusals.proofs.RefusalLaws.{refusal_least, told}
use Rattle.refusals.proofs.refused.Goals as goal

pub say_refusal-requires : goal.say_refusal-requires
say_refusal-requires c = refusal_least _ c.number.ensures

pub returns : goal.returns
unfolding ascii line_end joined are_lines
returns c = told _ reasons _ _ (rw c.number.ensures at c.say_refusal.ensures) refl refl
