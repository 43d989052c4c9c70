use mathlib.Core.Path.{sym, ◌∙◌}
use native.Mathlib.Omega.{arith}
use borrow.Author.Rules.{rules}
use Rattle.octets.specs.Octets.{number}
use Rattle.text.proofs.WordLaws.{digit_small, unhex_more, unhex_end, length_unhexed}
use Rattle.text.proofs.words.unhex.Goals as goal

pub pair-requires : goal.pair-requires
unfolding number
pair-requires c = (digit_small _ _ c.requires.0 (search rules), digit_small _ _ c.requires.0 (search rules))

pub loop-i-preserved : goal.loop-i-preserved
unfolding number
loop-i-preserved c = rw c.pair.ensures (sym (unhex_more c.loop-i.out c.args.word.now c.loop-i.i (omega arith)) ∙ c.loop-i.invariant)

pub returns : goal.returns
returns c = (sym (unhex_end _ c.args.word.now c.loop-i.i (omega arith)) ∙ c.loop-i.invariant, sym (length_unhexed _), omega arith)
