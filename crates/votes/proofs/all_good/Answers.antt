use Rattle.std.proofs.Common.{eqb, rules, tests}
use mathlib.Core.Path.{◌∙◌}
use Rattle.std.proofs.lemmas.Iterator.{YieldsList-from_slice}
use Rattle.std.proofs.lemmas.Iterator.Search.{all_from_yields_List}
use Rattle.votes.proofs.Tallies.{good_all}
use Rattle.votes.proofs.all_good.Goals as goal

pub returns : goal.returns
returns c =
    all_from_yields_List (λ v. eqb v 1) _ _ _ c.all.ensures.ran (YieldsList-from_slice c.args.verdicts.now cc) (λ x b q k. search (rules, tests))
    ∙ good_all _
