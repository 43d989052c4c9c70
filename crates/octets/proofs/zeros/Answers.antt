use Rattle.std.proofs.Common.{◌≡◌, rules}
use borrow.Author.Tests.{tests}
use Rattle.std.proofs.lemmas.Iterator.{cases_from_all, YieldsList-from_slice}
use Rattle.octets.proofs.Parts.{all_zero_by}
use Rattle.octets.proofs.zeros.Goals as goal

pub returns : goal.returns
returns c =
    all_zero_by c.all.result c.args.s.now
    (cases_from_all _ _ _ (λ x. x ≡ 0) (λ x. x ≡ 0 → ⊥) c.all.ensures.ran (YieldsList-from_slice c.args.s.now cc) (λ x q k. search (rules, tests)) (λ x q k. search (rules, tests)))
