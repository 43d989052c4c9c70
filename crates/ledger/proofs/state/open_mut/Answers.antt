use Rattle.std.proofs.Common.{ℕ, List, MutBor, refl, sym, ◌∙◌}
use Rattle.ledger.proofs.Facts.{opened}
use Rattle.ledger.proofs.state.open_mut.Goals as goal

pub returns : goal.returns
returns c = (refl, record { value = opened (λ (x : MutBor (List ℕ)). x.now) _ _ (sym c.formed.ensures ∙ c.if-not-formed.false) c.as_mut_array.ensures.cases; writes_back = tt })
