use Rattle.std.proofs.Common.{ℕ, List, Bor, sym, ◌∙◌}
use Rattle.ledger.proofs.Facts.{opened}
use Rattle.ledger.proofs.state.open.Goals as goal

pub returns : goal.returns
returns c = opened (λ (x : Bor (List ℕ)). x.now) _ _ (sym c.formed.ensures ∙ c.if-not-formed.false) c.as_array.ensures.cases
