-- The funding order that the ledger wrote is taken by every machine whose last index is one below. Assumes nothing.
use Rattle.std.specs.Prelude.{ℕ, ◌+◌, ◌≡◌, true, List, [], ◌∷◌, take}
use Rattle.std.proofs.Common.{sym, ap, ◌∙◌, le-leb, eq-eqb}
use Rattle.wire.specs.Messages.{funding, is_funding}
use Rattle.wire.specs.Refusals.{gives, funding_values}
use Rattle.wire.specs.Readers.{read_funding}
use Rattle.wire.specs.Votes.{good}
use Rattle.wire.specs.declared.kinds.Funding.{Funding}
use Rattle.wire.proofs.Ranges.{FundingRange, funding_range}
use Rattle.states.specs.Headers.{last_index, with_index}
use Rattle.states.specs.Outcomes.{outcome, done}
use Rattle.records.specs.Records.{credited}
use Rattle.records.specs.States as machine
use Rattle.records.specs.Calls.{funding_order, credit, credit_on}
use Rattle.roundtrip.specs.Funding.{funding_given}
use Rattle.invariants.specs.Meaning.{Reached, Limited}
use Rattle.invariants.specs.Bounds.{room}
use Rattle.invariants.proofs.Theorems.{reached_limited}
use Rattle.ledger.specs.States.{Rules}
use Rattle.ledger.specs.Calls.{fund, next_funding}
use Rattle.bookkeeping.specs.Theorems.{fund_read_back}

-- a machine whose state is limited takes a message that is read as the funding order of its next index
order_taken : (t m : List ℕ) (o : Funding) → read_funding m ≡ gives (funding_values o) → Limited machine.base t → o.index.0 ≡ last_index t + 1
    → funding_order machine.base t m (1 ∷ [])
    ≡ outcome done (machine.with_record machine.base (with_index t o.index.0) o.account.0 (credited (machine.record_of machine.base t o.account.0) o.amount))
unfolding funding_order credit credit_on good
order_taken t m o read h next =
    let values : funding m ≡ o = (funding_given m o read).2 in
    let range : FundingRange o = funding_range o (ap is_funding (sym values) ∙ (funding_given m o read).1) in
    let a = o.account.0 in
    let formed : machine.is_formed machine.base t a ≡ true = h.formed.records a range.account in
    rw (h.formed.state, read, values, formed, eq-eqb _ _ next, le-leb _ _ (room machine.base t a o.amount h range.account range.amount))

-- with a good verdict: the index is recorded, the account put in use and credited. The machine's state t is one that it comes to from a fresh one
pub funding_taken : (rules : Rules) (s out : List ℕ) (account amount : ℕ) (t : List ℕ) → (fund rules s out account amount).answer.number ≡ 0
    → Reached t → last_index t ≡ last_index s
    → funding_order machine.base t (take 16 (fund rules s out account amount).out) (1 ∷ [])
    ≡ outcome done (machine.with_record machine.base (with_index t (last_index s + 1)) account (credited (machine.record_of machine.base t account) amount))
funding_taken rules s out account amount t given reached next =
    order_taken t (take 16 (fund rules s out account amount).out) (next_funding s account amount) (fund_read_back rules s out account amount given)
    (reached_limited t reached) (ap (λ (n : ℕ). n + 1) (sym next))
