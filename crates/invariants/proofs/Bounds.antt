-- A state whose balances a call moves stays limited. Assumes nothing.
use Rattle.std.specs.Prelude.{ℕ, ◌+◌, ◌≤◌, ◌≡◌, List}
use Rattle.std.proofs.Common.{arith}
use Rattle.states.specs.Headers.{last_index}
use Rattle.records.specs.declared.record.Record.{Record}
use Rattle.records.specs.States.{Rules, record_of}
use Rattle.wire.specs.declared.kinds.Payment.{Payment}
use Rattle.invariants.specs.Outcomes.{Settled}
use Rattle.invariants.specs.Meaning.{Lays, Limited}
use Rattle.invariants.specs.Bounds.{Follows, confirmed_no_fewer, confirmed_more, limited_after}

-- balances that rise by n times 10^9 where the index alone rises by n stay limited
pub limited_still : (rules : Rules) (n index : ℕ) (s t : List ℕ) → Limited rules s → Follows rules n index s t → index ≤ 65_535 → last_index s + n ≤ index
    → Limited rules t
limited_still rules n index s t h o i e =
    limited_after rules n index s t h o i (omega (arith, confirmed_no_fewer rules s t 64 (λ x k. (o.changed x (omega arith)).next)))

-- a certificate of the next sequence
module _ (rules : Rules) (l : Lays rules) (s : List ℕ) (h : Limited rules s) (p : Payment) (v : Settled p (record_of rules s p.sender.0)) where
  abbrev payer : Record
  payer = record_of rules s p.sender.0

  -- a state after it is limited
  pub limited_more : (t : List ℕ) → Follows rules 1 (last_index s) s t → (record_of rules t p.sender.0).next.0 ≡ payer.next.0 + 1 → Limited rules t
  limited_more t o e =
      limited_after rules 1 (last_index s) s t h o h.index
      (omega (arith, confirmed_more rules s t p.sender.0 (omega arith) 64 (omega (arith, v.range.sender)) (λ x k. (o.changed x (omega arith)).next)))
