-- What every layout of the ledger has, one case for each, and what a state keeps that is moved into another. Assumes nothing.
use Rattle.std.specs.Prelude.{ℕ, ◌≡◌, refl, List}
use Rattle.std.proofs.Common.{◌∙◌, arith}
use Rattle.ledger.specs.States.{Layout, Rules, rules_of, base, fresh_state, fresh_in, Has}
use Rattle.bookkeeping.specs.Meaning.{Lays, Moved, Balanced}
use Rattle.bookkeeping.specs.Keeping.{base_lays, fresh_state_lem}

-- it lays out a state as the laws ask
pub lays : (l : Layout) → Lays (rules_of l)
lays Layout.plain = base_lays

-- its fresh state is one of 01, moved
pub fresh_moved : (l : Layout) (f : ℕ) → Has l f → Moved base (fresh_state base f) (rules_of l) (fresh_in l f)
fresh_moved Layout.plain f has = record { state = fresh_state_lem f has; index = refl; pots = refl; logs = λ account sequence. refl }

-- the rules in force are those of 01, which the contracts of code cite
pub rules_of_01 : (l : Layout) → rules_of l ≡ base
rules_of_01 Layout.plain = refl

-- the books of a state that was moved balance by the same numbers
pub moved_balanced : (rules : Rules) (s : List ℕ) (rules' : Rules) (t : List ℕ) (orders funding paid : ℕ) → Moved rules s rules' t
    → Balanced rules s orders funding paid
    → Balanced rules' t orders funding paid
moved_balanced rules s rules' t orders funding paid m b = record {
  state = m.state;
  index = m.index ∙ b.index;
  few = b.few;
  pot = omega (arith, m.pots, b.pot);
  most = b.most;
}
