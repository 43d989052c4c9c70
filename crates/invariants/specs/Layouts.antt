-- What every layout has, with any refusals: one case for each. Assumes nothing.
use Rattle.std.specs.Prelude.{ℕ, ◌*◌, ◌≤◌, ◌≡◌, refl, List, [], ◌∷◌, length}
use Rattle.std.proofs.Common.{ap, arith, lit≤}
use Rattle.octets.specs.Octets.{two, bytes, put}
use Rattle.octets.proofs.Laws.{length_bytes}
use Rattle.wire.specs.Votes.{committee}
use Rattle.records.specs.States.{Layout, Refusals, further, rules_of, base, is_state, fresh_state, fresh_in, Has}
use Rattle.invariants.specs.Meaning.{Lays, KeepsAll, CanTally, Moved}
use Rattle.invariants.specs.Keeping.{header_stays, faults_stay, fresh_state_lem}
use Rattle.invariants.specs.Moving.{unmoved}

-- no bytes put are the same bytes
put_none : (s : List ℕ) (at : ℕ) → s ≡ put s at []
unfolding put
put_none s at = refl

-- it lays out a state as the laws ask
pub lays : (l : Layout) (r : Refusals) → Lays (rules_of l r)
lays Layout.plain r = record {
  room = lit≤ tt;
  index_free = λ s index. header_stays s 2 (bytes two index) (lit≤ tt) (λ j a b c d. omega (arith, length_bytes two index));
  records_free = λ s at vs h. header_stays s at vs (omega arith) (λ j a b c d. omega arith);
  index_seats = λ s index. ap committee (faults_stay s 2 (bytes two index) (lit≤ tt));
  records_seats = λ s at vs h. ap committee (faults_stay s at vs (omega arith));
  tally_put = λ s out into. record { at = 4; bytes = []; is_put = put_none s 4; behind_index = lit≤ tt; before_records = lit≤ tt };
  tally_free = λ s out into room noted h. h;
  tally_seats = λ s out into. refl;
  sent_moves = λ s account amount h _. unmoved (rules_of Layout.plain r) s h;
  sent_size = λ s account amount. refl;
  sent_seats = λ s account amount. refl;
  send_free = λ s out into account vs _. refl;
}

-- it keeps all accounts
pub keeps_all : (l : Layout) (r : Refusals) → KeepsAll (rules_of l r)
keeps_all Layout.plain r account = refl

-- its header can note any amounts
pub can_tally : (l : Layout) (r : Refusals) (s : List ℕ) → CanTally (rules_of l r) s
can_tally Layout.plain r s out into a b = refl

-- no further refusal is 16
further_is_not_16 : (r : Refusals) (body : List ℕ) → further r body ≡ 16 → ⊥
further_is_not_16 Refusals.none body = λ e. omega arith

pub further_not_16 : (l : Layout) (r : Refusals) (body : List ℕ) → (rules_of l r).further body ≡ 16 → ⊥
further_not_16 Layout.plain r body = further_is_not_16 r body

-- an answer on a certificate carries the number of votes
pub counts_votes : (l : Layout) (r : Refusals) (s machines : List ℕ) → (rules_of l r).counted s machines ≡ length machines ∷ []
counts_votes Layout.plain r s machines = refl

-- its fresh state is one of 01, moved
pub fresh_moved : (l : Layout) (r : Refusals) (f own : ℕ) → Has l f → own ≤ 3 * f → Moved base (fresh_state base f own) (rules_of l r) (fresh_in l f own)
unfolding is_state
fresh_moved Layout.plain r f own has h = record { state = fresh_state_lem f own has h; index = refl; windows = λ x k. refl }

-- the rules in force are those of 01, which the contracts of code cite
pub rules_of_01 : (l : Layout) (r : Refusals) → rules_of l r ≡ base
rules_of_01 Layout.plain Refusals.none = refl
