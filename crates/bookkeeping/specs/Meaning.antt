-- What the laws of the ledger speak of.
use Rattle.std.specs.Prelude.{ℕ, ◌+◌, ◌*◌, ◌≤◌, ◌≡◌, Bool, true, false, ◌&&◌, cond, List, [], ◌∷◌, length, get_or, leb, eqb}
use Rattle.octets.specs.Octets.{put}
use Rattle.wire.specs.Numbers.{is_account, is_amount}
use Rattle.states.specs.Headers.{last_index, with_index}
use Rattle.ledger.specs.States.{Rules, is_state, pot, with_pot, is_pot, is_redeemed}
use Rattle.ledger.specs.Answers.{FundOutcome}
use Rattle.ledger.specs.Calls.{fund, redeem}

-- a refusal leaves state and output, byte for byte
abbrev pub LeavesBoth : List ℕ → List ℕ → FundOutcome → Type 0
LeavesBoth s out o = (o.answer.number ≡ 0 → ⊥) → (o.state ≡ s) × (o.out ≡ out)

-- rules whose header has the index in its bytes 2 and 3 and the pot in the eight behind them, and is judged neither by the index nor by
-- anything from the logs on, and by the pot only for its limits; the committee is read from none of these
pub record Lays (rules : Rules) : Type 0 where
  pub room : 12 ≤ rules.logs
  pub index_free : (s : List ℕ) (index : ℕ) → rules.is_header (with_index s index) ≡ rules.is_header s
  pub logs_free : (s : List ℕ) (at : ℕ) (vs : List ℕ) → rules.logs ≤ at → rules.is_header (put s at vs) ≡ rules.is_header s
  pub pot_free : (s : List ℕ) (amount : ℕ) → 12 ≤ length s → is_pot amount ≡ true → rules.is_header s ≡ true → rules.is_header (with_pot s amount) ≡ true
  pub index_seats : (s : List ℕ) (index : ℕ) → rules.committee (with_index s index) ≡ rules.committee s
  pub logs_seats : (s : List ℕ) (at : ℕ) (vs : List ℕ) → rules.logs ≤ at → rules.committee (put s at vs) ≡ rules.committee s
  pub pot_seats : (s : List ℕ) (amount : ℕ) → rules.committee (with_pot s amount) ≡ rules.committee s
  pub pot_most : (s : List ℕ) → rules.is_header s ≡ true → is_pot (pot s) ≡ true

-- a state that was moved: length and header are right by the other rules, and index, pot and logs are the same
pub record Moved (rules : Rules) (s : List ℕ) (rules' : Rules) (t : List ℕ) : Type 0 where
  pub state : is_state rules' t ≡ true
  pub index : last_index t ≡ last_index s
  pub pots : pot t ≡ pot s
  pub logs : (account sequence : ℕ) → is_redeemed rules' t account sequence ≡ is_redeemed rules s account sequence

-- a call on the ledger: fund with an output buffer, an account and an amount, or redeem with a message and verdicts
pub data Call : Type 0 where
  funding : List ℕ → ℕ → ℕ → Call
  redeeming : List ℕ → List ℕ → Call

-- the state that a call leaves
abbrev pub after : Rules → List ℕ → Call → List ℕ
after rules s (Call.funding out account amount) = (fund rules s out account amount).state
after rules s (Call.redeeming m verdicts) = (redeem rules s m verdicts).state

-- a number that counts where a call was not refused
abbrev pub unless_refused : ℕ → ℕ → ℕ
unless_refused refusal n = cond (eqb refusal 0) n 0

-- how many funding orders a call gives, by its answer
abbrev pub order_given : Rules → List ℕ → Call → ℕ
order_given rules s (Call.funding out account amount) = unless_refused (fund rules s out account amount).answer.number 1
order_given rules s (Call.redeeming m verdicts) = 0

-- what a call puts into the pot
abbrev pub amount_funded : Rules → List ℕ → Call → ℕ
amount_funded rules s (Call.funding out account amount) = unless_refused (fund rules s out account amount).answer.number amount
amount_funded rules s (Call.redeeming m verdicts) = 0

-- what a call pays out: the amount, the second value of its answer
abbrev pub amount_paid : Rules → List ℕ → Call → ℕ
amount_paid rules s (Call.funding out account amount) = 0
amount_paid rules s (Call.redeeming m verdicts) = get_or (redeem rules s m verdicts).answer.values 1 0

-- the state after calls, one after another
unfoldable pub after_all : Rules → List ℕ → List Call → List ℕ
after_all rules s [] = s
after_all rules s (call ∷ calls) = after_all rules (after rules s call) calls

-- what calls come to, one after another: orders given, funding, or what was paid
unfoldable pub total : (Rules → List ℕ → Call → ℕ) → Rules → List ℕ → List Call → ℕ
total counted rules s [] = 0
total counted rules s (call ∷ calls) = counted rules s call + total counted rules (after rules s call) calls

-- calls of fund, each in range and with room for its funding order
unfoldable pub are_fundings : List Call → Bool
are_fundings [] = true
are_fundings (Call.funding out account amount ∷ calls) = is_account account && (is_amount amount && (leb 16 (length out) && are_fundings calls))
are_fundings (Call.redeeming m verdicts ∷ calls) = false

-- the books: the index is the number of funding orders given, the pot is funding less what was paid, and no order funds more than 10^9
pub record Balanced (rules : Rules) (s : List ℕ) (orders funding paid : ℕ) : Type 0 where
  pub state : is_state rules s ≡ true
  pub index : last_index s ≡ orders
  pub few : orders ≤ 65_535
  pub pot : pot s + paid ≡ funding
  pub most : funding ≤ 1_000_000_000 * orders
