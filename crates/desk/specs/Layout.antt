-- How answers cross the C interface. An answer is one number: its lowest byte is 0 or the number of a refusal, and above it the values stand
-- side by side, each in its bits, the first lowest. Values that do not fit go into a lent array.
use Rattle.std.specs.Prelude.{ℕ, ◌+◌, ◌*◌, ◌^◌, ◌<◌, List, [], ◌∷◌, ◌++◌, eqb, ℤ, cond}
use Rattle.octets.specs.Octets.{put}
use Rattle.wire.specs.Refusals.{Said, gives}
use Rattle.wire.specs.Writers.{Written}
use Rattle.wire.specs.declared.answers.Stretch.{Stretch}
use Rattle.wire.specs.declared.kinds.Payment.{Payment}
use Rattle.wire.specs.declared.kinds.Funding.{Funding}
use Rattle.states.specs.Outcomes.{Outcome}
use Rattle.records.specs.Answers.{AccountShown}
use Rattle.ledger.specs.Answers.{FundOutcome}

-- values side by side, each in as many bits as stand beside it
abbrev pub beside : List ℕ → List ℕ → ℕ
beside [] vs = 0
beside (w ∷ ws) [] = 0
beside (w ∷ ws) (v ∷ vs) = v + 2 ^ w * beside ws vs

-- the number of an answer
abbrev pub packed : List ℕ → Said → ℕ
packed widths said = said.number + 256 * beside widths said.values

-- each value has room in its bits
abbrev pub Fit : List ℕ → List ℕ → Type 0
Fit [] vs = Unit {0}
Fit (w ∷ ws) [] = Unit {0}
Fit (w ∷ ws) (v ∷ vs) = (v < 2 ^ w) × Fit ws vs

-- a call that has nothing to say but a refusal
abbrev pub no_bits : List ℕ
no_bits = []

-- an order: 0 vote, new; 1 vote, repeated
abbrev pub order_bits : List ℕ
order_bits = 8 ∷ []

-- a certificate: 0 confirmed, 1 already; the votes counted
abbrev pub certificate_bits : List ℕ
certificate_bits = 8 ∷ 8 ∷ []

-- fund: the index of the funding order
abbrev pub fund_bits : List ℕ
fund_bits = 16 ∷ []

-- redeem: ledger account, amount
abbrev pub redeem_bits : List ℕ
redeem_bits = 16 ∷ 32 ∷ []

-- whether a sequence is in the log: 1 if so
abbrev pub log_bits : List ℕ
log_bits = 8 ∷ []

-- a writer: how many bytes were written
abbrev pub written_bits : List ℕ
written_bits = 16 ∷ []

-- an uncopied part: 0 in the message, 1 in the state; its place; its length
abbrev pub stretch_bits : List ℕ
stretch_bits = 8 ∷ 16 ∷ 16 ∷ []

-- a part of the message
abbrev pub stretch_said : Stretch → Said
stretch_said at = gives (0 ∷ at.place ∷ at.length ∷ [])

-- a number, and what a state, an output or an array of values holds afterwards
pub record Left : Type 0 where
  pub number : ℕ
  pub holds : List ℕ

abbrev pub left : ℕ → List ℕ → Left
left n vs = record { number = n; holds = vs }

-- what a call on a state leaves
abbrev pub crossing : List ℕ → Outcome → Left
crossing widths o = left (packed widths o.answer) o.state

-- what a writer leaves
abbrev pub writing : Written → Left
writing w = left (packed written_bits w.answer) w.out

-- an answer whose values go into a lent array. A refusal has none and leaves the array
abbrev pub showing : Said → List ℕ → Left
showing said vs = left said.number (put vs 0 said.values)

-- the length of a note behind the values; a refusal has none
abbrev pub noted : Said → ℕ → Said
noted said n = cond (eqb said.number 0) (gives (said.values ++ (n ∷ []))) said

-- a number, and both the state and the output afterwards
pub record FundLeft : Type 0 where
  pub number : ℕ
  pub state : List ℕ
  pub out : List ℕ

abbrev pub fund_left : ℕ → List ℕ → List ℕ → FundLeft
fund_left n s out = record { number = n; state = s; out = out }

-- what fund leaves
abbrev pub funding : FundOutcome → FundLeft
funding o = fund_left (packed fund_bits o.answer) o.state o.out

-- a number, the array of values and the balance afterwards
pub record AccountLeft : Type 0 where
  pub number : ℕ
  pub values : List ℕ
  pub balance : ℤ

abbrev pub account_left : ℕ → List ℕ → ℤ → AccountLeft
account_left n vs balance = record { number = n; values = vs; balance = balance }

-- what reading an account leaves: in use, next sequence and free to spend in the array, the balance beside it
abbrev pub reading : AccountShown → List ℕ → ℤ → AccountLeft
reading shown vs balance =
    account_left shown.answer.number (put vs 0 shown.answer.values) (cond (eqb shown.answer.number 0) shown.balance balance)

-- a payment from the numbers that a writer takes
abbrev pub pays : ℕ → ℕ → ℕ → ℕ → ℕ → Payment
pays sender kind recipient amount sequence =
    record { sender = record { 0 = sender }; kind = kind; recipient = recipient; amount = amount; sequence = record { 0 = sequence } }

-- a funding order from the numbers that its writer takes
abbrev pub funds : ℕ → ℕ → ℕ → Funding
funds index account amount = record { index = record { 0 = index }; account = record { 0 = account }; amount = amount }
