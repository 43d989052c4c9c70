-- Demand 3: nobody can overspend, and the ledger can always pay. Said of the definitions that the contracts of `machine` and `ledger` cite.
-- What stands in quotation marks is the demand's own sentence. A body and a funding order are their bytes; `payment` and `funding` are what
-- they say.
-- Words from other pages. Of lists: `In b l` (b stands in l) and `is_in same b l` (the same as a test), `Distinct l` (nothing stands there twice), `get_or l i 0`
-- (the one at place i), `sum_of g l` (g added up over l), `count p n` (how many of 0 .. n - 1 pass the test p); `only t a` is a where t holds, and
-- otherwise 0; `sub_ℕ a b` is a less b, with its sign. Of what a machine did: `votes`, `debits`, `credits` and `fundings`, the bodies voted
-- for, confirmed and credited, and the funding orders taken. Of messages: `laid` (laid out as these fields), `inside m` (the body in m), `signers_in m`
-- (the machines of its votes), `judged_by` (the judge of certificates, with verdicts). Of states: `Layout` (how one is laid out), `Has l f` (layout l has
-- committees with this f), `WellFormed`, `record_of` (an account's record), `last_index` (the last funding index).
use Rattle.std.specs.Prelude.{ℕ, ◌+◌, ◌*◌, ◌≤◌, ◌<◌, ◌≡◌, Bool, true, false, ◌&&◌, not, List, [], ◌∷◌, length, get_or, eqb}
use Rattle.std.proofs.Math.IntN.{sub_ℕ}
use Rattle.model.specs.Lists.{In, is_in, Distinct, only, sum_of}
use Rattle.model.specs.Quorums.{count}
use Rattle.model.specs.Histories.{votes, debits, credits, fundings}
use Rattle.octets.specs.Octets.{same}
use Rattle.wire.specs.Fields.{laid}
use Rattle.wire.specs.Messages.{certificate_fields, funding_fields, payment, inside, funding}
use Rattle.wire.specs.Votes.{committee, signers_in}
use Rattle.wire.specs.Readers.{judged_by}
use Rattle.states.specs.Headers.{last_index}
use Rattle.records.specs.States as machine
use Rattle.records.specs.Answers.{confirmed}
use Rattle.records.specs.Calls as on-machine
use Rattle.ledger.specs.States as ledger
use Rattle.ledger.specs.Answers.{paid}
use Rattle.invariants.specs.Meaning.{WellFormed}
use Rattle.safety.specs.Runs.{Call, Moment, rules, ledger_rules, start, answer, after}

-- what a body takes from account x, brings account x, and brings the ledger, and 1 if account x is its sender; what a funding order brings
-- account x, and in all
abbrev pub takes : ℕ → List ℕ → ℕ
takes x b = only (eqb (payment b).sender.0 x) (payment b).amount

abbrev pub brings : ℕ → List ℕ → ℕ
brings x b = only (eqb (payment b).kind 0 && eqb (payment b).recipient x) (payment b).amount

abbrev pub to_ledger : List ℕ → ℕ
to_ledger b = only (eqb (payment b).kind 1) (payment b).amount

abbrev pub is_of : ℕ → List ℕ → ℕ
is_of x b = only (eqb (payment b).sender.0 x) 1

abbrev pub funds : ℕ → List ℕ → ℕ
funds x o = only (eqb (funding o).account.0 x) (funding o).amount

abbrev pub amount_of : List ℕ → ℕ
amount_of o = (funding o).amount

-- "Take 3f + 1 settlement machines." f, and which of them are dishonest
module _ (f : ℕ) (dishonest : ℕ → Bool) where
  -- "At most f do as they like"
  abbrev pub AtMostF : Type 0
  AtMostF = count dishonest (3 * f + 1) ≤ f

  -- a machine of "the rest"
  abbrev pub Honest : ℕ → Type 0
  Honest k = (k ≤ 3 * f) × (dishonest k ≡ false)

  -- a call is on an honest machine, or on the ledger: nothing at all is said of what a dishonest machine does
  abbrev pub OnHonest : Call → Type 0
  OnHonest (Call.order k m verdicts) = Honest k
  OnHonest (Call.certificate k m verdicts) = Honest k
  OnHonest (Call.funding_order k m verdicts) = Honest k
  OnHonest (Call.fund out account amount) = Unit
  OnHonest (Call.redeem m verdicts) = Unit

  -- "A good verdict on an honest machine's vote [..] means that machine [..] really gave that one": of each vote of a certificate that comes with
  -- as many verdicts as votes
  abbrev pub FairVotes : Moment → List ℕ → List ℕ → Type 0
  FairVotes w m verdicts = laid m certificate_fields ≡ true → length verdicts ≡ length (signers_in m) → (i : ℕ) → i < length verdicts → get_or verdicts i 0 ≡ 1
      → (let k = get_or (signers_in m) i 0 in Honest k → In (inside m) (votes (w.did k)))

  -- "or on a funding order, means that [..] the ledger really gave that one": these very bytes
  abbrev pub FairFunding : Moment → List ℕ → List ℕ → Type 0
  FairFunding w m verdicts = laid m funding_fields ≡ true → verdicts ≡ 1 ∷ [] → In m w.given

  abbrev pub Fair : Moment → Call → Type 0
  Fair w (Call.order k m verdicts) = Unit
  Fair w (Call.certificate k m verdicts) = FairVotes w m verdicts
  Fair w (Call.funding_order k m verdicts) = FairFunding w m verdicts
  Fair w (Call.fund out account amount) = Unit
  Fair w (Call.redeem m verdicts) = FairVotes w m verdicts

  -- "the rest, like the ledger, start fresh once with that f, each under its own number, and change only by their calls": each in a layout that has this f
  pub data Run : Moment → Type 0 where
    starts_fresh : (layouts : ℕ → machine.Layout) (ledger_layout : ledger.Layout)
        → ((k : ℕ) → Honest k → machine.Has (layouts k) f) → ledger.Has ledger_layout f → Run (start f layouts ledger_layout)
    changes_by_call : {w : Moment} → Run w → (call : Call) → OnHonest call → Fair w call → Run (after w call)

  -- "Call a payment certain once its honest votes plus the number of dishonest machines reach 2f + 1."
  abbrev pub Certain : Moment → List ℕ → Type 0
  Certain w b = 2 * f + 1 ≤ count (λ k. not (dishonest k) && is_in same b (votes (w.did k))) (3 * f + 1) + count dishonest (3 * f + 1)

  -- a good certificate: laid out and in range, with good verdicts alone, from a quorum
  abbrev pub Good : List ℕ → List ℕ → Type 0
  Good m verdicts = (judged_by (committee f) m verdicts).number ≡ 0

  -- "After any messages in any order:"
  pub record Safe (w : Moment) : Type 0 where
    -- the certain payments, as a list that holds each of them once, and nothing else
    pub certains : List (List ℕ)
    pub each_once : Distinct certains
    pub only_certain : (b : List ℕ) → In b certains → Certain w b
    pub all_certain : (b : List ℕ) → Certain w b → In b certains
    -- a good certificate with fair verdicts makes its payment certain
    pub good_certain : (m verdicts : List ℕ) → Good m verdicts → FairVotes w m verdicts → Certain w (inside m)
    -- "no account has two certain payments under one sequence number"
    pub one_a_number : (b c : List ℕ) → Certain w b → Certain w c → (payment b).sender.0 ≡ (payment c).sender.0
        → (payment b).sequence.0 ≡ (payment c).sequence.0 → b ≡ c
    -- "no account's certain payments exceed its funding plus the certain payments to it"
    pub covered : (x : ℕ) → sum_of (takes x) certains ≤ sum_of (funds x) w.given + sum_of (brings x) certains
    -- "the certain payments to the ledger never exceed all funding"
    pub solvent : sum_of to_ledger certains ≤ sum_of amount_of w.given
    -- "a good certificate to the ledger, not yet redeemed, is paid whole"
    pub payable : (m verdicts : List ℕ) → Good m verdicts → FairVotes w m verdicts → (payment (inside m)).kind ≡ 1 → (In (inside m) w.paid → ⊥)
        → answer w (Call.redeem m verdicts) ≡ paid (payment (inside m)).recipient (payment (inside m)).amount
    -- "one body is one payment, redeemed once under any votes": and only a certain one to the ledger is
    pub paid_once : Distinct w.paid
    pub paid_certain : (b : List ℕ) → In b w.paid → Certain w b × ((payment b).kind ≡ 1)
    -- "and each machine counts once for it": a good certificate has 2f + 1 different machines of the committee or more
    pub counted_once : (m verdicts : List ℕ) → Good m verdicts
        → Distinct (signers_in m) × ((k : ℕ) → In k (signers_in m) → k ≤ 3 * f) × (2 * f + 1 ≤ length (signers_in m))

  -- what the bytes show besides
  pub record Kept (w : Moment) : Type 0 where
    -- the rules in force are those of 01, by which the contracts go, and every state is well formed
    pub machines_rules : (k : ℕ) → Honest k → rules w k ≡ machine.base
    pub books_rules : ledger_rules w ≡ ledger.base
    pub machines_formed : (k : ℕ) → Honest k → WellFormed (rules w k) (w.machines k)
    pub ledger_formed : ledger.is_state (ledger_rules w) w.ledger ≡ true
    -- no call is answered with 16, so none meets a limit on balance or pot
    pub unlimited : (call : Call) → OnHonest call → (answer w call).number ≡ 16 → ⊥
    -- "A certificate must count when it comes, even if a balance dips below zero until the credit arrives": in its turn a good one is confirmed
    pub counts : (k : ℕ) → Honest k → (m verdicts : List ℕ) → Good m verdicts
        → (payment (inside m)).sequence.0 ≡ (machine.record_of (rules w k) (w.machines k) (payment (inside m)).sender.0).next.0
        → answer w (Call.certificate k m verdicts) ≡ confirmed (length (signers_in m))
    -- an honest machine confirms and credits a payment once, and only a certain one
    pub debited_once : (k : ℕ) → Honest k → Distinct (debits (w.did k))
    pub credited_once : (k : ℕ) → Honest k → Distinct (credits (w.did k))
    pub debits_certain : (k : ℕ) → Honest k → (b : List ℕ) → In b (debits (w.did k)) → Certain w b
    -- a balance is the funding taken plus the confirmed credits less the confirmed payments; it may be negative
    pub balances : (k : ℕ) → Honest k → (x : ℕ) → x ≤ 63 → (on-machine.account (rules w k) (w.machines k) x).balance
        ≡ sub_ℕ (sum_of (funds x) (fundings (w.did k)) + sum_of (brings x) (credits (w.did k))) (sum_of (takes x) (debits (w.did k)))
    -- a next sequence is the number of confirmed payments, an index that of the funding orders taken or given, the pot all funding less what was paid
    pub nexts : (k : ℕ) → Honest k → (x : ℕ) → x ≤ 63 → (machine.record_of (rules w k) (w.machines k) x).next.0 ≡ sum_of (is_of x) (debits (w.did k))
    pub indexes : (k : ℕ) → Honest k → last_index (w.machines k) ≡ length (fundings (w.did k))
    pub ledger_index : last_index w.ledger ≡ length w.given
    pub pot : ledger.pot w.ledger + sum_of to_ledger w.paid ≡ sum_of amount_of w.given

-- the third demand, for every f of 01; `demand3` in proofs/Demand3.antt proves it
abbrev pub Demand3 : Type 0
Demand3 = (f : ℕ) → f ≤ 5 → (dishonest : ℕ → Bool) → AtMostF f dishonest → (w : Moment) → Run f dishonest w
    → Safe f dishonest w × Kept f dishonest w
