-- Runs in which machines and ledger do what was asked where 01 has one certain answer: the whole effect of the call, with no later test.
use Rattle.std.specs.Prelude.{ℕ, ◌≡◌, Bool, cond, List, [], ◌∷◌, eqb}
use Rattle.model.specs.Histories.{Event}
use Rattle.wire.specs.Messages.{payment, inside, funding}
use Rattle.wire.specs.Refusals.{Said}
use Rattle.invariants.specs.Outcomes.{after_vote, after_debit, after_transfer, after_funding}
use Rattle.bookkeeping.specs.Outcomes.{after_pay}
use Rattle.safety.specs.Runs.{Call, Moment, rules, ledger_rules, answer, acts, keeps_books, after}
use Rattle.safety.specs.Demand3.{AtMostF, OnHonest, Fair, Safe}
use Rattle.evidence.specs.Example.{beginning}

-- the call done, whatever its answer is: the vote given, the payment confirmed and credited, the funding order taken, the body paid. (Fund is left alone)
abbrev pub anyway : Moment → Call → Moment
anyway w (Call.order k m verdicts) = acts w k (after_vote (rules w k) (w.machines k) (inside m)) (Event.voted (inside m) ∷ w.did k)
anyway w (Call.certificate k m verdicts) =
    let p = payment (inside m) in
    acts w k (cond (eqb p.kind 1) (after_debit (rules w k) (w.machines k) p) (after_transfer (rules w k) (w.machines k) p))
    (Event.credited (inside m) ∷ Event.confirmed (inside m) ∷ w.did k)
anyway w (Call.funding_order k m verdicts) = acts w k (after_funding (rules w k) (w.machines k) (funding m)) (Event.funded m ∷ w.did k)
anyway w (Call.fund out account amount) = w
anyway w (Call.redeem m verdicts) = keeps_books w (after_pay (ledger_rules w) w.ledger (payment (inside m))) w.given (inside m ∷ w.paid)

-- a run of four machines without an answer: fair calls on honest machines and on the ledger, of which those that would be answered so are done all
-- the same
pub data Without (said : Said) (dishonest : ℕ → Bool) : Moment → Type 0 where
  starts_fresh : Without said dishonest beginning
  changes_by_call : {w : Moment} → Without said dishonest w → (call : Call) → OnHonest 1 dishonest call → Fair 1 dishonest w call → (answer w call ≡ said → ⊥)
      → Without said dishonest (after w call)
  leaves_out : {w : Moment} → Without said dishonest w → (call : Call) → OnHonest 1 dishonest call → Fair 1 dishonest w call → answer w call ≡ said
      → Without said dishonest (anyway w call)

-- a step of such a run: a call, or one that is done anyway
pub data Step : Type 0 where
  made : Call → Step
  forced : Call → Step

-- the moment after steps, one after another
abbrev pub after_steps : Moment → List Step → Moment
after_steps w [] = w
after_steps w (Step.made call ∷ steps) = after_steps (after w call) steps
after_steps w (Step.forced call ∷ steps) = after_steps (anyway w call) steps

-- the answer stands between fair calls and a broken promise: with at most one machine dishonest, these steps are such a run, and break a promise of
-- demand 3
pub record Guards (said : Said) (dishonest : ℕ → Bool) (steps : List Step) : Type 0 where
  pub few : AtMostF 1 dishonest
  pub run : Without said dishonest (after_steps beginning steps)
  pub broken : Safe 1 dishonest (after_steps beginning steps) → ⊥
