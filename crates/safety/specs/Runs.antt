-- What calls on machines and on the ledger leave, moment by moment, and what was done, going by the answers.
-- A body and a funding order are their bytes.
use Rattle.std.specs.Prelude.{ℕ, Bool, ◌&&◌, cond, List, [], ◌∷◌, get_or, take, eqb}
use Rattle.model.specs.Lists.{instead}
use Rattle.model.specs.Histories.{Event}
use Rattle.wire.specs.Messages.{inside}
use Rattle.wire.specs.Refusals.{Said}
use Rattle.records.specs.States as machine
use Rattle.records.specs.Calls as on-machine
use Rattle.ledger.specs.States as ledger
use Rattle.ledger.specs.Calls as on-ledger

-- a call: on a machine, by its number, with a message and verdicts; on the ledger, with an output, account and amount, or with a message and
-- verdicts. Any bytes and numbers may be lent to it
pub data Call : Type 0 where
  order : ℕ → List ℕ → List ℕ → Call
  certificate : ℕ → List ℕ → List ℕ → Call
  funding_order : ℕ → List ℕ → List ℕ → Call
  fund : List ℕ → ℕ → ℕ → Call
  redeem : List ℕ → List ℕ → Call

-- A moment. Of each machine its layout, the further refusals in force on it and its bytes, of the ledger its layout and its bytes; and what was done up to
-- then, going by the answers, newest first: by each machine, the funding orders that the ledger wrote, and the bodies that it paid
pub record Moment : Type 0 where
  pub layouts : ℕ → machine.Layout
  pub refusals : ℕ → machine.Refusals
  pub machines : ℕ → List ℕ
  pub did : ℕ → List (Event (List ℕ) (List ℕ))
  pub ledger_layout : ledger.Layout
  pub ledger : List ℕ
  pub given : List (List ℕ)
  pub paid : List (List ℕ)

-- the rules in force on a machine, and on the ledger
abbrev pub rules : Moment → ℕ → machine.Rules
rules w k = machine.rules_of (w.layouts k) (w.refusals k)

abbrev pub ledger_rules : Moment → ledger.Rules
ledger_rules w = ledger.rules_of w.ledger_layout

-- all fresh with this f, each machine under its own number, in these layouts
abbrev pub start : ℕ → (ℕ → machine.Layout) → ledger.Layout → Moment
start f layouts ledger_layout = record {
  layouts = layouts;
  refusals = λ k. machine.Refusals.none;
  machines = λ k. machine.fresh_in (layouts k) f k;
  did = λ k. [];
  ledger_layout = ledger_layout;
  ledger = ledger.fresh_in ledger_layout f;
  given = [];
  paid = [];
}

-- what a call answers, by the rules in force where it is made
abbrev pub answer : Moment → Call → Said
answer w (Call.order k m verdicts) = (on-machine.order (rules w k) (w.machines k) m verdicts).answer
answer w (Call.certificate k m verdicts) = (on-machine.certificate (rules w k) (w.machines k) m verdicts).answer
answer w (Call.funding_order k m verdicts) = (on-machine.funding_order (rules w k) (w.machines k) m verdicts).answer
answer w (Call.fund out account amount) = (on-ledger.fund (ledger_rules w) w.ledger out account amount).answer
answer w (Call.redeem m verdicts) = (on-ledger.redeem (ledger_rules w) w.ledger m verdicts).answer

-- one more in front, unless the call was refused
abbrev pub noted : {A : Type 0} → Said → A → List A → List A
noted said a l = cond (eqb said.number 0) (a ∷ l) l

-- a certificate was confirmed: answered by 0 and not by *already*
abbrev pub is_confirmed : Said → Bool
is_confirmed said = eqb said.number 0 && eqb (get_or said.values 0 1) 0

-- the moment with other bytes and deeds of a machine, and of the ledger
abbrev pub acts : Moment → ℕ → List ℕ → List (Event (List ℕ) (List ℕ)) → Moment
acts w k s did = record {
  layouts = w.layouts;
  refusals = w.refusals;
  machines = instead k s w.machines;
  did = instead k did w.did;
  ledger_layout = w.ledger_layout;
  ledger = w.ledger;
  given = w.given;
  paid = w.paid;
}

abbrev pub keeps_books : Moment → List ℕ → List (List ℕ) → List (List ℕ) → Moment
keeps_books w s given paid = record {
  layouts = w.layouts;
  refusals = w.refusals;
  machines = w.machines;
  did = w.did;
  ledger_layout = w.ledger_layout;
  ledger = s;
  given = given;
  paid = paid;
}

-- the moment after a call: every byte as the contract says, and what the answer says was done
abbrev pub after : Moment → Call → Moment
after w (Call.order k m verdicts) =
    let o = on-machine.order (rules w k) (w.machines k) m verdicts in
    acts w k o.state (noted o.answer (Event.voted (inside m)) (w.did k))
after w (Call.certificate k m verdicts) =
    let o = on-machine.certificate (rules w k) (w.machines k) m verdicts in
    acts w k o.state (cond (is_confirmed o.answer) (Event.credited (inside m) ∷ Event.confirmed (inside m) ∷ w.did k) (w.did k))
after w (Call.funding_order k m verdicts) =
    let o = on-machine.funding_order (rules w k) (w.machines k) m verdicts in
    acts w k o.state (noted o.answer (Event.funded m) (w.did k))
after w (Call.fund out account amount) =
    let o = on-ledger.fund (ledger_rules w) w.ledger out account amount in
    keeps_books w o.state (noted o.answer (take 16 o.out) w.given) w.paid
after w (Call.redeem m verdicts) =
    let o = on-ledger.redeem (ledger_rules w) w.ledger m verdicts in
    keeps_books w o.state w.given (noted o.answer (inside m) w.paid)
