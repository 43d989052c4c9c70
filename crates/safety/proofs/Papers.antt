-- Bodies and funding orders as bytes, and what a state shows of the accounts: the model's words for what the page speaks of. Assumes nothing.
use Prim.Native.Nat.{ℕ, suc, ◌+◌, ◌*◌}
use mathlib.Core.Path.{◌≡◌, sym, ap, ◌∙◌}
use mathlib.Core.Bool.{Bool, ◌||◌, cond}
use mathlib.Core.List.{List, [], ◌∷◌}
use mathlib.Core.Logic.{inl, inr}
use mathlib.Core.Option.{Option, none, some}
use native.Mathlib.Omega.{arith}
use lib.ListN.{length, take}
use lib.Dec.{eqb}
use Rattle.model.specs.Lists.{In, is_in}
use Rattle.model.specs.Quorums.{counting}
use Rattle.model.specs.Histories.{Payments, Event, votes}
use Rattle.model.specs.Worlds as model
use Rattle.model.specs.Views.{Shown, GaveAs}
use Rattle.model.proofs.QuorumLaws.{count_quorum, quorum_count, count_either}
use Rattle.octets.specs.Octets.{same}
use Rattle.octets.proofs.Laws.{same_is, is_same}
use Rattle.wire.specs.Messages.{payment, funding}
use Rattle.states.specs.Headers.{last_index}
use Rattle.records.specs.declared.record.Record.{Record}
use Rattle.records.specs.Records.{bit}
use Rattle.records.specs.States.{Rules, record_of}
use Rattle.safety.specs.Runs.{Moment}
use Rattle.safety.specs.Demand3.{Certain}

-- the model's payments and funding orders are ours
abbrev pub papers : Payments
papers = record {
  Body = List ℕ;
  same = same;
  same_is = same_is;
  is_same = is_same;
  sender = λ b. (payment b).sender.0;
  kind = λ b. (payment b).kind;
  recipient = λ b. (payment b).recipient;
  amount = λ b. (payment b).amount;
  sequence = λ b. (payment b).sequence.0;
  Order = List ℕ;
  account = λ o. (funding o).account.0;
  value = λ o. (funding o).amount;
  index = λ o. (funding o).index.0;
}

-- what a machine did, newest first
abbrev pub History : Type 0
History = List (Event (List ℕ) (List ℕ))

-- what was done up to a moment, as the model's world
abbrev pub world : Moment → model.World (List ℕ) (List ℕ)
world w = record { did = w.did; given = w.given; paid = w.paid }

-- certain as the page says it is certain as the model says it
pub certain_counts : (f : ℕ) (dishonest : ℕ → Bool) (w : Moment) (b : List ℕ) → model.Certain papers (counting f) dishonest (world w) b → Certain f dishonest w b
unfolding model.Certain model.voters
certain_counts f dishonest w b c =
    let votedFor : ℕ → Bool = λ k. is_in same b (votes (w.did k)) in
    omega (arith, count_either dishonest votedFor (3 * f + 1), quorum_count f (λ k. dishonest k || votedFor k) c)

pub counts_certain : (f : ℕ) (dishonest : ℕ → Bool) (w : Moment) (b : List ℕ) → Certain f dishonest w b → model.Certain papers (counting f) dishonest (world w) b
unfolding model.Certain model.voters
counts_certain f dishonest w b c =
    let votedFor : ℕ → Bool = λ k. is_in same b (votes (w.did k)) in
    count_quorum f (λ k. dishonest k || votedFor k) (omega (arith, count_either dishonest votedFor (3 * f + 1)))

-- the pending body of a record, if there is one
abbrev pub opened : Record → Option (List ℕ)
opened r = cond (eqb r.waiting 0) none (some (take r.waiting r.pending))

-- what a machine's state shows
abbrev pub shown : Rules → List ℕ → Shown (List ℕ)
shown rules s = record {
  used = λ x. bit (record_of rules s x).used;
  next_of = λ x. (record_of rules s x).next.0;
  pending = λ x. opened (record_of rules s x);
  balance = λ x. (record_of rules s x).balance;
  last = λ x. last_index s;
}

-- the ledger's orders are numbered from 1 on, the oldest first
abbrev pub Numbered : List (List ℕ) → Type 0
Numbered [] = Unit
Numbered (o ∷ older) = ((funding o).index.0 ≡ suc (length older)) × Numbered older

-- so an order is given as the one of its index
pub given_as : (given : List (List ℕ)) (o : List ℕ) → Numbered given → In o given → GaveAs given o (funding o).index.0
given_as [] o n i = absurd i
given_as (c ∷ older) o n (inl e) = record { newer = []; older = older; placed = ap (λ x. x ∷ older) e; number = sym (ap (λ x. (funding x).index.0) e ∙ n.0) }
given_as (c ∷ older) o n (inr i) =
    let g = given_as older o n.1 i in
    record { newer = c ∷ g.newer; older = g.older; placed = ap (λ l. c ∷ l) g.placed; number = g.number }
