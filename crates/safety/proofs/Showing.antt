-- What each call on a machine does to what its state shows, as an effect of the model. Assumes nothing.
use Prim.Native.Nat.{ℕ, suc, ◌+◌, ◌≤◌, ◌<◌, min}
use mathlib.Core.Path.{◌≡◌, refl, sym, ap, subst, ◌∙◌}
use mathlib.Core.Bool.{Bool, true, false, ◌||◌, cond, false≢true}
use mathlib.Core.Logic.{inl}
use mathlib.Core.List.{List, [], ◌∷◌, ◌++◌}
use mathlib.Core.Option.{some}
use native.Mathlib.Omega.{arith}
use lib.ListN.{length, drop, replicate}
use lib.Seq.{take-take}
use lib.Dec.{eqb}
use borrow.Author.Tests.{eqb-true, eqb-false, eq-eqb, ne_eqb}
use Rattle.model.specs.Lists.{In, only}
use Rattle.model.specs.Histories.{Event, out_of, into, is_of, is_to}
use Rattle.model.specs.Views.{GaveAs, Effect, events, Follows, SameTurns, Same, Turned, Changed, Grounded}
use Rattle.model.proofs.SumLaws.{only_le}
use Rattle.model.proofs.Following.{follows_fresh, changed_since, debited_until}
use Rattle.model.proofs.Limits.{Modest}
use Rattle.octets.specs.Octets.{two, bytes}
use Rattle.octets.proofs.Laws.{length_bytes, number_put_out, cut_put, same_is}
use Rattle.wire.specs.Fields.{laid}
use Rattle.wire.specs.Messages.{funding_fields, payment, inside, funding}
use Rattle.wire.specs.Votes.{good}
use Rattle.wire.specs.Readers.{is_body, judged_by}
use Rattle.octets.proofs.TestLaws.{both, either_first, either_second, neither}
use Rattle.wire.proofs.Laid.{body_laid}
use Rattle.states.specs.Headers.{last_index, with_index}
use Rattle.records.specs.declared.record.Record.{Record}
use Rattle.records.specs.Balances.{nought, highest}
use Rattle.records.specs.Records.{bit, record_at, record_bytes, fresh_record, holding, paid, credited}
use Rattle.records.specs.States.{Rules, base, place, record_of, pending_of, with_record, fresh_state}
use Rattle.records.specs.Calls as on-machine
use Rattle.records.specs.Calls.{debited}
use Rattle.invariants.specs.RecordLaws.{Formed, record_stays, record_behind, holding_formed, paid_formed, credited_formed}
use Rattle.invariants.specs.Meaning.{WellFormed, Moved, Lays, KeepsAll}
use Rattle.invariants.specs.Outcomes.{after_vote, after_paid, after_debit, after_sending, after_funding, Repeated, Voted, Settled, Sent, Funded, order_cases, certificate_cases, funding_cases, order_comes, certificate_comes, funding_comes}
use Rattle.invariants.specs.Keeping.{formed_of, with_record_keeps}
use Rattle.invariants.specs.Bounds.{follows_index, read_back, fresh_record_lem, fresh_index}
use Rattle.invariants.specs.Moving.{moved_record, moved_formed, tallied_moved, sending_moved}
use Rattle.safety.specs.Runs.{noted, is_confirmed}
use Rattle.safety.proofs.Papers.{papers, History, opened, shown, Numbered, given_as}

-- a record written is the account's, and the others stay
pub record_after : (rules : Rules) (s : List ℕ) (a : ℕ) (r : Record) → WellFormed rules s → a ≤ 63 → Formed a r
    → (y : ℕ) → record_of rules (with_record rules s a r) y ≡ cond (eqb a y) r (record_of rules s y)
record_after rules s a r w h f y = go (eqb a y) refl
  where
    go : (t : Bool) → eqb a y ≡ t → record_of rules (with_record rules s a r) y ≡ cond t r (record_of rules s y)
    go true e = ap (record_of rules (with_record rules s a r)) (sym (eqb-true a y e)) ∙ read_back rules s a r w h f
    go false e = record_stays rules s a y r (omega (arith, f.size)) (eqb-false a y e)

-- what holds of the record written, and of each other one, holds of every account's afterwards
each : (rules : Rules) (s : List ℕ) (a : ℕ) (r : Record) → WellFormed rules s → a ≤ 63 → Formed a r
    → (Q : ℕ → Record → Bool → Type 0) → Q a r true → ((y : ℕ) → Q y (record_of rules s y) false) → (y : ℕ)
    → Q y (record_of rules (with_record rules s a r) y) (eqb a y)
each rules s a r w h f Q here there y = subst (λ (x : Record). Q y x (eqb a y)) (sym (record_after rules s a r w h f y)) (go (eqb a y) refl)
  where
    go : (t : Bool) → eqb a y ≡ t → Q y (cond t r (record_of rules s y)) t
    go true e = subst (λ (n : ℕ). Q n r true) (eqb-true a y e) here
    go false e = there y

-- the index stays
index_stays : (rules : Rules) → Lays rules → (s : List ℕ) (a : ℕ) (r : Record) → last_index (with_record rules s a r) ≡ last_index s
index_stays rules l s a r = number_put_out two s (place rules a) (record_bytes r) 2 (λ j p q u v. omega (arith, l.room))

-- a body in its record is open
opened_holding : (r : Record) (body : List ℕ) → is_body body ≡ true → opened (holding r body) ≡ some body
unfolding holding
opened_holding r body b =
    let l = body_laid body (both _ _ b).0 in
    let n : length (replicate {A = ℕ} 57 0) ≡ 57 = refl in
    rw (ne_eqb (length body) 0 (λ e. omega arith), cut_put (replicate 57 0) 0 body (omega arith))

-- the pending body of a state is the open one of its record
opened_pending : (rules : Rules) (s : List ℕ) (a : ℕ) → WellFormed rules s → a ≤ 63 → 0 < (record_of rules s a).waiting
    → opened (record_of rules s a) ≡ some (pending_of rules s a)
unfolding record_at
opened_pending rules s a w h waits =
    let r = record_of rules s a in
    rw (ne_eqb r.waiting 0 (λ e. omega arith), take-take r.waiting 57 (drop (place rules a + 12) s) (formed_of rules s a w h).fits.waiting)

-- a state shows what it shows
still : (rules : Rules) (s : List ℕ) → Same papers 64 nought (shown rules s) (shown rules s)
still rules s = record { turns = record { pendings = λ y k. refl; nexts = λ y k. refl }; balances = λ y k. refl; marks = λ y k. refl; indexes = λ y k. refl }

-- and so does a state that was moved
pub moved_shows : (rules : Rules) (s : List ℕ) (rules' : Rules) (t : List ℕ) → Moved rules s rules' t → Same papers 64 nought (shown rules s) (shown rules' t)
moved_shows rules s rules' t m =
    let same : (y : ℕ) → y < 64 → record_of rules' t y ≡ record_of rules s y = λ y k. moved_record rules s rules' t m y (omega arith) in
    record {
      turns = record { pendings = λ y k. ap opened (same y k); nexts = λ y k. ap (λ (r : Record). r.next.0) (same y k) };
      balances = λ y k. ap (λ (r : Record). r.balance) (same y k);
      marks = λ y k. ap (λ (r : Record). bit r.used) (same y k);
      indexes = λ y k. m.index;
    }

-- a mark that stays
mark_stays : (t : Bool) → bit t ≡ min (bit t + 0) 1
mark_stays true = refl
mark_stays false = refl

-- one state shows n more in an account than another and has it in use, and shows the same otherwise
record Gains (rules : Rules) (s t : List ℕ) (a n : ℕ) : Type 0 where
  turns : SameTurns papers 64 nought (shown rules s) (shown rules t)
  balances : (y : ℕ) → (record_of rules t y).balance ≡ (record_of rules s y).balance + only (eqb a y) n
  marks : (y : ℕ) → bit (record_of rules t y).used ≡ min (bit (record_of rules s y).used + only (eqb a y) 1) 1
  index : last_index t ≡ last_index s

-- so does a state where the account is credited with n
gains : (rules : Rules) → Lays rules → (s : List ℕ) (a n : ℕ) → WellFormed rules s → a ≤ 63 → (record_of rules s a).balance + n ≤ highest
    → Gains rules s (with_record rules s a (credited (record_of rules s a) n)) a n
unfolding credited
gains rules l s a n w h room =
    let after = each rules s a (credited (record_of rules s a) n) w h (credited_formed a _ n (formed_of rules s a w h) room) in
    record {
      turns = record {
        pendings = λ y k. after (λ x r t. opened r ≡ opened (record_of rules s x)) refl (λ x. refl) y;
        nexts = λ y k. after (λ x r t. r.next.0 ≡ (record_of rules s x).next.0) refl (λ x. refl) y;
      };
      balances = after (λ x r t. r.balance ≡ (record_of rules s x).balance + only t n) refl (λ x. omega arith);
      marks = after (λ x r t. bit r.used ≡ min (bit (record_of rules s x).used + only t 1) 1) (omega arith) (λ x. mark_stays (record_of rules s x).used);
      index = index_stays rules l s a _;
    }

-- the accounts that an effect touches are kept here, but for the recipient of a body that is only debited
abbrev pub Here : Rules → Effect (List ℕ) (List ℕ) → Type 0
Here rules Effect.nothing = Unit {0}
Here rules (Effect.new_vote b) = rules.keeps (payment b).sender.0 ≡ true
Here rules (Effect.same_vote b) = rules.keeps (payment b).sender.0 ≡ true
Here rules (Effect.settled b) = (rules.keeps (payment b).sender.0 ≡ true) × ((payment b).kind ≡ 0 → rules.keeps (payment b).recipient ≡ true)
Here rules (Effect.debited b) = (rules.keeps (payment b).sender.0 ≡ true) × ((payment b).kind ≡ 0) × (rules.keeps (payment b).recipient ≡ false)
Here rules (Effect.delivered b) = ⊥
Here rules (Effect.took o) = rules.keeps (funding o).account.0 ≡ true
Here rules (Effect.noted o) = ⊥

-- what a call did to a state: an effect, by which the state shows something else and the history is longer
pub record Does (rules : Rules) (Certain : List ℕ → Type 0) (given : List (List ℕ)) (s t : List ℕ) (h longer : History) : Type 0 where
  pub effect : Effect (List ℕ) (List ℕ)
  pub changed : Changed papers 64 nought given (shown rules s) (shown rules t) effect
  pub grounded : Grounded papers 64 nought Certain h effect
  pub modest : Modest papers 64 nought effect
  pub here : Here rules effect
  pub history : longer ≡ events effect ++ h

-- a body confirmed, and credited at once; or its credit is left for later
abbrev pub confirming : Bool → List ℕ → History → History
confirming near b h = cond near (Event.credited b ∷ Event.confirmed b ∷ h) (Event.confirmed b ∷ h)

-- a payment is done with where it is confirmed: it goes to the ledger, or to an account that is kept there
abbrev pub is_near : Rules → List ℕ → Bool
is_near rules b = eqb (payment b).kind 1 || rules.keeps (payment b).recipient

-- where these bodies are certain and the ledger gave these orders
module _ (rules : Rules) (lays : Lays rules) (Certain : List ℕ → Type 0) (given : List (List ℕ)) (h : History) (m verdicts : List ℕ) where
  -- what a call does
  abbrev Comes : List ℕ → List ℕ → History → Type 0
  Comes s t longer = Does rules Certain given s t h longer

  -- the sender of the body
  abbrev sender : ℕ
  sender = (payment (inside m)).sender.0

  -- what is done to a state that shows the same as another is done to that one
  since : (r s t : List ℕ) (longer : History) → Moved rules r rules s → Comes s t longer → Comes r t longer
  since r s t longer moved d = record {
    effect = d.effect;
    changed = changed_since papers 64 nought given (shown rules r) (shown rules s) (shown rules t) d.effect (moved_shows rules r rules s moved) d.changed;
    grounded = d.grounded;
    modest = d.modest;
    here = d.here;
    history = d.history;
  }

  module _ (s : List ℕ) (formed : WellFormed rules s) where
    -- the sender's record
    abbrev from : Record
    from = record_of rules s sender

    -- an answer that changes nothing
    nothing : Comes s s h
    nothing = record { effect = Effect.nothing; changed = still rules s; grounded = tt; modest = tt; here = tt; history = refl }

    -- a vote repeated
    votes_again : rules.keeps sender ≡ true → Repeated rules s (inside m) → Comes s s (Event.voted (inside m) ∷ h)
    votes_again kept v = record {
      effect = Effect.same_vote (inside m);
      changed = (
        omega (arith, v.range.sender),
        opened_pending rules s sender formed v.range.sender v.waiting ∙ ap some (same_is (pending_of rules s sender) (inside m) v.pending),
        still rules s,
      );
      grounded = tt;
      modest = tt;
      here = kept;
      history = refl;
    }

    -- a new vote
    votes_new : rules.keeps sender ≡ true → Voted (inside m) from → Comes s (after_vote rules s (inside m)) (Event.voted (inside m) ∷ h)
    unfolding holding
    votes_new kept v =
        let f = holding_formed sender from (inside m) (formed_of rules s sender formed v.range.sender) v.used v.formed refl v.next in
        let after = each rules s sender (holding from (inside m)) formed v.range.sender f in
        record {
          effect = Effect.new_vote (inside m);
          changed = record {
            sender_in = omega (arith, v.range.sender);
            free = rw v.waiting;
            turn = v.next;
            enough = v.covered;
            stored = ap opened (read_back rules s sender _ formed v.range.sender f) ∙ opened_holding from (inside m) v.formed;
            others = λ y k n. ap opened (record_stays rules s sender y _ (omega (arith, f.size)) (λ e. n (sym e)));
            nexts = λ y k. after (λ x r t. r.next.0 ≡ (record_of rules s x).next.0) refl (λ x. refl) y;
            balances = λ y k. after (λ x r t. r.balance ≡ (record_of rules s x).balance) refl (λ x. refl) y;
            marks = λ y k. after (λ x r t. bit r.used ≡ bit (record_of rules s x).used) refl (λ x. refl) y;
            indexes = λ y k. index_stays rules lays s sender _;
          };
          grounded = tt;
          modest = tt;
          here = kept;
          history = refl;
        }

    -- an order is refused, or its vote is repeated or new
    pub order_does : (let o = on-machine.order rules s m verdicts in Comes s o.state (noted o.answer (Event.voted (inside m)) h))
    order_does =
        order_cases (λ o. Comes s o.state (noted o.answer (Event.voted (inside m)) h)) rules s
        (λ n k. rw (ne_eqb n 0 (λ e. omega arith)) nothing) m verdicts votes_again votes_new

    -- a certificate of the next sequence, where n is taken off its sender's balance
    module _ (v : Settled (payment (inside m)) from) (n : ℕ) where
      abbrev reduced : List ℕ
      reduced = after_paid rules s (payment (inside m)) n

      -- the sender's new record is well formed, and so is the state with it
      payer_formed : Formed sender (paid from n)
      payer_formed = paid_formed sender from n (formed_of rules s sender formed v.range.sender) (omega (arith, v.next, v.range.sequence))

      reduced_formed : WellFormed rules reduced
      reduced_formed = with_record_keeps rules lays s sender _ v.range.sender formed payer_formed

      -- the other records stay
      reduced_stays : (y : ℕ) → (y ≡ sender → ⊥) → record_of rules reduced y ≡ record_of rules s y
      reduced_stays y other = record_stays rules s sender y _ (omega (arith, payer_formed.size)) (λ e. other (sym e))

      -- what holds of the sender's new record, and of each other one, holds of every account's afterwards
      paying : (Q : ℕ → Record → Bool → Type 0) → Q sender (paid from n) true → ((y : ℕ) → Q y (record_of rules s y) false) → (y : ℕ)
          → Q y (record_of rules reduced y) (eqb sender y)
      paying = each rules s sender _ formed v.range.sender payer_formed

      -- the balances and the marks afterwards
      lowered : n ≤ from.balance → (y : ℕ) → (record_of rules reduced y).balance + only (eqb sender y) n ≡ (record_of rules s y).balance
      unfolding paid
      lowered enough = paying (λ y r t. r.balance + only t n ≡ (record_of rules s y).balance) (omega arith) (λ y. omega arith)

      marked : (y : ℕ) → bit (record_of rules reduced y).used ≡ min (bit (record_of rules s y).used + only (eqb sender y) 1) 1
      unfolding paid
      marked = paying (λ y r t. bit r.used ≡ min (bit (record_of rules s y).used + only t 1) 1) (omega arith) (λ y. mark_stays (record_of rules s y).used)

      -- where the turns stay from then on, its sender's turn is over
      turned : (t : List ℕ) → SameTurns papers 64 nought (shown rules reduced) (shown rules t) → last_index t ≡ last_index reduced
          → Turned papers 64 nought (shown rules s) (shown rules t) (inside m)
      unfolding paid
      turned t turns index = record {
        sender_in = omega (arith, v.range.sender);
        turn = v.next;
        cleared = turns.pendings sender (omega (arith, v.range.sender)) ∙ ap opened (read_back rules s sender _ formed v.range.sender payer_formed);
        others = λ y k o. turns.pendings y k ∙ ap opened (reduced_stays y o);
        nexts = λ y k. turns.nexts y k ∙ paying (λ x r t. r.next.0 ≡ (record_of rules s x).next.0 + only t 1) refl (λ x. omega arith) y;
        indexes = λ y k. index ∙ index_stays rules lays s sender _;
      }

      -- and where balances and marks are those that the body asks for, the body is settled
      settles : (t : List ℕ) → SameTurns papers 64 nought (shown rules reduced) (shown rules t) → last_index t ≡ last_index reduced
          → ((y : ℕ) → (record_of rules t y).balance + out_of papers y (inside m) ≡ (record_of rules s y).balance + into papers y (inside m))
          → ((y : ℕ) → bit (record_of rules t y).used ≡ min (bit (record_of rules s y).used + is_of papers y (inside m) + is_to papers y (inside m)) 1)
          → Certain (inside m) → Here rules (Effect.settled (inside m)) → Comes s t (Event.credited (inside m) ∷ Event.confirmed (inside m) ∷ h)
      settles t turns index money marks certain here = record {
        effect = Effect.settled (inside m);
        changed = record { turned = turned t turns index; balances = λ y k. money y; marks = λ y k. marks y };
        grounded = certain;
        modest = v.range.amount;
        here = here;
        history = refl;
      }

      -- or it is debited alone, also where the state then shows the same
      takes_off : (t : List ℕ) → Moved rules reduced rules t
          → ((y : ℕ) → (record_of rules reduced y).balance + out_of papers y (inside m) ≡ (record_of rules s y).balance)
          → Certain (inside m) → Here rules (Effect.debited (inside m)) → Comes s t (Event.confirmed (inside m) ∷ h)
      takes_off t moved money certain here = record {
        effect = Effect.debited (inside m);
        changed = debited_until papers 64 nought (shown rules s) (shown rules reduced) (shown rules t) (inside m) (record {
          turned = turned reduced (still rules reduced).turns refl;
          balances = λ y k. money y;
          marks = λ y k. marked y;
        }) (moved_shows rules reduced rules t moved);
        grounded = certain;
        modest = v.range.amount;
        here = here;
        history = refl;
      }

    -- a funding order of the next index
    takes : (let o = funding m in let a = o.account.0 in
        rules.keeps a ≡ true → Funded (last_index s) o (record_of rules s a) → GaveAs given m (suc (last_index s))
        → Comes s (with_record rules (with_index s o.index.0) a (credited (record_of rules s a) o.amount)) (Event.funded m ∷ h))
    takes kept v gave =
        let o = funding m in
        let a = o.account.0 in
        let i = o.index.0 in
        let behind : (y : ℕ) → record_of rules (with_index s i) y ≡ record_of rules s y = λ y.
        record_behind rules s 2 (bytes two i) y (omega (arith, length_bytes two i, lays.room)) in
        let f = follows_index rules lays 0 s i formed v.range.index in
        let g = rw (behind a) at (gains rules lays (with_index s i) a o.amount f.formed v.range.account (rw (behind a) v.room)) in
        record {
          effect = Effect.took m;
          changed = record {
            in_range = omega (arith, v.range.account);
            owner = gave;
            turn = omega (arith, v.index);
            turns = record {
              pendings = λ y k. g.turns.pendings y k ∙ ap opened (behind y);
              nexts = λ y k. g.turns.nexts y k ∙ ap (λ (r : Record). r.next.0) (behind y);
            };
            balances = λ y k. rw (behind y) at (g.balances y);
            marks = λ y k. rw (behind y) at (g.marks y);
            indexes = λ y k. inl (omega (arith, g.index, f.same_index, v.index), gave);
          };
          grounded = tt;
          modest = v.range.amount;
          here = kept;
          history = refl;
        }

  -- a state whose header took note of the amount: it was moved by that, and the sender's record stays
  module _ (s : List ℕ) (formed : WellFormed rules s) (v : Settled (payment (inside m)) (record_of rules s sender))
      (noted-it : rules.may_tally s (payment (inside m)).amount 0 ≡ true) where
    abbrev noting : List ℕ
    noting = rules.tallied s (payment (inside m)).amount 0

    noting_moved : Moved rules s rules noting
    noting_moved = tallied_moved rules lays s (payment (inside m)).amount 0 formed.state noted-it

    noting_formed : WellFormed rules noting
    noting_formed = moved_formed rules s rules noting noting_moved formed

    payer_stays : record_of rules noting sender ≡ record_of rules s sender
    payer_stays = moved_record rules s rules noting noting_moved sender v.range.sender

    -- a body that pays the ledger
    to_ledger_lem : (payment (inside m)).kind ≡ 1 → (payment (inside m)).amount ≤ (record_of rules s sender).balance → rules.keeps sender ≡ true → Certain (inside m)
        → Comes s (after_debit rules s (payment (inside m))) (Event.credited (inside m) ∷ Event.confirmed (inside m) ∷ h)
    to_ledger_lem kind enough kept certain =
        let n = (payment (inside m)).amount in
        let w : Settled (payment (inside m)) (record_of rules noting sender) = rw payer_stays v in
        let low : n ≤ (record_of rules noting sender).balance = rw payer_stays enough in
        rw payer_stays at (since s noting _ _ noting_moved
        (settles noting noting_formed w n _ (still rules _).turns refl (λ y. rw kind (omega (arith, lowered noting noting_formed w n low y)))
        (λ y. rw kind (omega (arith, marked noting noting_formed w n y))) certain (kept, λ z. absurd (omega (arith, z, kind)))))

    -- a body whose credit is sent
    sends : Sent rules s (payment (inside m)) (record_of rules s sender) → rules.keeps sender ≡ true → Certain (inside m)
        → Comes s (after_sending rules s (payment (inside m))) (Event.confirmed (inside m) ∷ h)
    sends g kept certain =
        let p = payment (inside m) in
        let w : Settled p (record_of rules noting sender) = rw payer_stays v in
        let low : p.amount ≤ (record_of rules noting sender).balance = rw payer_stays g.enough in
        let new = reduced_formed noting noting_formed w p.amount in
        subst (λ (r : Record). Comes s (rules.sent (debited rules s p r) p.recipient p.amount) (Event.confirmed (inside m) ∷ h)) payer_stays
        (since s noting _ _ noting_moved (takes_off noting noting_formed w p.amount _ (sending_moved rules lays s p _ g.place new.state)
        (lowered noting noting_formed w p.amount low) certain (kept, g.kind, g.away)))

  module _ (s : List ℕ) (formed : WellFormed rules s) where
    -- a good certificate's body is certain
    pub certificate_does : ((judged_by (rules.committee s) m verdicts).number ≡ 0 → Certain (inside m))
        → (let o = on-machine.certificate rules s m verdicts in
        Comes s o.state (cond (is_confirmed o.answer) (confirming (is_near rules (inside m)) (inside m) h) h))
    certificate_does certain =
        let p = payment (inside m) in
        let near = is_near rules (inside m) in
        let at_once : near ≡ true → (t : List ℕ) → Comes s t (confirming true (inside m) h) → Comes s t (confirming near (inside m) h) = λ e t d. rw e d in
        certificate_cases (λ o. Comes s o.state (cond (is_confirmed o.answer) (confirming near (inside m) h) h)) rules s
        (λ n k. rw (ne_eqb n 0 (λ e. omega arith)) (nothing s formed)) m verdicts (nothing s formed)
        (λ judged kept v itself. let e = both (eqb p.kind 0) (eqb p.recipient sender) itself in
        let own = eqb-true p.recipient sender e.1 in
        let there : rules.keeps p.recipient ≡ true = rw own kept in
        at_once (either_second (eqb p.kind 1) _ there) _ (settles s formed v 0 _ (still rules _).turns refl
        (λ y. rw (e.0, own) (omega (arith, lowered s formed v 0 (omega arith) y, only_le (eqb sender y) 0)))
        (λ y. rw (e.0, own) (omega (arith, marked s formed v 0 y, only_le (eqb sender y) 1))) (certain judged) (kept, λ _. there)))
        (λ judged kept v kind enough noted-it. at_once (either_first (eqb p.kind 1) _ (eq-eqb p.kind 1 kind)) _
        (to_ledger_lem s formed v noted-it kind enough kept (certain judged)))
        (λ judged kept v there c. let e = reduced_stays s formed v p.amount p.recipient c.other in
        let new = reduced_formed s formed v p.amount in
        let g = rw e at (gains rules lays (reduced s formed v p.amount) p.recipient p.amount new (v.range.recipient c.kind) (rw e c.room)) in
        at_once (either_second (eqb p.kind 1) _ there) _ (settles s formed v p.amount _ g.turns g.index
        (λ y. rw c.kind (omega (arith, g.balances y, lowered s formed v p.amount c.enough y)))
        (λ y. rw c.kind (omega (arith, g.marks y, marked s formed v p.amount y))) (certain judged) (kept, λ _. there)))
        (λ judged kept v g. let far : near ≡ false = neither (eqb p.kind 1) _ (ne_eqb p.kind 1 (λ z. omega (arith, z, g.kind))) g.away in
        rw far (sends s formed v g.noted g kept (certain judged)))

    -- where all accounts are kept, it is credited at once
    pub whole_does : KeepsAll rules → ((judged_by (rules.committee s) m verdicts).number ≡ 0 → Certain (inside m))
        → (let o = on-machine.certificate rules s m verdicts in
        Comes s o.state (cond (is_confirmed o.answer) (Event.credited (inside m) ∷ Event.confirmed (inside m) ∷ h) h))
    whole_does all certain =
        let near : is_near rules (inside m) ≡ true = either_second (eqb (payment (inside m)).kind 1) _ (all (payment (inside m)).recipient) in
        rw near at (certificate_does certain)

    -- a funding order of the next index that was given
    funded_does : (let o = funding m in let a = o.account.0 in
        rules.keeps a ≡ true → Funded (last_index s) o (record_of rules s a) → rules.may_tally s 0 o.amount ≡ true
        → GaveAs given m o.index.0 → Comes s (after_funding rules s o) (Event.funded m ∷ h))
    funded_does kept v noted-it gave =
        let o = funding m in
        let a = o.account.0 in
        let t = rules.tallied s 0 o.amount in
        let moved = tallied_moved rules lays s 0 o.amount formed.state noted-it in
        let e : record_of rules t a ≡ record_of rules s a = moved_record rules s rules t moved a v.range.account in
        let i : o.index.0 ≡ suc (last_index t) = omega (arith, v.index, moved.index) in
        let w : Funded (last_index t) o (record_of rules t a) = record { range = v.range; index = omega arith; room = rw e v.room } in
        rw e at (since s t _ _ moved (takes t (moved_formed rules s rules t moved formed) kept w (rw i at gave)))

    -- a funding order with a good verdict was given
    pub funding_does : KeepsAll rules → Numbered given → (laid m funding_fields ≡ true → length verdicts ≡ 1 → good verdicts ≡ true → In m given)
        → (let o = on-machine.funding_order rules s m verdicts in Comes s o.state (noted o.answer (Event.funded m) h))
    funding_does all numbered gave =
        funding_cases (λ o. Comes s o.state (noted o.answer (Event.funded m) h)) rules s
        (λ n k. rw (ne_eqb n 0 (λ e. omega arith)) (nothing s formed)) m verdicts
        (λ _ away _ _. absurd (false≢true (sym away ∙ all (funding m).account.0)))
        (λ was kept v noted-it. funded_does kept v noted-it (given_as given m numbered (gave was.laid_down was.single was.verdict_good)))

-- the committee stays
module _ (rules : Rules) (lays : Lays rules) (s m verdicts : List ℕ) where
  -- where a record is written, and so whatever a call comes to
  seats : (t : List ℕ) (a : ℕ) (r : Record) → rules.committee (with_record rules t a r) ≡ rules.committee t
  seats t a r = lays.records_seats t _ _ (omega arith)

  pub order_seats : rules.committee (on-machine.order rules s m verdicts).state ≡ rules.committee s
  order_seats = order_comes (λ o. rules.committee o.state ≡ rules.committee s) rules s (λ _. refl) m verdicts (λ _. seats _ _ _)

  pub certificate_seats : rules.committee (on-machine.certificate rules s m verdicts).state ≡ rules.committee s
  certificate_seats =
      certificate_comes (λ o. rules.committee o.state ≡ rules.committee s) rules s (λ _. refl) m verdicts
      (λ _ _. seats _ _ _) (λ _ _ _ _. seats _ _ _ ∙ lays.tally_seats s _ _) (λ _ _. seats _ _ _ ∙ seats _ _ _)
      (λ _ _. lays.sent_seats _ _ _ ∙ seats _ _ _ ∙ lays.tally_seats s _ _)

  pub funding_seats : rules.committee (on-machine.funding_order rules s m verdicts).state ≡ rules.committee s
  funding_seats =
      funding_comes (λ o. rules.committee o.state ≡ rules.committee s) rules s (λ _. refl) m verdicts (λ _ _ _. lays.index_seats s _)
      (λ _ _. seats _ _ _ ∙ lays.index_seats _ _ ∙ lays.tally_seats s _ _)

-- a fresh state follows the empty history
pub fresh_follows : (given : List (List ℕ)) (f own : ℕ) → Follows papers 64 nought given (shown base (fresh_state base f own)) []
unfolding fresh_record
fresh_follows given f own =
    follows_fresh papers 64 nought given _ (λ x k. let e = fresh_record_lem f own x (omega arith) in
    (ap (λ (r : Record). r.next.0) e, ap opened e, ap (λ (r : Record). r.balance) e, fresh_index f own, ap (λ (r : Record). bit r.used) e))
