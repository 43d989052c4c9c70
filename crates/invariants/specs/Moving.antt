-- What a state keeps that is moved into another layout, or whose header notes something else. Assumes nothing.
use Prim.Native.Nat.{ℕ, zero, suc, ◌≤◌}
use Rattle.std.specs.Prelude.{◌≡◌, true, eqb}
use Rattle.std.proofs.Math.Path.{refl, ap}
use Rattle.std.proofs.Common.{sym, ◌∙◌, arith, lit≤}
use mathlib.Core.List.{List}
use Rattle.std.proofs.Math.ListN.{length}
use borrow.Author.Tests.{eqb-true, eq-eqb}
use Rattle.octets.specs.Octets.{two}
use Rattle.octets.proofs.Laws.{length_put, number_put_out, cut_put_out}
use Rattle.octets.proofs.TestLaws.{both}
use Rattle.wire.specs.declared.kinds.Payment.{Payment}
use Rattle.states.specs.Headers.{last_index}
use Rattle.records.specs.declared.record.Record.{Record}
use Rattle.records.specs.Records.{record_at, is_record}
use Rattle.records.specs.States.{Rules, state_length, is_state, place, record_of}
use Rattle.records.specs.Calls.{debited}
use Rattle.invariants.specs.Meaning.{WellFormed, Moved, Lays, confirmed_by, Limited}
use Rattle.invariants.specs.RecordLaws.{window, record_window, formed_window}

-- a state that is not touched
pub unmoved : (rules : Rules) (s : List ℕ) → is_state rules s ≡ true → Moved rules s rules s
unmoved rules s h = record { state = h; index = refl; windows = λ x k. refl }

module _ (rules : Rules) (s : List ℕ) (rules' : Rules) (t : List ℕ) (m : Moved rules s rules' t) where
  -- the records are the same, and as well formed
  pub moved_record : (x : ℕ) → x ≤ 63 → record_of rules' t x ≡ record_of rules s x
  moved_record x h = record_window t (place rules' x) ∙ ap (λ (w : List ℕ). record_at w 0) (m.windows x h) ∙ sym (record_window s (place rules x))

  pub moved_formed : WellFormed rules s → WellFormed rules' t
  moved_formed f = record {
    state = m.state;
    records = λ x h.
        formed_window x t (place rules' x) ∙ ap (λ (w : List ℕ). is_record x w 0) (m.windows x h) ∙ sym (formed_window x s (place rules x)) ∙ f.records x h;
  }

  -- so as many certificates are confirmed, and balances keep their limits
  moved_confirmed : (n : ℕ) → n ≤ 64 → confirmed_by rules' t n ≡ confirmed_by rules s n
  unfolding confirmed_by
  moved_confirmed zero h = refl
  moved_confirmed (suc n) h = omega (arith, moved_confirmed n (omega arith), ap (λ (r : Record). r.next.0) (moved_record n (omega arith)))

  pub moved_limited : Limited rules s → Limited rules' t
  moved_limited l = record {
    formed = moved_formed l.formed;
    index = omega (arith, m.index, l.index);
    least = λ x h. rw (moved_record x h) (l.least x h);
    most = λ x h. rw (moved_record x h) (omega (arith, l.most x h, m.index, moved_confirmed 64 (lit≤ tt)));
  }

-- what the header notes of balances: the state is moved by it, by its own rules
module _ (rules : Rules) (l : Lays rules) (s : List ℕ) (out into : ℕ) where
  pub tallied_length : length (rules.tallied s out into) ≡ length s
  tallied_length = let t = l.tally_put s out into in ap length t.is_put ∙ length_put s t.at t.bytes

  pub tallied_moved : is_state rules s ≡ true → rules.may_tally s out into ≡ true → Moved rules s rules (rules.tallied s out into)
  unfolding is_state
  tallied_moved h noted =
      let t = l.tally_put s out into in
      let x = both (eqb (length s) (state_length rules)) (rules.is_header s) h in
      let size : length s ≡ state_length rules = eqb-true _ _ x.0 in
      record {
        state = rw (tallied_length, eq-eqb (length s) (state_length rules) size) (l.tally_free s out into (omega arith) noted x.1);
        index = ap last_index t.is_put ∙ number_put_out two s t.at t.bytes 2 (λ j p q u v. omega (arith, t.behind_index));
        windows = λ x k.
            ap (λ (z : List ℕ). window z (place rules x)) t.is_put
            ∙ cut_put_out s t.at t.bytes (place rules x) 72 (λ j p q u v. omega (arith, t.before_records));
      }

-- a credit that is sent moves the state where the amount left
pub sending_moved : (rules : Rules) → Lays rules → (s : List ℕ) (p : Payment) (r : Record) → rules.may_send s ≡ true
    → is_state rules (debited rules s p r) ≡ true
    → Moved rules (debited rules s p r) rules (rules.sent (debited rules s p r) p.recipient p.amount)
sending_moved rules l s p r may h = l.sent_moves _ p.recipient p.amount h (l.send_free s p.amount 0 p.sender.0 _ may)
