-- What the tests of a record and a state say of their numbers. Assumes nothing.
use Rattle.std.proofs.Common.{◌≡◌, ℕ, suc, ◌+◌, ◌-◌, ◌≤◌, Bool, true, false, Option, None, Some, MatchOption, ◌≢◌, leb, List, ◌++◌, length, replicate, ap, ◌∙◌, arith, length-append, eqb-true, leb-true}
use mathlib.Core.Bool.{and-eq-true_iff}
use Rattle.std.specs.Array.{IsWholeChunk}
use Rattle.octets.specs.Octets.{one, number, bytes, put}
use Rattle.octets.proofs.Laws.{length_bytes}
use Rattle.wire.specs.Numbers.{is_faults}
use Rattle.octets.proofs.TestLaws.{both}
use Rattle.states.specs.Headers.{fresh_bytes}
use Rattle.records.specs.Balances.{highest}
use Rattle.records.specs.Records.{head_bytes, in_range, is_record, record_at, Fits, holding, paid, credited}
use Rattle.records.specs.States.{base, is_state, is_base_header}
use Rattle.records.specs.declared.record.Record.{Record}

-- numbers in range fit their bytes
pub record InRange (used waiting next balance : ℕ) : Type 0 where
  pub used_most : used ≤ 1
  pub waiting_most : waiting ≤ 57
  pub next_most : next ≤ 4_096
  pub balance_most : balance ≤ highest

pub in_range_lem : (used waiting next balance : ℕ) → in_range used waiting next balance ≡ true → InRange used waiting next balance
unfolding in_range
in_range_lem used waiting next balance e =
    let a = both (leb used 1) _ e in
    let b = both (leb waiting 57) _ a.1 in
    let c = both (leb next 4_096) _ b.1 in
    record { used_most = leb-true _ _ a.0; waiting_most = leb-true _ _ b.0; next_most = leb-true _ _ c.0; balance_most = leb-true _ _ c.1 }

-- twelve bytes stand before the pending body
pub length_head : (used : Bool) (waiting next balance : ℕ) → length (head_bytes used waiting next balance) ≡ 12
unfolding head_bytes
length_head used waiting next balance = simp (length-append, length_bytes)

-- a well-formed record can be written again
pub formed_fits : (account : ℕ) (s : List ℕ) (at : ℕ) → is_record account s at ≡ true → Fits (record_at s at)
unfolding is_record record_at
formed_fits account s at e =
    let n = in_range_lem _ _ _ _ (both _ _ e).0 in
    record { waiting = n.waiting_most; next = n.next_most; balance = n.balance_most }

-- the own number behind f: a fresh state
pub own_put : {t u : List ℕ} (f own n : ℕ) → t ≡ fresh_bytes (suc (suc n)) f → u ≡ put t 1 (bytes one own) → u ≡ bytes one f ++ (bytes one own ++ replicate n 0)
unfolding put bytes
own_put f own n a b =
    let e : suc (suc n) - 1 ≡ suc n = omega arith in
    b ∙ ap (λ (l : List ℕ). put l 1 (bytes one own)) (rw e at a)

-- a pending body of a well-formed record has room in it
pub pending_fits : (account : ℕ) (s : List ℕ) (at : ℕ) → is_record account s at ≡ true → number one s (at + 1) ≤ 57
unfolding is_record
pending_fits account s at e = (in_range_lem _ _ _ _ (both _ _ e).0).waiting_most

-- a record that fits its bytes fits them after a change
pub fits_holding : (r : Record) (body : List ℕ) → Fits r → length body ≤ 57 → Fits (holding r body)
unfolding holding
fits_holding r body f h = record { waiting = h; next = f.next; balance = f.balance }

pub fits_paid : (r : Record) (n : ℕ) → Fits r → r.next.0 ≤ 4_095 → Fits (paid r n)
unfolding paid
fits_paid r n f h = record { waiting = omega arith; next = omega arith; balance = omega (arith, f.balance) }

pub fits_credited : (r : Record) (n : ℕ) → Fits r → r.balance + n ≤ highest → Fits (credited r n)
unfolding credited
fits_credited r n f h = record { waiting = f.waiting; next = f.next; balance = h }

-- a state with its length and a well-formed header
pub state_length_lem : (s : List ℕ) → is_state base s ≡ true → length s ≡ 4616
unfolding is_state
state_length_lem s e = eqb-true _ _ (both _ _ e).0

-- such a state is an array
pub opened : {X : Type 0} (now : X → List ℕ) (o : Option X) (s : List ℕ) → is_state base s ≡ true → MatchOption o (length s ≢ 4616) (λ x. IsWholeChunk s (now x) 4616)
    → MatchOption o (is_state base s ≡ false) (λ x. (now x ≡ s) × (is_state base s ≡ true))
opened now None s t h = absurd (h (state_length_lem s t))
opened now (Some x) s t h = (h.same, t)

pub state_faults : (s : List ℕ) → is_state base s ≡ true → is_faults (number one s 0) ≡ true
unfolding is_state is_base_header
state_faults s e = let tests = simp and-eq-true_iff at e in tests.1.0.0
