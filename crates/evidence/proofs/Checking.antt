-- Concrete calls: tests for the premises of a run, so that a run is found by computing. Assumes nothing.
use Prim.Native.Nat.{ℕ, zero, suc, ◌*◌, ◌<◌}
use mathlib.Core.Path.{◌≡◌, sym, ◌∙◌}
use mathlib.Core.Bool.{Bool, true, false, ◌&&◌, not, cond, false≢true}
use mathlib.Core.List.{List, [], ◌∷◌}
use native.Mathlib.Omega.{arith}
use lib.ListN.{length, get_or}
use lib.Dec.{leb, eqb, lit≤}
use borrow.Author.Tests.{leb-true, le-leb, eq-eqb, not-true}
use Rattle.model.specs.Lists.{In, is_in}
use Rattle.model.specs.Histories.{votes}
use Rattle.model.proofs.SumLaws.{is_in_lem}
use Rattle.octets.specs.Octets.{number, bytes, put, same, all_zero}
use Rattle.octets.proofs.Laws.{same_is, is_same}
use Rattle.wire.specs.Fields as fields
use Rattle.wire.specs.Messages.{certificate_fields, funding_fields, payment, is_payment, body_bytes, inside, order_bytes, funding, is_funding, funding_bytes}
use Rattle.wire.specs.Votes.{signers, signers_in, known, rising_from, good, vote_fields, certificate_bytes}
use Rattle.wire.specs.Readers.{read_payment, read_funding, judged_by}
use Rattle.octets.proofs.TestLaws.{both}
use Rattle.records.specs.Records.{record_at, head_bytes, record_bytes, is_pending, in_range, is_record, holding, paid, credited}
use Rattle.records.specs.States as machine
use Rattle.records.specs.Calls as on-machine
use Rattle.ledger.specs.States as ledger
use Rattle.ledger.specs.Calls as on-ledger
use Rattle.safety.specs.Runs.{Call, Moment, after}
use Rattle.safety.specs.Demand3.{Honest, OnHonest, FairVotes, FairFunding, Fair, Run}
use Rattle.evidence.specs.Example.{after_all, beginning}

-- bytes that are not the same are not equal
pub unlike : (b c : List ℕ) → same b c ≡ false → b ≡ c → ⊥
unlike b c h e = false≢true (sym h ∙ rw e (is_same c))

-- the premises of a run as tests
module _ (f : ℕ) (dishonest : ℕ → Bool) where
  -- a machine is honest
  abbrev pub is_honest : ℕ → Bool
  is_honest k = leb k (3 * f) && not (dishonest k)

  -- where the verdict on it is good, a machine that is honest gave its vote for the body
  abbrev pub is_given : Moment → List ℕ → ℕ → ℕ → Bool
  is_given w body k v = cond (eqb v 1 && is_honest k) (is_in same body (votes (w.did k))) true

  -- each of these machines did
  abbrev pub are_given : Moment → List ℕ → List ℕ → List ℕ → Bool
  are_given w body [] verdicts = true
  are_given w body (k ∷ ks) [] = true
  are_given w body (k ∷ ks) (v ∷ vs) = is_given w body k v && are_given w body ks vs

  -- the verdicts on a certificate's votes are fair, and the one on a funding order
  abbrev pub are_fair_votes : Moment → List ℕ → List ℕ → Bool
  are_fair_votes w m verdicts =
      cond (fields.laid m certificate_fields && eqb (length verdicts) (length (signers_in m))) (are_given w (inside m) (signers_in m) verdicts) true

  abbrev pub is_fair_funding : Moment → List ℕ → List ℕ → Bool
  is_fair_funding w m verdicts = cond (fields.laid m funding_fields && same verdicts (1 ∷ [])) (is_in same m w.given) true

  -- a call is on an honest machine, and its verdicts are fair
  abbrev pub is_fair : Moment → Call → Bool
  is_fair w (Call.order k m verdicts) = is_honest k
  is_fair w (Call.certificate k m verdicts) = is_honest k && are_fair_votes w m verdicts
  is_fair w (Call.funding_order k m verdicts) = is_honest k && is_fair_funding w m verdicts
  is_fair w (Call.fund out account amount) = true
  is_fair w (Call.redeem m verdicts) = are_fair_votes w m verdicts

  -- and so are calls one after another
  abbrev pub are_fair : Moment → List Call → Bool
  are_fair w [] = true
  are_fair w (call ∷ calls) = is_fair w call && are_fair (after w call) calls

  -- the test for an honest machine says that it is one
  test_honest : (k : ℕ) → is_honest k ≡ true → Honest f dishonest k
  test_honest k h = let t = both (leb k (3 * f)) (not (dishonest k)) h in (leb-true k (3 * f) t.0, not-true (dishonest k) t.1)

  -- the test for votes says that they were given
  given_votes : (w : Moment) (body ks verdicts : List ℕ) → are_given w body ks verdicts ≡ true
      → (i : ℕ) → i < length ks → get_or verdicts i 0 ≡ 1 → Honest f dishonest (get_or ks i 0) → In body (votes (w.did (get_or ks i 0)))
  given_votes w body [] verdicts h i l v honest = absurd (omega arith)
  given_votes w body (k ∷ ks) [] h i l v honest = absurd (omega arith)
  given_votes w body (k ∷ ks) (v ∷ vs) h zero l e honest =
      is_in_lem same same_is is_same body (votes (w.did k))
      (rw (eq-eqb v 1 e, le-leb k (3 * f) honest.0, honest.1) at (both (is_given w body k v) (are_given w body ks vs) h).0)
  given_votes w body (k ∷ ks) (v ∷ vs) h (suc i) l e honest = given_votes w body ks vs (both (is_given w body k v) (are_given w body ks vs) h).1 i (omega arith) e honest

  -- the tests for verdicts say that they are fair
  pub fair_votes : (w : Moment) (m verdicts : List ℕ) → are_fair_votes w m verdicts ≡ true → FairVotes f dishonest w m verdicts
  fair_votes w m verdicts h l n i k = given_votes w (inside m) (signers_in m) verdicts (rw (l, eq-eqb _ _ n) at h) i (omega arith)

  fair_funding : (w : Moment) (m verdicts : List ℕ) → is_fair_funding w m verdicts ≡ true → FairFunding f dishonest w m verdicts
  unfolding same
  fair_funding w m verdicts h l e = is_in_lem same same_is is_same m w.given (rw (l, e) at h)

  -- the test for a call says what a run asks
  pub fair_call : (w : Moment) (call : Call) → is_fair w call ≡ true → OnHonest f dishonest call × Fair f dishonest w call
  fair_call w (Call.order k m verdicts) h = (test_honest k h, tt)
  fair_call w (Call.certificate k m verdicts) h =
      let t = both (is_honest k) (are_fair_votes w m verdicts) h in
      (test_honest k t.0, fair_votes w m verdicts t.1)
  fair_call w (Call.funding_order k m verdicts) h =
      let t = both (is_honest k) (is_fair_funding w m verdicts) h in
      (test_honest k t.0, fair_funding w m verdicts t.1)
  fair_call w (Call.fund out account amount) h = (tt, tt)
  fair_call w (Call.redeem m verdicts) h = (tt, fair_votes w m verdicts h)

  -- calls that pass the test extend a run
  pub checked : (w : Moment) (calls : List Call) → Run f dishonest w → are_fair w calls ≡ true → Run f dishonest (after_all w calls)
  checked w [] run h = run
  checked w (call ∷ calls) run h =
      let t = both (is_fair w call) (are_fair (after w call) calls) h in
      let c = fair_call w call t.0 in
      checked (after w call) calls (Run.changes_by_call run call c.0 c.1) t.1

-- four machines and the ledger, all fresh
pub begins : (dishonest : ℕ → Bool) → Run 1 dishonest beginning
begins dishonest = Run.starts_fresh (λ k. machine.Layout.plain) ledger.Layout.plain (λ k honest. lit≤ tt) (lit≤ tt)

-- for proofs by computing: to unfold one of these three is to unfold all that its line names. Bytes and messages
unfoldable pub messages : Unit {0}
unfolding is_in number bytes put same all_zero fields.past fields.past_all fields.after fields.ends fields.laid payment is_payment body_bytes order_bytes funding is_funding funding_bytes signers known rising_from good vote_fields certificate_bytes read_payment read_funding judged_by
messages = tt

-- a machine's calls
unfoldable pub machine_calls : Unit {0}
unfolding record_at head_bytes record_bytes is_pending in_range is_record holding paid credited machine.is_base_header machine.is_state machine.fresh_state on-machine.vote_on on-machine.vote on-machine.order on-machine.pay on-machine.settle_on on-machine.settle on-machine.certificate on-machine.credit_on on-machine.credit on-machine.funding_order on-machine.account
machine_calls = tt

-- the ledger's calls
unfoldable pub ledger_calls : Unit {0}
unfolding ledger.is_base_header ledger.is_state ledger.is_redeemed ledger.with_redeemed ledger.fresh_state on-ledger.fund on-ledger.pay on-ledger.redeem
ledger_calls = tt
