-- What a call does with the answer of a reader or a judge: a refusal is passed on, and with values it goes on. Assumes nothing.
use mathlib.Core.Path.{◌≡◌, refl, ◌∙◌}
use mathlib.Core.Bool.{true, false}
use mathlib.Core.List.{List}
use Prim.Native.Nat.{ℕ}
use lib.Dec.{eqb}
use Rattle.std.specs.Prelude.{Result}
use Rattle.std.specs.Result.{IsErr, IsErrAnd}
use Rattle.std.proofs.lemmas.Result.{err_from_is_err_and}
use Rattle.wire.specs.Refusals.{Said, gives, refuses, refusal_number, said}
use Rattle.wire.specs.declared.answers.Refusal.{Refusal}
use Rattle.wire.specs.Numbers.{is_faults}
use Rattle.wire.specs.Votes.{committee}
use Rattle.wire.specs.Readers.{judged, judged_by}
use Rattle.states.specs.Headers.{faults_in}
use Rattle.states.specs.Outcomes.{Outcome, outcome, refused, unless}

-- no refusal has the number 0
pub numbered : (r : Refusal) → eqb (refusal_number r) 0 ≡ false
numbered Refusal.Malformed = refl
numbered Refusal.OutOfRange = refl
numbered Refusal.VerdictCount = refl
numbered Refusal.BadVerdict = refl
numbered Refusal.UnknownMachine = refl
numbered Refusal.VotesNotRising = refl
numbered Refusal.TooFewVotes = refl
numbered Refusal.SenderNotInUse = refl
numbered Refusal.AnotherPending = refl
numbered Refusal.NotNextSequence = refl
numbered Refusal.BalanceTooLow = refl
numbered Refusal.NotNextIndex = refl
numbered Refusal.NotToLedger = refl
numbered Refusal.AlreadyRedeemed = refl
numbered Refusal.PotTooLow = refl
numbered Refusal.BadState = refl
numbered Refusal.IndexExhausted = refl
numbered Refusal.BufferTooSmall = refl

pub passed_on : (r : Refusal) (s : List ℕ) (rest : Outcome) {said : Said} → refuses (refusal_number r) ≡ said → refused (refusal_number r) s ≡ unless said s rest
passed_on r s rest e = rw (← e, numbered r)

-- so at the exit of a `?`
pub handed_on : {V : Type 0} (values : V → List ℕ) (result : Result V Refusal) (r : Refusal) (s : List ℕ) (rest : Outcome) {answer : Said} → IsErr result × IsErrAnd result (λ x. x ≡ r) → refuses (refusal_number r) ≡ answer
    → outcome (said values result) s ≡ unless answer s rest
handed_on values result r s rest h e = let p = err_from_is_err_and result h.1 in rw (p.1, p.2) (passed_on r s rest e)

pub goes_on : (vs s : List ℕ) (rest : Outcome) {said : Said} → gives vs ≡ said → rest ≡ unless said s rest
goes_on vs s rest e = rw (← e)

-- a certificate is judged by the committee of the state
pub judged_by_lem : (f : ℕ) (s m verdicts : List ℕ) {said : Said} → is_faults (faults_in s) ≡ true → f ≡ faults_in s → said ≡ judged f m verdicts → said ≡ judged_by (committee (faults_in s)) m verdicts
judged_by_lem f s m verdicts t q e = e ∙ rw (q, t)
